-- A trace by example: each number that running one can give, with the records done, the bytes taken, the answers and all that is left.
use Rattle.std.specs.Prelude.{◌∷◌, ◌++◌}
use Rattle.rules.specs.World.{ℕ, true, false, List, [], replicate, Instruction, Kind, Level, State, World, world_of, with_pins, with_selection, with_stored, with_state}
use Rattle.rules.specs.Device.{prepared_state}
use Rattle.rules.specs.Trace.{Progress, progress_of}
use Rattle.rules.specs.Lines.{Line, run, good, no_cells, no_identification, no_latch, no_counts, bad_mark, busy, in_cycle, miscounted, chosen, page_of_none}

-- Records.
abbrev pin : ℕ → List ℕ
pin b = 3 ∷ 0 ∷ 1 ∷ 0 ∷ b ∷ []

abbrev wait : ℕ → ℕ → ℕ → ℕ → List ℕ
wait a b c d = 6 ∷ 0 ∷ 2 ∷ 0 ∷ a ∷ b ∷ c ∷ d ∷ []

abbrev power : List ℕ
power = 2 ∷ 0 ∷ 3 ∷ 0 ∷ []

-- A trace taken to its end, and to its limit, behind which nothing is looked at.
abbrev pub run_to_its_end : Line
run_to_its_end = run 1 good (pin 4 ++ power) (8 ∷ 9 ∷ 9 ∷ []) 5 (progress_of 0 9 2 (with_state (with_pins chosen.pins prepared_state) good) (2 ∷ 2 ∷ 9 ∷ []))

abbrev pub run_to_its_limit : Line
run_to_its_limit = run 1 good (pin 4 ++ 1 ∷ []) (9 ∷ 9 ∷ []) 1 (progress_of 0 5 1 (with_state chosen good) (2 ∷ 9 ∷ []))

-- Each pin by its number: D, S and W of a prepared device moved, then C and HOLD.
abbrev watched : State
watched =
    with_pins (record { c = false; d = true; s = false; hold = true; w = false })
    (with_selection 0 (record { selected = true; held = false; seen = true }) prepared_state.input prepared_state.command prepared_state.output prepared_state)

abbrev pub run_data_select_protect : Line
run_data_select_protect = run 1 good (pin 3 ++ pin 4 ++ pin 8) (9 ∷ 9 ∷ 9 ∷ []) 3 (progress_of 0 15 3 (with_state watched good) (2 ∷ 2 ∷ 2 ∷ []))

abbrev pub run_clock_hold : Line
run_clock_hold =
    run 1 good (pin 1 ++ pin 6) (9 ∷ 9 ∷ []) 2
    (progress_of 0 10 2 (with_state (with_pins (record { c = true; d = false; s = true; hold = false; w = true }) prepared_state) good) (2 ∷ 2 ∷ []))

-- A wait of 4999 microseconds leaves one; each of the upper bytes makes it long enough for any cycle. The latch marks its whole page.
abbrev pub run_wait : Line
run_wait = run 1 in_cycle (wait 0x87 0x13 0 0) (9 ∷ []) 1 (progress_of 0 8 1 (with_state (busy 1) good) (2 ∷ []))

abbrev over : World
over =
    world_of
    (with_stored (record { status = 0x0C; wel = false; locked = true }) (record { kind = Kind.None; next = 0x04 }) 496 0 prepared_state)
    (replicate 496 7 ++ replicate 16 1) good.identification good.latch good.counts

abbrev pub run_wait_third_byte : Line
run_wait_third_byte = run 1 in_cycle (wait 0 0 1 0) (9 ∷ []) 1 (progress_of 0 8 1 over (2 ∷ []))

abbrev pub run_wait_fourth_byte : Line
run_wait_fourth_byte = run 1 in_cycle (wait 0 0 0 1) (9 ∷ []) 1 (progress_of 0 8 1 over (2 ∷ []))

-- An answer byte is Q's level: RDSR's top bit is 0 and its bit 1, WEL, is 1.
abbrev sending : ℕ → State
sending bits =
    with_pins (record { c = true; d = false; s = false; hold = true; w = true })
    (with_selection 0 chosen.selection (record { bits = bits; value = 0; bytes = 1; last = 5 })
    (record { instruction = Instruction.Rdsr; away = false }) (record { sending = 2; q = Level.Z })
    (with_stored (record { status = 0; wel = true; locked = false }) prepared_state.cycle 0 0 prepared_state))

abbrev sent : ℕ → Level → State
sent bits q =
    with_pins chosen.pins
    (with_selection 0 chosen.selection (sending bits).input (sending bits).command (record { sending = 2; q = q }) (sending bits))

abbrev pub run_answers_low : Line
run_answers_low = run 1 (with_state (sending 0) good) (pin 0) (9 ∷ []) 1 (progress_of 0 5 1 (with_state (sent 0 Level.Low) good) (0 ∷ []))

abbrev pub run_answers_high : Line
run_answers_high = run 1 (with_state (sending 6) good) (pin 0) (9 ∷ []) 1 (progress_of 0 5 1 (with_state (sent 6 Level.High) good) (1 ∷ []))

-- Refused with 1 to 4, 14 or 5 a trace did nothing, whatever its records and its limit.
abbrev nothing : ℕ → World → Progress
nothing number w = progress_of number 0 0 w (9 ∷ [])

abbrev pub run_device : Line
run_device = run 9 no_cells (1 ∷ []) (9 ∷ []) 1 (nothing 1 no_cells)

abbrev pub run_cells : Line
run_cells = run 1 no_cells (1 ∷ []) (9 ∷ []) 1 (nothing 2 no_cells)

abbrev pub run_identification : Line
run_identification = run 1 no_identification (pin 4) (9 ∷ []) 1 (nothing 3 no_identification)

abbrev pub run_a_page_where_there_is_none : Line
run_a_page_where_there_is_none = run 6 page_of_none (pin 4) (9 ∷ []) 1 (nothing 3 page_of_none)

abbrev pub run_latch : Line
run_latch = run 1 no_latch (pin 4) (9 ∷ []) 1 (nothing 4 no_latch)

abbrev pub run_counts : Line
run_counts = run 1 no_counts (pin 4) (9 ∷ []) 1 (nothing 14 no_counts)

abbrev pub run_mark : Line
run_mark = run 1 bad_mark (pin 4) (9 ∷ []) 0 (nothing 5 bad_mark)

-- Refused at a record: 6 for its first four bytes, 7, 8, 6 for its body, 9, 10, then 11 or 15. The records before it are done, the answers behind it untouched.
abbrev pub run_no_four_bytes : Line
run_no_four_bytes = run 1 good (pin 4 ++ 3 ∷ 0 ∷ 1 ∷ []) (9 ∷ 9 ∷ []) 2 (progress_of 6 5 1 (with_state chosen good) (2 ∷ 9 ∷ []))

abbrev pub run_unknown_kind : Line
run_unknown_kind = run 1 good (9 ∷ 0 ∷ 4 ∷ 0 ∷ []) (9 ∷ []) 1 (nothing 7 good)

abbrev pub run_kind_of_two_bytes : Line
run_kind_of_two_bytes = run 1 good (3 ∷ 0 ∷ 1 ∷ 1 ∷ 4 ∷ []) (9 ∷ []) 1 (nothing 7 good)

abbrev pub run_wrong_length : Line
run_wrong_length = run 1 good (9 ∷ 0 ∷ 1 ∷ 0 ∷ []) (9 ∷ []) 1 (nothing 8 good)

abbrev pub run_length_of_two_bytes : Line
run_length_of_two_bytes = run 1 good (3 ∷ 1 ∷ 1 ∷ 0 ∷ 4 ∷ []) (9 ∷ []) 1 (nothing 8 good)

abbrev pub run_no_body : Line
run_no_body = run 1 good (3 ∷ 0 ∷ 1 ∷ 0 ∷ []) [] 1 (progress_of 6 0 0 good [])

abbrev pub run_no_pin : Line
run_no_pin = run 1 good (pin 10) [] 1 (progress_of 9 0 0 good [])

abbrev pub run_no_answer_left : Line
run_no_answer_left = run 1 in_cycle (pin 2 ++ power) (9 ∷ []) 2 (progress_of 10 5 1 in_cycle (2 ∷ []))

abbrev pub run_power_in_a_cycle : Line
run_power_in_a_cycle = run 1 in_cycle (pin 2 ++ power) (9 ∷ 9 ∷ []) 2 (progress_of 11 5 1 in_cycle (2 ∷ 9 ∷ []))

-- W-204: 10 comes before 15 too, and a wait that is refused with 15 is refused whole.
abbrev pub run_no_answer_left_for_a_wrong_count : Line
run_no_answer_left_for_a_wrong_count = run 1 miscounted (pin 2 ++ wait 0x88 0x13 0 0) (9 ∷ []) 2 (progress_of 10 5 1 miscounted (2 ∷ []))

abbrev pub run_wrong_count : Line
run_wrong_count = run 1 miscounted (pin 2 ++ wait 0x88 0x13 0 0 ++ pin 2) (9 ∷ 9 ∷ 9 ∷ []) 3 (progress_of 15 5 1 miscounted (2 ∷ 9 ∷ 9 ∷ []))

abbrev pub runs : List Line
runs =
    run_to_its_end ∷ run_to_its_limit ∷ run_data_select_protect ∷ run_clock_hold ∷ run_wait ∷ run_wait_third_byte ∷ run_wait_fourth_byte
    ∷ run_answers_low ∷ run_answers_high ∷ run_device ∷ run_cells ∷ run_identification ∷ run_a_page_where_there_is_none ∷ run_latch
    ∷ run_counts ∷ run_mark
    ∷ run_no_four_bytes ∷ run_unknown_kind ∷ run_kind_of_two_bytes ∷ run_wrong_length ∷ run_length_of_two_bytes ∷ run_no_body ∷ run_no_pin
    ∷ run_no_answer_left ∷ run_power_in_a_cycle
    ∷ run_no_answer_left_for_a_wrong_count ∷ run_wrong_count ∷ []
