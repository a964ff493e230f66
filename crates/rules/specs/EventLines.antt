-- A single event by example: each number that it can give, with all that it leaves. `Unsound` has what gives 5.
use Rattle.std.specs.Prelude.{◌∷◌, ◌++◌}
use Rattle.rules.specs.World.{ℕ, Bool, true, false, List, [], replicate, Instruction, Kind, Event, Selection, Cycle, State, world_of, with_pins, with_selection, with_stored, with_state}
use Rattle.rules.specs.Device.{prepared_state}
use Rattle.rules.specs.Call.{replied_as}
use Rattle.rules.specs.Lines.{Line, event, good, no_cells, no_identification, no_latch, no_counts, bad_mark, busy, in_cycle, blanking, counting, miscounted, chosen, small, page_of_none}

-- A single event: taken, and refused with 1 to 4, 14, 5 and 11. Refused it answers 2, and the world is as it was.
abbrev pub event_taken : Line
event_taken = event 1 good (Event.Select false) (replied_as 0 2 (with_state chosen good))

abbrev pub event_device : Line
event_device = event 0 no_cells Event.Power (replied_as 1 2 no_cells)

abbrev pub event_cells : Line
event_cells = event 1 no_cells Event.Power (replied_as 2 2 no_cells)

abbrev pub event_identification : Line
event_identification = event 1 no_identification Event.Power (replied_as 3 2 no_identification)

abbrev pub event_latch : Line
event_latch = event 1 no_latch Event.Power (replied_as 4 2 no_latch)

abbrev pub event_counts : Line
event_counts = event 1 no_counts Event.Power (replied_as 14 2 no_counts)

abbrev pub event_mark : Line
event_mark = event 1 bad_mark Event.Power (replied_as 5 2 bad_mark)

abbrev pub event_power_in_a_cycle : Line
event_power_in_a_cycle = event 1 in_cycle Event.Power (replied_as 11 2 in_cycle)

-- W-204: the wait that would end an array cycle is refused where its page has a wrong count, and then no time has passed. A shorter wait looks at
-- no count; and where the page's count is right it is taken afresh, whatever those of other pages say. Half the page is blanked.
abbrev pub event_wrong_count : Line
event_wrong_count = event 1 miscounted (Event.Wait 5000) (replied_as 15 2 miscounted)

abbrev pub event_wrong_count_of_a_blank_page : Line
event_wrong_count_of_a_blank_page = event 1 (counting 0) (Event.Wait 5001) (replied_as 15 2 (counting 0))

abbrev pub event_count_of_what_comes : Line
event_count_of_what_comes = event 1 (counting 8) (Event.Wait 5000) (replied_as 15 2 (counting 8))

abbrev pub event_wrong_count_and_a_shorter_wait : Line
event_wrong_count_and_a_shorter_wait = event 1 miscounted (Event.Wait 4999) (replied_as 0 2 (with_state (busy 1) miscounted))

abbrev ended : State
ended = with_stored (record { status = 0x0C; wel = false; locked = true }) (record { kind = Kind.None; next = 0x04 }) 496 0 prepared_state

abbrev pub event_right_count : Line
event_right_count =
    event 1 (counting 16) (Event.Wait 5000)
    (replied_as 0 2 (world_of ended (replicate 496 7 ++ replicate 8 0xFF ++ replicate 8 7) good.identification blanking (replicate 31 9 ++ 8 ∷ [])))

-- A cycle of another kind looks at no count, and S's rise, which starts one, at none.
abbrev status_cycle : ℕ → State
status_cycle left = with_stored (record { status = 0; wel = true; locked = false }) (record { kind = Kind.Status; next = 0x04 }) 496 left prepared_state

abbrev status_over : State
status_over = with_stored (record { status = 0x04; wel = false; locked = false }) (record { kind = Kind.None; next = 0x04 }) 496 0 prepared_state

abbrev pub event_wrong_count_in_a_status_cycle : Line
event_wrong_count_in_a_status_cycle =
    event 1 (with_state (status_cycle 5000) miscounted) (Event.Wait 5000) (replied_as 0 2 (with_state status_over miscounted))

-- WEL is set, and a WRITE of one byte to cell 1F0h has come in, or is being written.
abbrev write_in : Bool → Selection → ℕ → Cycle → ℕ → ℕ → State
write_in s x bytes cycle start left =
    with_pins (record { c = false; d = false; s = s; hold = true; w = true })
    (with_selection 496 x (record { bits = 0; value = 0; bytes = bytes; last = 0xFF }) (record { instruction = Instruction.Write; away = false })
    prepared_state.output (with_stored (record { status = 0; wel = true; locked = false }) cycle start left prepared_state))

abbrev pub event_wrong_count_at_the_rise_of_s : Line
event_wrong_count_at_the_rise_of_s =
    event 1 (with_state (write_in false chosen.selection 3 (record { kind = Kind.None; next = 0 }) 0 0) miscounted) (Event.Select true)
    (replied_as 0 2 (with_state (write_in true prepared_state.selection 0 (record { kind = Kind.Array; next = 0 }) 496 5000) miscounted))

-- W-202: an identification byte where there is no page. And the codes as their eighth bit comes in: 0Bh on the M95020 is READ and its address
-- starts from 0, where the M95040 starts from A8; 83h is as unknown there in a cycle as out of it, and turned away.
abbrev pub event_a_page_where_there_is_none : Line
event_a_page_where_there_is_none = event 6 page_of_none Event.Power (replied_as 3 2 page_of_none)

-- Seven bits of a code with D at its last bit, and the whole code.
abbrev coding : ℕ → State → State
coding value s =
    with_pins (record { c = false; d = true; s = false; hold = true; w = true })
    (with_selection 0 chosen.selection (record { bits = 7; value = value; bytes = 0; last = 0 }) chosen.command chosen.output s)

abbrev coded : ℕ → ℕ → Instruction → Bool → State → State
coded code address i away s =
    with_pins (record { c = true; d = true; s = false; hold = true; w = true })
    (with_selection address chosen.selection (record { bits = 0; value = 0; bytes = 1; last = code }) (record { instruction = i; away = away })
    chosen.output s)

abbrev pub event_a8 : Line
event_a8 =
    event 1 (with_state (coding 0x05 prepared_state) good) (Event.Clock true)
    (replied_as 0 2 (with_state (coded 0x0B 1 Instruction.Read false prepared_state) good))

abbrev pub event_no_a8 : Line
event_no_a8 =
    event 6 (with_state (coding 0x05 prepared_state) small) (Event.Clock true)
    (replied_as 0 2 (with_state (coded 0x0B 0 Instruction.Read false prepared_state) small))

abbrev writing : State
writing = with_stored (record { status = 0; wel = true; locked = false }) (record { kind = Kind.Array; next = 0 }) 0 1 prepared_state

abbrev pub event_83h_in_a_cycle : Line
event_83h_in_a_cycle =
    event 6 (with_state (coding 0x41 writing) small) (Event.Clock true)
    (replied_as 0 2 (with_state (coded 0x83 0 Instruction.Unknown true writing) small))

abbrev pub events : List Line
events =
    event_taken ∷ event_device ∷ event_cells ∷ event_identification ∷ event_latch
    ∷ event_counts ∷ event_mark ∷ event_power_in_a_cycle
    ∷ event_wrong_count ∷ event_wrong_count_of_a_blank_page ∷ event_count_of_what_comes ∷ event_wrong_count_and_a_shorter_wait
    ∷ event_right_count ∷ event_wrong_count_in_a_status_cycle ∷ event_wrong_count_at_the_rise_of_s
    ∷ event_a_page_where_there_is_none ∷ event_a8 ∷ event_no_a8 ∷ event_83h_in_a_cycle ∷ []
