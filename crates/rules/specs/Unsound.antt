-- 01, "The device's state", by example: each clause of soundness broken alone, which gets 5 and changes nothing; and a state at the edge of every
-- clause, which is taken. Each line is an event on an M95040, and those on W-202's clauses one on a device without an identification page.
use Rattle.std.specs.Prelude.{◌∷◌}
use Rattle.rules.specs.World.{ℕ, Bool, true, false, List, [], replicate, Instruction, Kind, Level, Event, State, World, world_of, with_pins, with_selection, with_stored, with_state}
use Rattle.rules.specs.Device.{prepared_state}
use Rattle.rules.specs.Call.{replied_as}
use Rattle.rules.specs.Lines.{Line, event, good, astray, busy, chosen}

abbrev refused : State → Line
refused s = event 1 (with_state s good) (Event.Data true) (replied_as 5 2 (with_state s good))

-- A chosen device that received so many bits, of this value, and so many bytes, and has this address.
abbrev received : ℕ → ℕ → ℕ → ℕ → State
received bits value bytes address =
    with_selection address chosen.selection (record { bits = bits; value = value; bytes = bytes; last = 0 }) chosen.command chosen.output chosen

abbrev pub eight_bits : Line
eight_bits = refused (received 8 0 0 0)

abbrev pub value_of_too_many_bits : Line
value_of_too_many_bits = refused (received 3 8 0 0)

abbrev pub seven_bytes : Line
seven_bytes = refused (received 0 0 7 0)

abbrev pub address_past_the_cells : Line
address_past_the_cells = refused (received 0 0 0 512)

-- Status bits, new ones, a cycle, its page start and its microseconds left.
abbrev stored : ℕ → ℕ → Kind → ℕ → ℕ → State
stored status next kind start left = with_stored (record { status = status; wel = false; locked = false }) (record { kind = kind; next = next }) start left prepared_state

abbrev pub status_bit_of_no_device : Line
status_bit_of_no_device = refused (stored 0x10 0 Kind.None 0 0)

abbrev pub srwd_on_the_m95040 : Line
srwd_on_the_m95040 = refused (stored 0x80 0 Kind.None 0 0)

abbrev pub new_status_bit_of_no_device : Line
new_status_bit_of_no_device = refused (stored 0 0x02 Kind.Status 0 5000)

abbrev pub cycle_with_no_time : Line
cycle_with_no_time = refused (stored 0 0 Kind.Array 0 0)

abbrev pub cycle_with_too_much_time : Line
cycle_with_too_much_time = refused (stored 0 0 Kind.Lock 0 5001)

abbrev pub time_with_no_cycle : Line
time_with_no_cycle = refused (stored 0 0 Kind.None 0 1)

abbrev pub start_inside_a_page : Line
start_inside_a_page = refused (stored 0 0 Kind.Array 8 5000)

abbrev pub start_past_the_cells : Line
start_past_the_cells = refused (stored 0 0 Kind.None 512 0)

abbrev pub identification_cycle_elsewhere : Line
identification_cycle_elsewhere = refused (stored 0 0 Kind.Identification 16 5000)

-- Not selected, and yet held, with a bit, with a byte, or with a level at Q.
abbrev resting : ℕ → ℕ → Level → State
resting bits bytes q =
    with_selection 0 prepared_state.selection (record { bits = bits; value = 0; bytes = bytes; last = 0 }) prepared_state.command (record { sending = 0; q = q })
    prepared_state

abbrev pub held_and_not_selected : Line
held_and_not_selected = refused astray

abbrev pub bit_and_not_selected : Line
bit_and_not_selected = refused (resting 1 0 Level.Z)

abbrev pub byte_and_not_selected : Line
byte_and_not_selected = refused (resting 0 1 Level.Z)

abbrev pub level_and_not_selected : Line
level_and_not_selected = refused (resting 0 0 Level.High)

-- Selected with S high, with W low and not seen, and with C low and hold at odds with HOLD.
abbrev selecting : Bool → Bool → Bool → Bool → State
selecting s hold w held =
    with_pins (record { c = false; d = false; s = s; hold = hold; w = w })
    (with_selection 0 (record { selected = true; held = held; seen = false }) chosen.input chosen.command chosen.output chosen)

abbrev pub selected_with_s_high : Line
selected_with_s_high = refused (selecting true true true false)

abbrev pub w_low_and_not_seen : Line
w_low_and_not_seen = refused (selecting false true false false)

abbrev pub held_with_hold_high : Line
held_with_hold_high = refused (selecting false true true true)

abbrev pub not_held_with_hold_low : Line
not_held_with_hold_low = refused (selecting false false true false)

-- In a cycle, with the code of READ in and not turned away.
abbrev reading : State → Bool → State
reading s away =
    with_selection 511 (record { selected = true; held = true; seen = false }) (record { bits = 7; value = 127; bytes = 6; last = 255 })
    (record { instruction = Instruction.Read; away = away }) (record { sending = 0; q = Level.Low })
    (with_pins (record { c = true; d = false; s = false; hold = true; w = true }) s)

abbrev pub read_taken_in_a_cycle : Line
read_taken_in_a_cycle = refused (reading (busy 5000) false)

-- At every edge: seven bits of 1, six bytes and any last one, the last cell, the last page, all the write time; held with HOLD high while C is high.
abbrev pub sound_at_its_edges : Line
sound_at_its_edges =
    event 1 (with_state (reading (busy 5000) true) good) (Event.Clock true) (replied_as 0 2 (with_state (reading (busy 5000) true) good))

-- W-202, without an identification page: nothing of it may be there. Not selected and all else at rest, a lock, a cycle of the page, or an
-- instruction of it that a device with a page had left; nor such an instruction in a selection. What another command left is taken. The lock and
-- RDID stand in the state of an M95128, where an M95128-D can leave them; the rest in that of an M95010, which is quicker to compute.
abbrev small : State → World
small s = world_of s (replicate 128 7) [] (replicate 32 1) (replicate 8 16)

abbrev refused_there : State → Line
refused_there s = event 5 (small s) (Event.Data true) (replied_as 5 2 (small s))

abbrev plain : State → World
plain s = world_of s (replicate 16_384 7) [] (replicate 128 1) (replicate 256 64)

abbrev refused_plain : State → Line
refused_plain s = event 7 (plain s) (Event.Data true) (replied_as 5 2 (plain s))

abbrev left : Instruction → State
left i = with_selection 0 prepared_state.selection prepared_state.input (record { instruction = i; away = false }) prepared_state.output prepared_state

abbrev pub locked_without_a_page : Line
locked_without_a_page = refused_plain (with_stored (record { status = 0; wel = false; locked = true }) prepared_state.cycle 0 0 prepared_state)

abbrev pub identification_cycle_without_a_page : Line
identification_cycle_without_a_page = refused_there (stored 0 0 Kind.Identification 0 5000)

abbrev pub lock_cycle_without_a_page : Line
lock_cycle_without_a_page = refused_there (stored 0 0 Kind.Lock 0 5000)

abbrev pub rdid_left_without_a_page : Line
rdid_left_without_a_page = refused_plain (left Instruction.Rdid)

abbrev pub rdls_left_without_a_page : Line
rdls_left_without_a_page = refused_there (left Instruction.Rdls)

abbrev pub wrid_left_without_a_page : Line
wrid_left_without_a_page = refused_there (left Instruction.Wrid)

abbrev pub lid_left_without_a_page : Line
lid_left_without_a_page = refused_there (left Instruction.Lid)

abbrev pub rdid_selected_without_a_page : Line
rdid_selected_without_a_page =
    refused_there (with_selection 0 chosen.selection chosen.input (record { instruction = Instruction.Rdid; away = false }) chosen.output chosen)

abbrev pub write_left_without_a_page : Line
write_left_without_a_page = event 5 (small (left Instruction.Write)) (Event.Select true) (replied_as 0 2 (small (left Instruction.Write)))

abbrev pub unsound : List Line
unsound =
    eight_bits ∷ value_of_too_many_bits ∷ seven_bytes ∷ address_past_the_cells ∷ status_bit_of_no_device ∷ srwd_on_the_m95040
    ∷ new_status_bit_of_no_device ∷ cycle_with_no_time ∷ cycle_with_too_much_time ∷ time_with_no_cycle ∷ start_inside_a_page
    ∷ start_past_the_cells ∷ identification_cycle_elsewhere ∷ held_and_not_selected ∷ bit_and_not_selected ∷ byte_and_not_selected
    ∷ level_and_not_selected ∷ selected_with_s_high ∷ w_low_and_not_seen ∷ held_with_hold_high ∷ not_held_with_hold_low ∷ read_taken_in_a_cycle
    ∷ sound_at_its_edges ∷ locked_without_a_page ∷ identification_cycle_without_a_page ∷ lock_cycle_without_a_page
    ∷ rdid_left_without_a_page ∷ rdls_left_without_a_page ∷ wrid_left_without_a_page ∷ lid_left_without_a_page ∷ rdid_selected_without_a_page
    ∷ write_left_without_a_page ∷ []
