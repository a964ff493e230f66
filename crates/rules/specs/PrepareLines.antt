-- Preparing, counting, loading and what is stored, by example: each number that these calls can give, with all that they leave.
use Rattle.std.specs.Prelude.{◌∷◌, ◌++◌}
use Rattle.rules.specs.World.{ℕ, Bool, true, false, List, [], replicate, Kind, State, with_stored}
use Rattle.rules.specs.Device.{prepared_state}
use Rattle.rules.specs.Call.{prepared_as, counted_as, stored_as, loaded_as}
use Rattle.rules.specs.Lines.{Line, prepare, count, load, stored, lent}

-- Preparing: fills all buffers whatever they held, a mark of 9 and a count of 6 included; refused it leaves them and gives the prepared state.
abbrev pub prepare_taken : Line
prepare_taken =
    prepare 1 (replicate 512 0) (replicate 16 0) (replicate 32 9) (replicate 32 6)
    (prepared_as 0 (lent (replicate 512 0xFF) (replicate 16 0xFF) (replicate 32 0) (replicate 32 0)))

abbrev pub prepare_device_eight : Line
prepare_device_eight = prepare 8 (7 ∷ []) (8 ∷ []) (9 ∷ []) (6 ∷ []) (prepared_as 1 (lent (7 ∷ []) (8 ∷ []) (9 ∷ []) (6 ∷ [])))

abbrev pub prepare_device_zero : Line
prepare_device_zero = prepare 0 [] [] [] [] (prepared_as 1 (lent [] [] [] []))

abbrev pub prepare_cells : Line
prepare_cells = prepare 1 (7 ∷ []) (8 ∷ []) (9 ∷ []) (6 ∷ []) (prepared_as 2 (lent (7 ∷ []) (8 ∷ []) (9 ∷ []) (6 ∷ [])))

abbrev pub prepare_identification : Line
prepare_identification = prepare 1 (replicate 512 7) (8 ∷ []) (9 ∷ []) (6 ∷ []) (prepared_as 3 (lent (replicate 512 7) (8 ∷ []) (9 ∷ []) (6 ∷ [])))

abbrev pub prepare_latch : Line
prepare_latch =
    prepare 1 (replicate 512 7) (replicate 16 8) (replicate 16 9) (6 ∷ []) (prepared_as 4 (lent (replicate 512 7) (replicate 16 8) (replicate 16 9) (6 ∷ [])))

-- W-204: a count for each page, no more and no less.
abbrev pub prepare_counts : Line
prepare_counts =
    prepare 1 (replicate 512 7) (replicate 16 8) (replicate 32 9) (replicate 31 6)
    (prepared_as 14 (lent (replicate 512 7) (replicate 16 8) (replicate 32 9) (replicate 31 6)))

abbrev pub prepare_counts_of_bytes : Line
prepare_counts_of_bytes =
    prepare 5 (replicate 128 7) [] (replicate 32 9) (replicate 16 6) (prepared_as 14 (lent (replicate 128 7) [] (replicate 32 9) (replicate 16 6)))

-- W-202: the two smallest boards are prepared with no identification byte, and any such byte is refused; `Unsound` has the M95128's lengths.
abbrev pub prepare_the_m95010 : Line
prepare_the_m95010 = prepare 5 (replicate 128 0) [] (replicate 32 9) (replicate 8 6) (prepared_as 0 (lent (replicate 128 0xFF) [] (replicate 32 0) (replicate 8 0)))

abbrev pub prepare_the_m95020 : Line
prepare_the_m95020 = prepare 6 (replicate 256 0) [] (replicate 32 9) (replicate 16 6) (prepared_as 0 (lent (replicate 256 0xFF) [] (replicate 32 0) (replicate 16 0)))

abbrev pub prepare_a_page_where_there_is_none : Line
prepare_a_page_where_there_is_none =
    prepare 5 (replicate 128 7) (replicate 16 8) (9 ∷ []) (6 ∷ []) (prepared_as 3 (lent (replicate 128 7) (replicate 16 8) (9 ∷ []) (6 ∷ [])))

-- Counting afresh: on an M95010 a blank page, a full one, one with a single cell other than FFh, and what was counted before does not matter; refused it leaves the counts.
abbrev cells : List ℕ
cells = replicate 16 0xFF ++ replicate 16 0 ++ replicate 15 0xFF ++ 0xFE ∷ replicate 80 7

abbrev pub count_taken : Line
count_taken = count 5 cells (replicate 8 9) (counted_as 0 (0 ∷ 16 ∷ 1 ∷ replicate 5 16))

abbrev pub count_device : Line
count_device = count 8 (7 ∷ []) (6 ∷ []) (counted_as 1 (6 ∷ []))

abbrev pub count_cells : Line
count_cells = count 5 (7 ∷ []) (6 ∷ []) (counted_as 2 (6 ∷ []))

abbrev pub count_counts : Line
count_counts = count 5 cells (replicate 9 6) (counted_as 14 (replicate 9 6))

-- Loading: every bit that the device has is taken, and every other is refused, above a byte too; a lock is 0 or 1, and 0 alone where there is
-- no page to lock. 1 comes before 5.
abbrev with_registers : ℕ → Bool → Bool → State
with_registers status wel locked = with_stored (record { status = status; wel = wel; locked = locked }) prepared_state.cycle 0 0 prepared_state

abbrev pub load_all_bits : Line
load_all_bits = load 2 (stored_as 0x8C 1) (loaded_as 0 (with_registers 0x8C false true))

abbrev pub load_nothing : Line
load_nothing = load 4 (stored_as 0 0) (loaded_as 0 prepared_state)

abbrev pub load_no_device : Line
load_no_device = load 8 (stored_as 0xFF 2) (loaded_as 1 prepared_state)

abbrev pub load_no_srwd : Line
load_no_srwd = load 1 (stored_as 0x8C 1) (loaded_as 5 prepared_state)

abbrev pub load_wel : Line
load_wel = load 3 (stored_as 0x02 0) (loaded_as 5 prepared_state)

abbrev pub load_above_a_byte : Line
load_above_a_byte = load 3 (stored_as 0x104 0) (loaded_as 5 prepared_state)

abbrev pub load_lock : Line
load_lock = load 1 (stored_as 0x0C 2) (loaded_as 5 prepared_state)

abbrev pub load_without_a_page : Line
load_without_a_page = load 7 (stored_as 0x8C 0) (loaded_as 0 (with_registers 0x8C false false))

abbrev pub load_lock_without_a_page : Line
load_lock_without_a_page = load 7 (stored_as 0x8C 1) (loaded_as 5 prepared_state)

-- What a state has stored: in a cycle that will change it still the old, and WEL is none of it.
abbrev changing : Kind → State
changing k = with_stored (record { status = 0x84; wel = true; locked = false }) (record { kind = k; next = 0x08 }) 0 1 prepared_state

abbrev pub stored_in_a_status_cycle : Line
stored_in_a_status_cycle = stored (changing Kind.Status) (stored_as 0x84 0)

abbrev pub stored_in_a_lock_cycle : Line
stored_in_a_lock_cycle = stored (changing Kind.Lock) (stored_as 0x84 0)

abbrev pub stored_lock : Line
stored_lock = stored (with_registers 0 true true) (stored_as 0 1)

abbrev pub preparing : List Line
preparing =
    prepare_taken ∷ prepare_device_eight ∷ prepare_device_zero ∷ prepare_cells ∷ prepare_identification ∷ prepare_latch ∷ prepare_counts ∷ prepare_counts_of_bytes ∷ prepare_the_m95010
    ∷ prepare_the_m95020 ∷ prepare_a_page_where_there_is_none ∷ count_taken ∷ count_device ∷ count_cells ∷ count_counts ∷ load_all_bits ∷ load_nothing ∷ load_no_device ∷ load_no_srwd ∷ load_wel
    ∷ load_above_a_byte ∷ load_lock ∷ load_without_a_page ∷ load_lock_without_a_page ∷ stored_in_a_status_cycle ∷ stored_in_a_lock_cycle ∷ stored_lock ∷ []
