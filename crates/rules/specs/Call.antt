-- 01, "Numbers given back": the whole outcome of each public call, for every input. Refusals are read from top to bottom.
use Rattle.std.specs.Prelude.{◌+◌, ◌*◌, ◌&&◌, ◌-◌, ◌%◌, if◌then◌else◌}
use Rattle.rules.specs.World.{ℕ, zero, suc, Bool, false, ltb, get_or, not, List, [], take, drop, length, eqb, leb, number}
use Rattle.rules.specs.World.{Row, Region, Option, Some, None, Event, Stored, State, World, world_of, with_stored}
use Rattle.rules.specs.Device.{is_device, row_of, has_identification, page_count, prepared_state, prepared}
use Rattle.rules.specs.Judge.{storable}
use Rattle.rules.specs.Cycle.{recounted}
use Rattle.rules.specs.Sound.{is_sound}
use Rattle.rules.specs.Event.{powered, step, answer, refusal}
use Rattle.rules.specs.Trace.{two, answer_byte, Progress, run}

-- 1 to 3: no such device; cells or identification page of a wrong length.
unfoldable pub memory_refusal : ℕ → List ℕ → List ℕ → ℕ
memory_refusal device cells identification =
    if not (is_device device) then 1
    else if not (eqb (length cells) (row_of device).cells) then 2
    else if not (eqb (length identification) (row_of device).identification) then 3
    else 0

-- 4 then: a latch of a wrong length. And 14: counts of a wrong length.
unfoldable pub lent_refusal : ℕ → List ℕ → List ℕ → List ℕ → List ℕ → ℕ
lent_refusal device cells identification latch counts =
    let n = memory_refusal device cells identification in
    if not (eqb n 0) then n
    else if not (eqb (length latch) ((row_of device).page + (row_of device).page)) then 4
    else if not (eqb (length counts) (page_count (row_of device))) then 14
    else 0

-- 5 then: a state that is not sound, or a mark above 1.
unfoldable pub world_refusal : ℕ → World → ℕ
world_refusal device w =
    let n = lent_refusal device w.cells w.identification w.latch w.counts in
    if not (eqb n 0) then n
    else if not (is_sound (row_of device) w.state w.latch) then 5
    else 0

-- Preparing fills the lent buffers, and gives the prepared state, refused or not: it is one state for every device.
pub record Prepared : Type 0 where
  pub number : ℕ
  pub world : World

abbrev pub prepared_as : ℕ → World → Prepared
prepared_as number w = record { number = number; world = w }

unfoldable pub prepare_outcome : ℕ → List ℕ → List ℕ → List ℕ → List ℕ → Prepared
prepare_outcome device cells identification latch counts =
    let n = lent_refusal device cells identification latch counts in
    record { number = n; world = if eqb n 0 then prepared (row_of device) else world_of prepared_state cells identification latch counts }

-- W-204, counting a device's pages afresh, for whoever filled its cells: 1, 2, then 14. Refused, it leaves the counts. Page after page is counted:
-- the first n of them.
unfoldable pub recounted_to : ℕ → Row → List ℕ → List ℕ → List ℕ
recounted_to zero row cells counts = counts
recounted_to (suc n) row cells counts = recounted row (n * row.page) cells (recounted_to n row cells counts)

pub record Counted : Type 0 where
  pub number : ℕ
  pub counts : List ℕ

abbrev pub counted_as : ℕ → List ℕ → Counted
counted_as number counts = record { number = number; counts = counts }

unfoldable pub count_outcome : ℕ → List ℕ → List ℕ → Counted
count_outcome device cells counts =
    let row = row_of device in
    let n : ℕ =
    if not (is_device device) then 1
    else if not (eqb (length cells) row.cells) then 2
    else if not (eqb (length counts) (page_count row)) then 14
    else 0 in
    record { number = n; counts = if eqb n 0 then recounted_to (page_count row) row cells counts else counts }

-- W-205, where there is room: the lowest page whose count is 0, or none. A search through n numbers from p on, which stops at the first that
-- passes a test.
unfoldable pub lowest : (ℕ → Bool) → ℕ → ℕ → Option ℕ
lowest test zero p = None
lowest test (suc n) p = if test p then Some p else lowest test n (suc p)

abbrev pub first_blank : ℕ → List ℕ → Option ℕ
first_blank pages counts = lowest (λ (p : ℕ). eqb (get_or counts p 0) 0) pages 0

-- The answer in numbers: 1 and the page; 0 and 0 where there is none.
abbrev pub found_number : Option ℕ → ℕ
found_number (Some p) = 1
found_number None = 0

abbrev pub page_number : Option ℕ → ℕ
page_number (Some p) = p
page_number None = 0

-- It is asked of a device and its counts alone: 1, then 14. A refusal gives no page.
pub record Found : Type 0 where
  pub number : ℕ
  pub blank : Option ℕ

abbrev pub found_as : ℕ → Option ℕ → Found
found_as number blank = record { number = number; blank = blank }

unfoldable pub blank_outcome : ℕ → List ℕ → Found
blank_outcome device counts =
    let pages = page_count (row_of device) in
    let n : ℕ =
    if not (is_device device) then 1
    else if not (eqb (length counts) pages) then 14
    else 0 in
    found_as n (if eqb n 0 then first_blank pages counts else None)

-- What a state has stored besides cells and identification page, and the state of a chip that has this stored and has just got its power.
abbrev pub stored_as : ℕ → ℕ → Stored
stored_as status lock = record { status = status; lock = lock }

abbrev pub stored_in : State → Stored
stored_in s = stored_as s.registers.status (number s.registers.locked)

abbrev pub powered_with : Stored → State
powered_with x = powered (with_stored (record { status = x.status; wel = false; locked = eqb x.lock 1 }) prepared_state.cycle 0 0 prepared_state)

-- Loading: 1, then 5 for bits that the device has not and for a lock that is neither 0 nor, where there is an identification page, 1.
-- Refused, it gives the prepared state.
pub record Loaded : Type 0 where
  pub number : ℕ
  pub state : State

abbrev pub loaded_as : ℕ → State → Loaded
loaded_as number s = record { number = number; state = s }

unfoldable pub load_outcome : ℕ → Stored → Loaded
load_outcome device x =
    let n : ℕ =
    if not (is_device device) then 1
    else if not (eqb (storable (row_of device) x.status) x.status) then 5
    else if ltb (number (has_identification (row_of device))) x.lock then 5
    else 0 in
    loaded_as n (if eqb n 0 then powered_with x else prepared_state)

-- A single event: 1 to 4, 14 and 5, then 11 or 15. A refused event answers 2 and changes nothing.
pub record Replied : Type 0 where
  pub number : ℕ
  pub answer : ℕ
  pub world : World

abbrev pub replied_as : ℕ → ℕ → World → Replied
replied_as number answer w = record { number = number; answer = answer; world = w }

unfoldable pub event_outcome : ℕ → World → Event → Replied
event_outcome device w e =
    let n = if not (eqb (world_refusal device w) 0) then world_refusal device w else refusal (row_of device) e w in
    let after = step (row_of device) e w in
    record { number = n; answer = if eqb n 0 then answer_byte (answer after.state) else 2; world = if eqb n 0 then after else w }

-- A trace: 1 to 4, 14 and 5 with no record done, else the run.
unfoldable pub run_outcome : ℕ → World → List ℕ → List ℕ → ℕ → Progress
run_outcome device w trace answers limit =
    let n = world_refusal device w in
    run (if eqb n 0 then limit else 0) (row_of device) trace (record { number = n; taken = 0; done = 0; world = w; answers = answers })

-- W-201, a page shown without copying. What a region shows: of the cells the page that holds the address; of the identification page
-- all, whatever the address.
unfoldable pub part_of : Row → Region → List ℕ → List ℕ → ℕ → List ℕ
part_of row Region.Cells cells identification address = take row.page (drop (address - address % row.page) cells)
part_of row Region.Identification cells identification address = identification

-- Only the cells have addresses that can lie past them.
unfoldable pub is_past : Row → Region → ℕ → Bool
is_past row Region.Cells address = leb row.cells address
is_past row Region.Identification address = false

-- A view: 1 to 3, whatever the region, so that the slice which was not asked for is judged too; then 13. A refusal gives an empty part.
pub record Shown : Type 0 where
  pub number : ℕ
  pub part : List ℕ

abbrev pub shown_as : ℕ → List ℕ → Shown
shown_as number part = record { number = number; part = part }

unfoldable pub view_outcome : ℕ → Region → List ℕ → List ℕ → ℕ → Shown
view_outcome device region cells identification address =
    let row = row_of device in
    let m = memory_refusal device cells identification in
    let n : ℕ =
    if not (eqb m 0) then m
    else if is_past row region address then 13
    else 0 in
    record { number = n; part = if eqb n 0 then part_of row region cells identification address else [] }

-- 01, "Bench program": its first record, which names the device. 12 for a long input, before all else; then 6, 7, 8, 6, 1: kind 16, length 3, device 1 or 2.
pub record First : Type 0 where
  pub number : ℕ
  pub device : ℕ

abbrev pub first_as : ℕ → ℕ → First
first_as number device = record { number = number; device = device }

unfoldable pub first_record : List ℕ → First
first_record input =
    let device = get_or input 4 0 in
    let n : ℕ =
    if ltb 32_768 (length input) then 12
    else if ltb (length input) 4 then 6
    else if not (eqb (two input 2) 16) then 7
    else if not (eqb (two input 0) 3) then 8
    else if ltb (length input) 5 then 6
    else if not (leb 1 device && leb device 2) then 1
    else 0 in
    record { number = n; device = device }
