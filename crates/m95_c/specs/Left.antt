-- What each call for C leaves: its number and everything lent to it, as one function of what it was given.
use Rattle.std.specs.Prelude.{◌-◌, ◌%◌, ◌&&◌, if◌then◌else◌}
use Rattle.rules.specs.World.{ℕ, Bool, not, List, length, eqb, leb, ltb, min, World, world_of}
use Rattle.rules.specs.declared.Event.{Event}
use Rattle.rules.specs.declared.Region.{Region}
use Rattle.rules.specs.declared.Row.{Row}
use Rattle.rules.specs.declared.State.{State}
use Rattle.rules.specs.declared.Stored.{Stored}
use Rattle.rules.specs.Device.{is_device, row_of, page_count}
use Rattle.rules.specs.Send.{status_byte}
use Rattle.rules.specs.Trace.{length_of, pin_event}
use Rattle.rules.specs.Call.{memory_refusal, world_refusal, prepare_outcome, found_number, page_number, blank_outcome, stored_as, stored_in, load_outcome, event_outcome, run_outcome, view_outcome}
use Rattle.rules.specs.Call.{Replied as Answered, replied_as as answered_as}
use Rattle.m95_c.specs.declared.showing.Sizes.{Sizes}
use Rattle.state_bytes.specs.StateBytes.{state_length, is_state, state_of, state_at, no_state, bytes_of}

-- A number above a byte's is no device's, as 0 is.
abbrev pub device_of : ℕ → ℕ
device_of n = if leb n 255 then n else 0

-- How many cells a device has, how many bytes a page, how many its identification page, and how many pages the cells make: all 0 for a number
-- that is no device's.
abbrev pub sizes_as : ℕ → ℕ → ℕ → ℕ → Sizes
sizes_as cells page identification pages = record { cells = cells; page = page; identification = identification; pages = pages }

abbrev pub sizes_of : ℕ → Sizes
sizes_of n =
    let row = row_of (device_of n) in
    if is_device (device_of n) then sizes_as row.cells row.page row.identification (page_count row) else sizes_as 0 0 0 0

-- The buffers lent to a call: the state's bytes, those of the device, and its counts.
pub record Buffers : Type 0 where
  pub state : List ℕ
  pub cells : List ℕ
  pub identification : List ℕ
  pub latch : List ℕ
  pub counts : List ℕ

abbrev pub buffers_of : List ℕ → List ℕ → List ℕ → List ℕ → List ℕ → Buffers
buffers_of state cells identification latch counts = record { state = state; cells = cells; identification = identification; latch = latch; counts = counts }

-- The device's buffers in a world of some state.
abbrev pub world_with : State → Buffers → World
world_with s b = world_of s b.cells b.identification b.latch b.counts

abbrev pub world_in : Buffers → World
world_in b = world_with (state_of b.state) b

abbrev pub buffers_with : World → Buffers
buffers_with w = buffers_of (bytes_of w.state) w.cells w.identification w.latch w.counts

-- 1 to 4, 14 or 5, or 0: what an event or a trace is judged by first.
abbrev pub buffers_refusal : ℕ → Buffers → ℕ
buffers_refusal device b = world_refusal (device_of device) (world_in b)

-- Preparing. The state's room is a state or it is not by its length alone: 1 to 4 and 14 come first, then 5, and then nothing is prepared.
pub record Prepared : Type 0 where
  pub number : ℕ
  pub buffers : Buffers

abbrev pub prepared_as : ℕ → Buffers → Prepared
prepared_as number b = record { number = number; buffers = b }

unfoldable pub prepare_left : ℕ → Buffers → Prepared
prepare_left device b =
    let o = prepare_outcome (device_of device) b.cells b.identification b.latch b.counts in
    if eqb (length b.state) state_length then prepared_as o.number (buffers_with o.world)
    else prepared_as (world_refusal (device_of device) (world_with no_state b)) b

-- Loading: 1, then 5 for what is handed in or for a room of a wrong length. Refused it leaves the room. A number above a byte's counts as
-- 255: no device has these bits, and no lock is so.
abbrev pub byte_for : ℕ → ℕ
byte_for n = if leb n 255 then n else 255

pub record Loaded : Type 0 where
  pub number : ℕ
  pub state : List ℕ

abbrev pub loaded_as : ℕ → List ℕ → Loaded
loaded_as number state = record { number = number; state = state }

unfoldable pub load_left : ℕ → List ℕ → ℕ → ℕ → Loaded
load_left device state status lock =
    let o = load_outcome (device_of device) (stored_as (byte_for status) (byte_for lock)) in
    if not (eqb o.number 0) then loaded_as o.number state
    else if eqb (length state) state_length then loaded_as 0 (bytes_of o.state)
    else loaded_as 5 state

-- An event by the kind of its record and the number in it: 7 for a kind that is none, 9 for a pin byte above 9. No cycle lasts as long as
-- the longest wait of a record, and a longer one counts as that.
unfoldable pub event_refusal : ℕ → ℕ → ℕ
event_refusal kind value = if eqb (length_of kind) 0 then 7 else if eqb kind 1 && ltb 9 value then 9 else 0

unfoldable pub event_of : ℕ → ℕ → Event
event_of kind value =
    if eqb kind 1 then pin_event value
    else if eqb kind 2 then Event.Wait (min value 4_294_967_295)
    else Event.Power

pub record Replied : Type 0 where
  pub number : ℕ
  pub answer : ℕ
  pub buffers : Buffers

abbrev pub replied_as : ℕ → ℕ → Buffers → Replied
replied_as number answer b = record { number = number; answer = answer; buffers = b }

-- The same of a world, in the numbers of the library's own outcome.
unfoldable pub asked : ℕ → World → ℕ → ℕ → Answered
asked device w kind value =
    let o = event_outcome device w (event_of kind value) in
    let n : ℕ =
    if not (eqb (world_refusal device w) 0) then world_refusal device w
    else if not (eqb (event_refusal kind value) 0) then event_refusal kind value
    else o.number in
    if eqb n 0 then answered_as 0 o.answer o.world
    else answered_as n 2 w

-- 1 to 4, 14 and 5, then 7 and 9, then 11 or 15. A refused event answers 2 and changes nothing.
unfoldable pub event_left : ℕ → Buffers → ℕ → ℕ → Replied
event_left device b kind value =
    let o = event_outcome (device_of device) (world_in b) (event_of kind value) in
    let n : ℕ =
    if not (eqb (buffers_refusal device b) 0) then buffers_refusal device b
    else if not (eqb (event_refusal kind value) 0) then event_refusal kind value
    else o.number in
    if eqb n 0 then replied_as 0 o.answer (buffers_with o.world)
    else replied_as n 2 b

-- A trace. Refused with 1 to 4, 14 or 5 it changes nothing; else it leaves what the library's run leaves.
pub record Ran : Type 0 where
  pub number : ℕ
  pub taken : ℕ
  pub done : ℕ
  pub answers : List ℕ
  pub buffers : Buffers

abbrev pub ran_as : ℕ → ℕ → ℕ → List ℕ → Buffers → Ran
ran_as number taken done answers b = record { number = number; taken = taken; done = done; answers = answers; buffers = b }

unfoldable pub run_left : ℕ → Buffers → List ℕ → List ℕ → ℕ → Ran
run_left device b trace answers limit =
    let n = buffers_refusal device b in
    let p = run_outcome (device_of device) (world_in b) trace answers limit in
    if eqb n 0 then ran_as p.number p.taken p.done p.answers (buffers_with p.world)
    else ran_as n 0 0 answers b

-- The first blank page: the number, whether there is such a page, and which; both 0 where there is none, refused or not.
pub record Searched : Type 0 where
  pub number : ℕ
  pub found : ℕ
  pub page : ℕ

abbrev pub searched_as : ℕ → ℕ → ℕ → Searched
searched_as number found page = record { number = number; found = found; page = page }

unfoldable pub blank_left : ℕ → List ℕ → Searched
blank_left device counts =
    let o = blank_outcome (device_of device) counts in
    searched_as o.number (found_number o.blank) (page_number o.blank)

-- The status of a state, sound or not: 5 and 0 for bytes that are none.
pub record Told : Type 0 where
  pub number : ℕ
  pub status : ℕ

abbrev pub told_as : ℕ → ℕ → Told
told_as number status = record { number = number; status = status }

unfoldable pub status_left : List ℕ → Told
status_left b = if is_state b then told_as 0 (status_byte (state_at b)) else told_as 5 0

-- What a state has stored, sound or not: 5 and nothing for bytes that are none.
pub record Kept : Type 0 where
  pub number : ℕ
  pub stored : Stored

abbrev pub kept_as : ℕ → ℕ → ℕ → Kept
kept_as number status lock = record { number = number; stored = stored_as status lock }

unfoldable pub stored_left : List ℕ → Kept
stored_left b = let x = stored_in (state_at b) in if is_state b then kept_as 0 x.status x.lock else kept_as 5 0 0

-- A region by its number: 0 the cells, 1 the identification page, and any other is none.
abbrev pub is_region : ℕ → Bool
is_region n = leb n 1

abbrev pub region_of : ℕ → Region
region_of n = if eqb n 0 then Region.Cells else Region.Identification

-- Which of the two lent buffers a region's part lies in, and where in it.
abbrev pub slice_of : Region → List ℕ → List ℕ → List ℕ
slice_of Region.Cells cells identification = cells
slice_of Region.Identification cells identification = identification

abbrev pub part_start : Row → Region → ℕ → ℕ
part_start row Region.Cells address = address - address % row.page
part_start row Region.Identification address = 0

-- A view by where its part starts and how long it is; both 0 where it is refused: 1 to 3, then 7 for a number that is no region's, then 13.
pub record Placed : Type 0 where
  pub number : ℕ
  pub start : ℕ
  pub length : ℕ

abbrev pub placed_as : ℕ → ℕ → ℕ → Placed
placed_as number start length = record { number = number; start = start; length = length }

unfoldable pub view_left : ℕ → ℕ → List ℕ → List ℕ → ℕ → Placed
view_left device region cells identification address =
    let o = view_outcome (device_of device) (region_of region) cells identification address in
    let m = memory_refusal (device_of device) cells identification in
    let n : ℕ =
    if not (eqb m 0) then m
    else if not (is_region region) then 7
    else o.number in
    if eqb n 0 then placed_as 0 (part_start (row_of (device_of device)) (region_of region) address) (length o.part)
    else placed_as n 0 0
