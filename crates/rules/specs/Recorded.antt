-- Demand 3 said for the product: for every device number, from every world that the public calls take; for each of the seven devices; and for
-- traces that the public call runs.
use Rattle.std.specs.Prelude.{◌+◌, ◌*◌, ◌/◌, ◌%◌, ◌≤◌, ◌≡◌, ◌&&◌, ◌∷◌, ◌++◌}
use Rattle.rules.specs.World.{ℕ, zero, suc, Bool, true, List, [], map, take, drop, length, eqb, ltb, number, Row, Event, World}
use Rattle.rules.specs.Device.{m95128d, is_device, row_of, prepared}
use Rattle.rules.specs.Event.{refusal, next}
use Rattle.rules.specs.Sound.{all, Sound, Lent}
use Rattle.rules.specs.Trace.{Progress}
use Rattle.rules.specs.Call.{world_refusal, run_outcome}
use Rattle.rules.specs.Selections.{Contents, contents, sights, Cut, Unseen, happened, remaining, Incident}

-- The theorem `demand-3-devices`: 0 says that there is such a device, that the buffers have its lengths and that the state is sound, so no more is asked.
abbrev pub Demand3Devices : Type 0
Demand3Devices = (device : ℕ) (w : World) → world_refusal device w ≡ 0 → (es ks : List Event) (c : Cut (row_of device) w es ks) → Unseen c

-- The theorem `demand-3-seven`, in so many words: each number from 1 to 7 is a device's, and for each of these devices demand 3 holds, from
-- every sound state, in buffers of the device's lengths.
abbrev pub Demand3Seven : Type 0
Demand3Seven =
    (device : ℕ) → 1 ≤ device → device ≤ 7
    → (is_device device ≡ true)
    × ((w : World) → Sound (row_of device) w → Lent (row_of device) w → (es ks : List Event) (c : Cut (row_of device) w es ks) → Unseen c)

-- k bytes of n, the least significant first.
abbrev pub bytes_of : ℕ → ℕ → List ℕ
bytes_of zero n = []
bytes_of (suc k) n = n % 256 ∷ bytes_of k (n / 256)

-- 01, "Traces", written down where Trace reads it: a record of some kind and body, the record of an event, and those of a whole run.
abbrev pub record_of : ℕ → List ℕ → List ℕ
record_of kind body = bytes_of 2 (2 + length body) ++ bytes_of 2 kind ++ body

abbrev pub pin_record : ℕ → Bool → List ℕ
pin_record pin level = record_of 1 ((2 * pin + number level) ∷ [])

abbrev pub encoded : Event → List ℕ
encoded (Event.Clock b) = pin_record 0 b
encoded (Event.Data b) = pin_record 1 b
encoded (Event.Select b) = pin_record 2 b
encoded (Event.Hold b) = pin_record 3 b
encoded (Event.Protect b) = pin_record 4 b
encoded (Event.Wait n) = record_of 2 (bytes_of 4 n)
encoded Event.Power = record_of 3 []

abbrev pub recorded : List Event → List ℕ
recorded [] = []
recorded (e ∷ es) = encoded e ++ recorded es

-- The theorem `recorded-bytes`: every number in it is a byte, so that the public call can be handed it.
abbrev pub RecordedBytes : Type 0
RecordedBytes = (es : List Event) → all (map (λ (b : ℕ). ltb b 256) (recorded es)) ≡ true

-- Four bytes hold a wait; every other event has a record.
abbrev pub fits : Event → Bool
fits (Event.Clock b) = true
fits (Event.Data b) = true
fits (Event.Select b) = true
fits (Event.Hold b) = true
fits (Event.Protect b) = true
fits (Event.Wait n) = ltb n 4_294_967_296
fits Event.Power = true

-- Whether a run can do them all: each fits its record, and none is refused when its turn comes.
abbrev pub runnable : Row → List Event → World → Bool
runnable row [] w = true
runnable row (e ∷ es) w = fits e && eqb (refusal row e w) 0 && runnable row es (next row e w)

-- A run that did them all: no refusal, every byte taken, every record done.
pub record Ended (es : List Event) (p : Progress) : Type 0 where
  pub unrefused : p.number ≡ 0
  pub taken : p.taken ≡ length (recorded es)
  pub done : p.done ≡ length es

-- The answers to the events outside the selections that are taken out: among those of the run itself, and of the run of what is left.
unfoldable pub outside : {row : Row} {w : World} {es ks : List Event} → Cut row w es ks → List ℕ → List ℕ
outside Cut.done answers = []
outside (Cut.keep e c) answers = take 1 answers ++ outside c (drop 1 answers)
outside (Cut.drop {inner = inner} o s i b c) answers = outside c (drop (2 + length inner) answers)

unfoldable pub outside_left : {row : Row} {w : World} {es ks : List Event} → Cut row w es ks → List ℕ → List ℕ
outside_left Cut.done answers = []
outside_left (Cut.keep e c) answers = take 1 answers ++ outside_left c (drop 1 answers)
outside_left (Cut.drop {kept = kept} o s i b c) answers = outside_left c (drop (length kept) answers)

-- All that a run gives its caller, but of the world only what anyone can see.
pub record Seen : Type 0 where
  pub number : ℕ
  pub taken : ℕ
  pub done : ℕ
  pub contents : Contents
  pub answers : List ℕ

abbrev pub seen : Progress → Seen
seen p = record { number = p.number; taken = p.taken; done = p.done; contents = contents p.world; answers = p.answers }

-- Two runs that nobody can tell apart: by how they end, by the answers outside, by what they leave, by any events or any trace that follow.
pub record Alike (device : ℕ) {w : World} {es ks : List Event} (c : Cut (row_of device) w es ks) (p q : Progress) : Type 0 where
  pub ends : Ended es p
  pub ends_left : Ended ks q
  pub answers : outside c p.answers ≡ outside_left c q.answers
  pub leaves : contents p.world ≡ contents q.world
  pub events : (later : List Event) → sights (row_of device) later p.world ≡ sights (row_of device) later q.world
  pub traces : (later answers : List ℕ) (limit : ℕ) → seen (run_outcome device p.world later answers limit) ≡ seen (run_outcome device q.world later answers limit)

-- The theorem `demand-3-run`: demand 3 for the runs of the two traces, with room for the answers and a limit that cuts neither.
abbrev pub Demand3Run : Type 0
Demand3Run =
    (device : ℕ) (w : World) → world_refusal device w ≡ 0 → (es ks : List Event) (c : Cut (row_of device) w es ks) → runnable (row_of device) es w ≡ true
    → (answers : List ℕ) (limit : ℕ) → length es ≤ length answers → length es ≤ limit
    → Alike device c (run_outcome device w (recorded es) answers limit) (run_outcome device w (recorded ks) answers limit)

-- The theorem `incident-run`: the incident's traces, of 226 records and of 224, meet all that is asked, so nobody can tell their runs apart.
abbrev pub IncidentRun : Incident → Type 0
IncidentRun c =
    (answers : List ℕ) (limit : ℕ) → 226 ≤ length answers → 226 ≤ limit
    → Alike 2 c (run_outcome 2 (prepared m95128d) (recorded happened) answers limit) (run_outcome 2 (prepared m95128d) (recorded remaining) answers limit)
