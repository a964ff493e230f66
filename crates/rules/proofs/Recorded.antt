-- The theorems `demand-3-devices`, `demand-3-seven`, `demand-3-run` and `incident-run`: demand 3 for every device number, and for the runs of
-- recorded events.
use Prim.Native.Nat.{ℕ, suc, ◌+◌, ◌≤◌}
use mathlib.Core.Path.{◌≡◌, refl, sym, ap, ◌∙◌, subst₂}
use mathlib.Core.Bool.{true, false}
use mathlib.Core.List.{List, [], ◌∷◌, ◌++◌, map}
use native.Mathlib.Omega.{arith}
use lib.ListN.{drop, length, length-append}
use lib.Seq.{drop-drop}
use lib.Dec.{leb}
use borrow.Author.Tests.{le-leb}
use Rattle.rules.specs.World.{Row, Event, World}
use Rattle.rules.specs.Device.{m95128d, row_of, prepared}
use Rattle.rules.specs.Event.{next, after}
use Rattle.rules.specs.Trace.{progress_of, run}
use Rattle.rules.specs.Call.{world_refusal, run_outcome}
use Rattle.rules.specs.Selections.{visible, sights, Inside, Cut, heard, heard_left, happened, remaining}
use Rattle.rules.specs.Recorded.{Demand3Devices, Demand3Seven, recorded, runnable, outside, outside_left, seen, Alike, Demand3Run, IncidentRun}
use Rattle.rules.proofs.Choice.{and_both}
use Rattle.rules.proofs.Encoded.{byte_of, run-recorded}
use Rattle.rules.proofs.Incident.{prepared-sound, prepared-lent, incident}
use Rattle.rules.proofs.Lookalike.{Lookalike, abreast, run-abreast, abreast-seen}
use Rattle.rules.proofs.Program.{world-taken, world-facts}
use Rattle.rules.proofs.Opened.{opened}
use Rattle.rules.proofs.Preserved.{after-sound}
use Rattle.rules.proofs.Selections.{same_self, cut-same, demand-3}
use Rattle.rules.proofs.Widths.{of-device}

pub demand-3-seven : Demand3Seven
demand-3-seven device low high = (
  and_both (leb 1 device) (leb device 7) (le-leb 1 device low) (le-leb device 7 high),
  λ w sound lent es ks c. demand-3 (row_of device) (of-device device) w sound lent es ks c,
)

pub demand-3-devices : Demand3Devices
demand-3-devices device w g es ks c = let k = world-facts device w g in demand-3 (row_of device) (of-device device) w k.1 k.2 es ks c

-- What is left is no longer than the run.
inside-shorter : {inner kept : List Event} → Inside inner kept → length kept ≤ length inner
inside-shorter Inside.end = omega arith
inside-shorter (Inside.clock b i) = omega (arith, inside-shorter i)
inside-shorter (Inside.input b i) = omega (arith, inside-shorter i)
inside-shorter (Inside.low i) = omega (arith, inside-shorter i)
inside-shorter (Inside.hold b i) = omega (arith, inside-shorter i)
inside-shorter (Inside.protect b i) = omega (arith, inside-shorter i)
inside-shorter (Inside.wait n i) = omega (arith, inside-shorter i)

left-shorter : {row : Row} {w : World} {es ks : List Event} → Cut row w es ks → length ks ≤ length es
left-shorter Cut.done = omega arith
left-shorter (Cut.keep e c) = omega (arith, left-shorter c)
left-shorter (Cut.drop {es = es} {ks = ks} {inner = inner} {kept = kept} o s i b c) =
    omega (arith, length-append kept ks, length-append inner (Event.Select true ∷ es), inside-shorter i, left-shorter c)

-- The answers outside are those of what is heard there.
abbrev answered : Row → List Event → World → List ℕ → List ℕ
answered row es w rest = map byte_of (sights row es w) ++ rest

answers-past : (row : Row) (es fs : List Event) (w : World) (rest : List ℕ) → drop (length es) (answered row (es ++ fs) w rest) ≡ answered row fs (after row es w) rest
answers-past row [] fs w rest = refl
answers-past row (e ∷ es) fs w rest = answers-past row es fs (next row e w) rest

outside-heard : {row : Row} {w : World} {es ks : List Event} (c : Cut row w es ks) (rest : List ℕ) → outside c (answered row es w rest) ≡ map byte_of (heard c)
unfolding outside heard
outside-heard Cut.done rest = refl
outside-heard {row} {w} (Cut.keep e c) rest = ap (λ (l : List ℕ). byte_of (visible row e w) ∷ l) (outside-heard c rest)
outside-heard {row} {w} (Cut.drop {es = es} {inner = inner} o s i b c) rest =
    let u = next row (Event.Select false) w in
    let onward = inner ++ Event.Select true ∷ es in
    let count : 2 + length inner ≡ suc (length inner + 1) = omega arith in
    let past : drop (2 + length inner) (answered row (Event.Select false ∷ onward) w rest) ≡ answered row es (next row (Event.Select true) (after row inner u)) rest =
    ap (λ (n : ℕ). drop n (answered row (Event.Select false ∷ onward) w rest)) count
    ∙ sym (drop-drop 1 (length inner) (answered row onward u rest))
    ∙ ap (drop 1) (answers-past row inner (Event.Select true ∷ es) u rest) in
    ap (outside c) past ∙ outside-heard c rest

left-heard : {row : Row} {w : World} {es ks : List Event} (c : Cut row w es ks) (t : World) (rest : List ℕ) → outside_left c (answered row ks t rest) ≡ map byte_of (heard_left c t)
unfolding outside_left heard_left
left-heard Cut.done t rest = refl
left-heard {row} (Cut.keep e c) t rest = ap (λ (l : List ℕ). byte_of (visible row e t) ∷ l) (left-heard c (next row e t) rest)
left-heard {row} (Cut.drop {ks = ks} {kept = kept} o s i b c) t rest = ap (outside_left c) (answers-past row kept ks t rest) ∙ left-heard c (after row kept t) rest

-- The public call runs a good world; events leave it good; and from worlds that look alike the call gives what looks alike.
module _ (device : ℕ) where
  runs-good : (w : World) → world_refusal device w ≡ 0 → (trace answers : List ℕ) (limit : ℕ)
      → run_outcome device w trace answers limit ≡ run limit (row_of device) trace (progress_of 0 0 0 w answers)
  unfolding run_outcome
  runs-good w g trace answers limit = rw g

  good-after : (w : World) → world_refusal device w ≡ 0 → (es : List Event) → world_refusal device (after (row_of device) es w) ≡ 0
  good-after w g es =
      let f = world-facts device w g in
      let n = after-sound (of-device device) es w f.1 f.2 in
      world-taken device (after (row_of device) es w) f.0 n.0 n.1

  runs-alike : {u v : World} → Lookalike (row_of device) u v → world_refusal device u ≡ 0 → world_refusal device v ≡ 0 → (trace answers : List ℕ) (limit : ℕ)
      → seen (run_outcome device u trace answers limit) ≡ seen (run_outcome device v trace answers limit)
  runs-alike {u} {v} g gu gv trace answers limit =
      ap seen (runs-good u gu trace answers limit)
      ∙ abreast-seen (run-abreast (row_of device) trace limit (abreast 0 0 0 answers g))
      ∙ ap seen (sym (runs-good v gv trace answers limit))

pub demand-3-run : Demand3Run
demand-3-run device w g es ks c r answers limit room long =
    let row = row_of device in
    let unseen = demand-3-devices device w g es ks c in
    let k = world-facts device w g in
    let runs = (cut-same (of-device device) k.1 k.2 (same_self w) c).2 r in
    let alike : Lookalike row (after row es w) (after row ks w) = record { stored = unseen.1; unseen = unseen.2 } in
    let shorter = left-shorter c in
    let whole = runs-good device w g (recorded es) answers limit ∙ run-recorded row es w answers limit r room long in
    let left = runs-good device w g (recorded ks) answers limit ∙ run-recorded row ks w answers limit runs (omega arith) (omega arith) in
    subst₂ (Alike device c) (sym whole) (sym left)
    (record {
      ends = record { unrefused = refl; taken = refl; done = refl };
      ends_left = record { unrefused = refl; taken = refl; done = refl };
      answers = outside-heard c (drop (length es) answers) ∙ ap (map byte_of) unseen.0 ∙ sym (left-heard c w (drop (length ks) answers));
      leaves = unseen.1;
      events = unseen.2;
      traces = runs-alike device alike (good-after device w g es) (good-after device w g ks);
    })

incident-runs : runnable m95128d happened (prepared m95128d) ≡ true
unfolding opened
incident-runs = refl

pub incident-run : IncidentRun incident
incident-run answers limit room long =
    let w = prepared m95128d in
    let v = of-device 2 in
    demand-3-run 2 w (world-taken 2 w refl (prepared-sound v) (prepared-lent v)) happened remaining incident incident-runs answers limit room long
