-- Laws on the record of an event, how the run of recorded events ends, and the theorem `recorded-bytes`.
use Prim.Native.Nat.{ℕ, zero, suc, ◌+◌, ◌/◌, ◌%◌, ◌≤◌}
use mathlib.Core.Path.{◌≡◌, refl, sym, ap, ap₂, ◌∙◌, subst}
use mathlib.Core.Bool.{Bool, true, false, ◌&&◌}
use mathlib.Core.List.{List, [], ◌∷◌, ◌++◌, map}
use native.Mathlib.Omega.{arith}
use lib.ListN.{drop, length, length-append}
use lib.Seq.{drop-append_seam}
use lib.Dec.{eqb, leb, ltb}
use borrow.Author.Tests.{eqb-true, eq-eqb, lt-leb, lt-ltb, ltb-true}
use Rattle.rules.specs.World.{Row, Event, World}
use Rattle.rules.specs.Event.{answer, refusal, step, next, after}
use Rattle.rules.specs.Sound.{all}
use Rattle.rules.specs.Trace.{two, event_at, record_refusal, answer_byte, Progress, progress_of, run, glued}
use Rattle.rules.specs.Selections.{Visible, visible, sights}
use Rattle.rules.specs.Recorded.{bytes_of, encoded, recorded, RecordedBytes, fits, runnable}
use Rattle.rules.proofs.Choice.{if_yes, and_left, and_right, and_both}
use Rattle.rules.proofs.Pieces.{pieces}
use Rattle.rules.proofs.Runs.{turn-over, turn-does, run-stays}

-- A record has the length that it says, reads as its event, and is refused exactly if its event is.
record Readable (row : Row) (e : Event) (w : World) : Type 0 where
  long : 2 + two (encoded e) 0 ≡ length (encoded e)
  event : event_at (encoded e) 0 ≡ e
  refused : record_refusal row (encoded e) 0 false w ≡ refusal row e w

readable : (row : Row) (e : Event) (w : World) → fits e ≡ true → Readable row e w
unfolding event_at record_refusal
readable row (Event.Clock true) w h = record { long = refl; event = refl; refused = refl }
readable row (Event.Clock false) w h = record { long = refl; event = refl; refused = refl }
readable row (Event.Data true) w h = record { long = refl; event = refl; refused = refl }
readable row (Event.Data false) w h = record { long = refl; event = refl; refused = refl }
readable row (Event.Select true) w h = record { long = refl; event = refl; refused = refl }
readable row (Event.Select false) w h = record { long = refl; event = refl; refused = refl }
readable row (Event.Hold true) w h = record { long = refl; event = refl; refused = refl }
readable row (Event.Hold false) w h = record { long = refl; event = refl; refused = refl }
readable row (Event.Protect true) w h = record { long = refl; event = refl; refused = refl }
readable row (Event.Protect false) w h = record { long = refl; event = refl; refused = refl }
readable row (Event.Wait n) w h =
    let short = ltb-true n 4_294_967_296 h in
    record { long = refl; event = ap Event.Wait (omega (arith, short)); refused = ap (λ (m : ℕ). refusal row (Event.Wait m) w) (omega (arith, short)) }
readable row Event.Power w h = record { long = refl; event = refl; refused = refl }

-- The answer byte of what is seen of an event.
abbrev pub byte_of : Visible → ℕ
byte_of v = answer_byte v.1

-- An event that is not refused, and the run of its record.
module _ (row : Row) (e : Event) (w : World) (z : refusal row e w ≡ 0) where
  pub steps : next row e w ≡ step row e w
  unfolding next
  steps = rw z

  pub answers-so : byte_of (visible row e w) ≡ answer_byte (answer (next row e w).state)
  answers-so = ap answer_byte (if_yes (eqb (refusal row e w) 0) _ _ (eq-eqb (refusal row e w) 0 z))

  one-record : fits e ≡ true → (a : ℕ) (answers : List ℕ)
      → run 1 row (encoded e) (progress_of 0 0 0 w (a ∷ answers)) ≡ progress_of 0 (length (encoded e)) 1 (next row e w) (byte_of (visible row e w) ∷ answers)
  one-record f a answers =
      let r = readable row e w f in
      let byte = byte_of (visible row e w) in
      let room : leb (length (a ∷ answers)) 0 ≡ false = lt-leb (length (a ∷ answers)) 0 (omega arith) in
      let unrefused = ap (λ (full : Bool). record_refusal row (encoded e) 0 full w) room ∙ r.refused ∙ z in
      let size : length (encoded e) ≡ 0 + 2 + two (encoded e) 0 = omega (arith, r.long) in
      sym
      (ap (λ (n : ℕ). progress_of 0 n 1 (next row e w) (byte ∷ answers)) size
      ∙ turn-does row (encoded e) 0 w (a ∷ answers) (omega (arith, size)) unrefused refl (sym r.event) steps answers-so)

-- The parts of the test for events that a run can do.
module _ (row : Row) (e : Event) (es : List Event) (w : World) (r : runnable row (e ∷ es) w ≡ true) where
  first_taken : (fits e && eqb (refusal row e w) 0) ≡ true
  first_taken = and_left (fits e && eqb (refusal row e w) 0) (runnable row es (next row e w)) r

  rest-runs : runnable row es (next row e w) ≡ true
  rest-runs = and_right (fits e && eqb (refusal row e w) 0) (runnable row es (next row e w)) r

  first_fits : fits e ≡ true
  first_fits = and_left (fits e) (eqb (refusal row e w) 0) first_taken

  first_runs : refusal row e w ≡ 0
  first_runs = eqb-true (refusal row e w) 0 (and_right (fits e) (eqb (refusal row e w) 0) first_taken)

-- The end of a run that does them all.
abbrev pub ended : Row → List Event → World → List ℕ → Progress
ended row es w answers = progress_of 0 (length (recorded es)) (length es) (after row es w) (map byte_of (sights row es w) ++ drop (length es) answers)

-- Record by record: each is a piece of the trace.
pub run-recorded : (row : Row) (es : List Event) (w : World) (answers : List ℕ) (limit : ℕ) → runnable row es w ≡ true → length es ≤ length answers → length es ≤ limit
    → run limit row (recorded es) (progress_of 0 0 0 w answers) ≡ ended row es w answers
run-recorded row [] w answers limit r room long = run-stays limit row [] (progress_of 0 0 0 w answers) (turn-over row [] (progress_of 0 0 0 w answers) refl)
run-recorded row (e ∷ es) w [] limit r room long = absurd (omega arith)
run-recorded row (e ∷ es) w (a ∷ answers) zero r room long = absurd (omega arith)
run-recorded row (e ∷ es) w (a ∷ answers) (suc limit) r room long =
    let trace = encoded e ++ recorded es in
    let begun = progress_of 0 0 0 w (a ∷ answers) in
    let u = next row e w in
    let byte = byte_of (visible row e w) in
    let one = progress_of 0 (length (encoded e)) 1 u (byte ∷ answers) in
    let rest = map byte_of (sights row es u) ++ drop (length es) answers in
    let more : suc limit ≡ 1 + limit = omega arith in
    let counted : 1 + length es ≡ suc (length es) = omega arith in
    let going_on : Progress → Progress = λ (p : Progress). run limit row (drop p.taken trace) (progress_of 0 0 0 p.world (drop p.done p.answers)) in
    ap (λ (n : ℕ). run n row trace begun) more
    ∙ subst (λ (p : Progress). run (p.done + limit) row trace begun ≡ glued p (going_on p)) (one-record row e w (first_runs row e es w r) (first_fits row e es w r) a answers)
    (pieces row (encoded e) (recorded es) w (a ∷ answers) 1 limit)
    ∙ ap (λ (t : List ℕ). glued one (run limit row t (progress_of 0 0 0 u answers))) (drop-append_seam (encoded e) (recorded es))
    ∙ ap (glued one) (run-recorded row es u answers limit (rest-runs row e es w r) (omega arith) (omega arith))
    ∙ ap₂ (λ (n k : ℕ). progress_of 0 n k (after row es u) (byte ∷ rest)) (sym (length-append (encoded e) (recorded es))) counted

-- Every number in a record is a byte.
abbrev are_bytes : List ℕ → Bool
are_bytes l = all (map (λ (b : ℕ). ltb b 256) l)

joined_bytes : (a b : List ℕ) → are_bytes a ≡ true → are_bytes b ≡ true → are_bytes (a ++ b) ≡ true
joined_bytes [] b ha hb = hb
joined_bytes (x ∷ a) b ha hb = and_both (ltb x 256) (are_bytes (a ++ b)) (and_left (ltb x 256) (are_bytes a) ha) (joined_bytes a b (and_right (ltb x 256) (are_bytes a) ha) hb)

number-bytes : (k n : ℕ) → are_bytes (bytes_of k n) ≡ true
number-bytes zero n = refl
number-bytes (suc k) n = and_both (ltb (n % 256) 256) (are_bytes (bytes_of k (n / 256))) (lt-ltb (n % 256) 256 (omega arith)) (number-bytes k (n / 256))

encoded-bytes : (e : Event) → are_bytes (encoded e) ≡ true
encoded-bytes (Event.Clock true) = refl
encoded-bytes (Event.Clock false) = refl
encoded-bytes (Event.Data true) = refl
encoded-bytes (Event.Data false) = refl
encoded-bytes (Event.Select true) = refl
encoded-bytes (Event.Select false) = refl
encoded-bytes (Event.Hold true) = refl
encoded-bytes (Event.Hold false) = refl
encoded-bytes (Event.Protect true) = refl
encoded-bytes (Event.Protect false) = refl
encoded-bytes (Event.Wait n) = number-bytes 4 n
encoded-bytes Event.Power = refl

pub recorded-bytes : RecordedBytes
recorded-bytes [] = refl
recorded-bytes (e ∷ es) = joined_bytes (encoded e) (recorded es) (encoded-bytes e) (recorded-bytes es)
