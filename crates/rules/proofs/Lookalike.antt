-- Worlds that no events tell apart: no run that goes on from them does either.
use Rattle.std.specs.Prelude.{if◌then◌else◌}
use Prim.Native.Nat.{ℕ, zero, suc, ◌+◌}
use mathlib.Core.Path.{◌≡◌, refl, sym, ap, ◌∙◌, subst₂}
use mathlib.Core.Bool.{Bool, true, false, not, ◌&&◌, ◌||◌}
use mathlib.Core.List.{List, [], ◌∷◌}
use lib.ListN.{set, length}
use lib.Dec.{eqb, leb}
use borrow.Author.Tests.{eqb-true}
use Rattle.rules.specs.World.{Row, Event, World}
use Rattle.rules.specs.Event.{answer, refusal, step, next}
use Rattle.rules.specs.Trace.{two, event_at, record_refusal, answer_byte, Progress, progress_of, turn, run}
use Rattle.rules.specs.Selections.{Contents, Visible, contents, visible, sights}
use Rattle.rules.specs.Recorded.{seen}
use Rattle.rules.proofs.Choice.{clash}
use Rattle.rules.proofs.Encoded.{byte_of, steps, answers-so}
use Rattle.rules.proofs.Runs.{ready}

pub record Lookalike (row : Row) (u v : World) : Type 0 where
  pub stored : contents u ≡ contents v
  pub unseen : (later : List Event) → sights row later u ≡ sights row later v

-- One event.
module _ {row : Row} {u v : World} (g : Lookalike row u v) (e : Event) where
  first-seen : visible row e u ≡ visible row e v
  first-seen = let all = g.unseen (e ∷ []) in cc

  refused-alike : refusal row e u ≡ refusal row e v
  refused-alike = ap (λ (x : Visible). x.0) first-seen

  next-alike : Lookalike row (next row e u) (next row e v)
  next-alike = record { stored = ap (λ (x : Visible). x.2) first-seen; unseen = λ later. let all = g.unseen (e ∷ later) in cc }

-- Two runs that have come equally far, in worlds that look alike.
pub data Abreast (row : Row) : Progress → Progress → Type 0 where
  abreast : (n at k : ℕ) {u v : World} (answers : List ℕ) → Lookalike row u v → Abreast row (progress_of n at k u answers) (progress_of n at k v answers)

-- Where a turn does its record, the record is not refused.
does-taken : (over : Bool) (n r : ℕ) → (not over && eqb (if over then n else r) 0) ≡ true → r ≡ 0
does-taken true n r e = clash (sym e)
does-taken false n r e = eqb-true r 0 e

-- One turn: both do the record or neither, and it is answered alike.
module _ {row : Row} {u v : World} (g : Lookalike row u v) where
  record-alike : (t : List ℕ) (at : ℕ) (full : Bool) → record_refusal row t at full u ≡ record_refusal row t at full v
  unfolding record_refusal
  record-alike t at full = rw (refused-alike g (event_at t at))

  does-alike : (n at k size : ℕ) (answers : List ℕ) (e : Event) (d : Bool) → (d ≡ true → refusal row e u ≡ 0) →
      let turned : World → Progress = λ (w : World).
      let x = step row e w in
      progress_of n (if d then at + 2 + size else at) (if d then k + 1 else k) (if d then x else w) (if d then set answers k (answer_byte (answer x.state)) else answers) in
      Abreast row (turned u) (turned v)
  does-alike n at k size answers e true f =
      let z = f refl in
      let z' = sym (refused-alike g e) ∙ z in
      let byte = byte_of (visible row e u) in
      let done : World → ℕ → Progress = λ (w : World) (b : ℕ). progress_of n (at + 2 + size) (k + 1) w (set answers k b) in
      subst₂ (λ (x y : World). Abreast row (done x (answer_byte (answer x.state))) (done y (answer_byte (answer y.state)))) (steps row e u z) (steps row e v z')
      (subst₂ (λ (a b : ℕ). Abreast row (done (next row e u) a) (done (next row e v) b)) (answers-so row e u z) (ap byte_of (first-seen g e) ∙ answers-so row e v z')
      (abreast n (at + 2 + size) (k + 1) (set answers k byte) (next-alike g e)))
  does-alike n at k size answers e false f = abreast n at k answers g

module _ (row : Row) (t : List ℕ) where
  turn-abreast : {p q : Progress} → Abreast row p q → Abreast row (turn row t p) (turn row t q)
  unfolding turn
  turn-abreast (abreast n at k {u} answers g) =
      let full = leb (length answers) k in
      let over = not (eqb n 0) || leb (length t) at in
      let r = record_refusal row t at full u in
      let m = if over then n else r in
      rw (← (record-alike g t at full))
      (does-alike g m at k (two t at) answers (event_at t at) (not over && eqb m 0) (λ d. (ready (does-taken over n r d)).taken))

  pub run-abreast : {p q : Progress} (limit : ℕ) → Abreast row p q → Abreast row (run limit row t p) (run limit row t q)
  run-abreast zero g = g
  run-abreast {p = p} {q = q} (suc limit) g = run-abreast {p = turn row t p} {q = turn row t q} limit (turn-abreast g)

pub abreast-seen : {row : Row} {p q : Progress} → Abreast row p q → seen p ≡ seen q
abreast-seen (abreast n at k answers g) = ap (λ (c : Contents). record { number = n; taken = at; done = k; contents = c; answers = answers }) g.stored
