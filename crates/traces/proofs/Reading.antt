-- Reading a record, one law for each way through the rules.
use Rattle.std.specs.Prelude.{if◌then◌else◌}
use Prim.Native.Nat.{ℕ, ◌+◌, ◌-◌, ◌*◌}
use mathlib.Core.Path.{◌≡◌, refl, sym, ap, ◌∙◌}
use mathlib.Core.Bool.{Bool, true, false, not}
use mathlib.Core.List.{List, []}
use native.Mathlib.Omega.{arith}
use lib.ListN.{get_or, length}
use lib.Dec.{eqb, leb, ltb}
use borrow.Author.Tests.{ne_eqb}
use Rattle.rules.specs.declared.Row.{Row}
use Rattle.rules.specs.declared.Event.{Event}
use Rattle.rules.specs.World.{World, world_of}
use Rattle.rules.specs.Device.{prepared_state}
use Rattle.rules.specs.Event.{refusal}
use Rattle.rules.specs.Trace.{two, length_of, pin_event, event_at, bad_pin, record_refusal}
use Rattle.rules.proofs.Runs.{Ready, ready}
use Rattle.traces.specs.Form.{form_refusal}

-- The event of a record.
module _ (t : List ℕ) (at : ℕ) {kind : ℕ} (ek : kind ≡ two t (at + 2)) where
  pub event-pin : {e : Event} → kind ≡ 1 → e ≡ pin_event (get_or t (at + 4) 0) → e ≡ event_at t at
  unfolding event_at
  event-pin h ee = ee ∙ rw (← ek, h)

  pub event-wait : {n a b : ℕ} → kind ≡ 2 → a ≡ two t (at + 4) → b ≡ two t (at + 6) → n ≡ a + b * 65536 → Event.Wait n ≡ event_at t at
  unfolding event_at
  event-wait h ea eb en = let f : at + 4 + 2 ≡ at + 6 = omega arith in rw (en, ea, eb, ← ek, h, f)

  pub event-power : (kind ≡ 1 → ⊥) → (kind ≡ 2 → ⊥) → Event.Power ≡ event_at t at
  unfolding event_at
  event-power f g = rw (← ek, ne_eqb kind 1 f, ne_eqb kind 2 g)

-- A record is refused with what its form is; where that is nothing, with what its event is.
form-first : (a b c d e f : Bool) (n : ℕ) →
    let form : ℕ → ℕ = λ (m : ℕ). if a then 6 else if b then 7 else if c then 8 else if d then 6 else if e then 9 else if f then 10 else m in
    form n ≡ (if eqb (form 0) 0 then n else form 0)
form-first true b c d e f n = refl
form-first false true c d e f n = refl
form-first false false true d e f n = refl
form-first false false false true e f n = refl
form-first false false false false true f n = refl
form-first false false false false false true n = refl
form-first false false false false false false n = refl

module _ (row : Row) (t : List ℕ) (at : ℕ) (full : Bool) (w : World) {n : ℕ} (en : n ≡ form_refusal t at full) where
  form-then : record_refusal row t at full w ≡ (if eqb n 0 then refusal row (event_at t at) w else n)
  unfolding record_refusal form_refusal
  form-then =
      let left = length t - at in
      let kind = two t (at + 2) in
      form-first (ltb left 4) (eqb (length_of kind) 0) (not (eqb (two t at) (length_of kind))) (ltb left (2 + two t at)) (bad_pin t at kind) full (refusal row (event_at t at) w)
      ∙ ap (λ (m : ℕ). if eqb m 0 then refusal row (event_at t at) w else m) (sym en)

  pub form-refused : (n ≡ 0 → ⊥) → n ≡ record_refusal row t at full w
  form-refused z = sym (form-then ∙ rw (ne_eqb n 0 z))

  pub event-refused : {m : ℕ} {e : Event} → n ≡ 0 → e ≡ event_at t at → m ≡ refusal row e w → m ≡ record_refusal row t at full w
  event-refused z ee em = em ∙ ap (λ (x : Event). refusal row x w) ee ∙ sym (form-then ∙ rw z)

-- A record that is good by its form is one that a device at rest takes, which refuses no event.
abbrev resting : World
resting = world_of prepared_state [] [] [] []

never-refused : (row : Row) (e : Event) → refusal row e resting ≡ 0
never-refused row (Event.Clock b) = refl
never-refused row (Event.Data b) = refl
never-refused row (Event.Select b) = refl
never-refused row (Event.Hold b) = refl
never-refused row (Event.Protect b) = refl
never-refused row (Event.Wait n) = refl
never-refused row Event.Power = refl

pub formed : (row : Row) (t : List ℕ) (at : ℕ) (a : List ℕ) (n : ℕ) {r : ℕ} → r ≡ form_refusal t at (leb (length a) n) → r ≡ 0
    → Ready row t at (leb (length a) n) resting
formed row t at a n e z =
    let full = leb (length a) n in
    ready (sym (event-refused row t at full resting e {m = refusal row (event_at t at) resting} z refl refl) ∙ never-refused row (event_at t at))
