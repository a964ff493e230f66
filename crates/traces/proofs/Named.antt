-- The length of a record of no kind, the refusal for want of room, and whether a byte is being sent, told of the code's own tests, laws that the
-- documents have named; and that a number of two bytes is small, and that no event of a pin is refused, which no contract states as such. No proof
-- cites them any more, since the search goes these ways by itself.
use Prim.Native.Nat.{ℕ, zero, suc, ◌+◌, ◌-◌, ◌/◌, ◌≤◌, ◌<◌}
use mathlib.Core.Path.{◌≡◌, refl, sym, ap, ◌∙◌}
use mathlib.Core.Bool.{Bool, true, false, not, ◌&&◌}
use mathlib.Core.List.{List}
use native.Mathlib.Omega.{arith}
use lib.ListN.{length, get_or}
use lib.Dec.{eqb}
use borrow.Author.Tests.{eq-eqb, ne_eqb, le-ltb}
use Rattle.rules.specs.declared.Row.{Row}
use Rattle.rules.specs.declared.Event.{Event}
use Rattle.rules.specs.declared.State.{State}
use Rattle.rules.specs.World.{World}
use Rattle.rules.specs.Send.{is_sending}
use Rattle.rules.specs.Event.{decodes, refusal}
use Rattle.rules.specs.Trace.{two, length_of, pin_event, bad_pin}
use Rattle.rules.proofs.Choice.{if-elim}
use Rattle.traces.specs.Form.{form_refusal}

pub length_none : (k : ℕ) → (k ≡ 1 → ⊥) → (k ≡ 2 → ⊥) → (k ≡ 3 → ⊥) → 0 ≡ length_of k
length_none zero a b c = refl
length_none (suc zero) a b c = absurd (a refl)
length_none (suc (suc zero)) a b c = absurd (b refl)
length_none (suc (suc (suc zero))) a b c = absurd (c refl)
length_none (suc (suc (suc (suc k)))) a b c = refl

-- A number of two bytes.
pub two-small : (t : List ℕ) (at : ℕ) {n : ℕ} → n ≡ two t at → ((i : ℕ) → get_or t i 0 < 256) → n < 65536
two-small t at e h = omega (arith, e, h at, h (at + 1))

-- The room for the answer is asked about last.
module _ (t : List ℕ) (at : ℕ) (full : Bool) {size kind right : ℕ} (es : size ≡ two t at) (ek : kind ≡ two t (at + 2)) (er : right ≡ length_of kind) (h4 : 4 ≤ length t - at) where
  module _ (r : right ≡ 0 → ⊥) (z : size ≡ right) (l : 2 + right ≤ length t - at) {bad : Bool} (eb : bad ≡ bad_pin t at kind) where
    pub refused_full : bad ≡ false → full ≡ true → 10 ≡ form_refusal t at full
    unfolding form_refusal
    refused_full h f =
        let right-at : length_of (two t (at + 2)) ≡ right = sym (er ∙ ap length_of ek) in
        let enough = le-ltb (length t - at) (2 + right) l in
        rw (le-ltb (length t - at) 4 h4, right-at, ne_eqb right 0 r, ← es, z, eq-eqb right right refl, enough, ← ek, ← eb, h, f)

module _ (row : Row) (s : State) {d sending : Bool} (ed : d ≡ decodes s) (es : sending ≡ is_sending row s) (hc : not s.pins.c ≡ false) where
  pub both_at : (b : Bool) → (d && sending) ≡ b → (decodes s && is_sending row s) ≡ b
  both_at b h = ap (λ (x : Bool). x && is_sending row s) (sym ed) ∙ ap (λ (x : Bool). d && x) (sym es) ∙ h

-- No event of a pin is refused.
pub pin-taken : (row : Row) (p : ℕ) (w : World) → refusal row (pin_event p) w ≡ 0
pin-taken row p w =
    let P : Event → Type 0 = λ (e : Event). refusal row e w ≡ 0 in
    if-elim P (eqb (p / 2) 0) (λ _. refl)
    (λ _. if-elim P (eqb (p / 2) 1) (λ _. refl) (λ _. if-elim P (eqb (p / 2) 2) (λ _. refl) (λ _. if-elim P (eqb (p / 2) 3) (λ _. refl) (λ _. refl))))
