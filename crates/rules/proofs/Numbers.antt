-- A refusal's number is not 0, which is the number of what was done, and no two have one number; nor have two levels one answer byte. So the
-- numbers of an outcome tell every result of a call from every other.
use Rattle.std.specs.Prelude.{Result, Ok, Err}
use Prim.Native.Nat.{ℕ}
use mathlib.Core.Path.{◌≡◌, refl, sym, ap, ◌∙◌}
use mathlib.Core.List.{List, [], ◌∷◌}
use lib.ListN.{get_or}
use native.Mathlib.Omega.{arith}
use Rattle.rules.specs.declared.Level.{Level}
use Rattle.rules.specs.declared.refusal.Refusal.{Refusal}
use Rattle.rules.specs.Trace.{answer_byte}
use Rattle.rules.specs.Refused.{refusal_number, number_of}

pub some-number : (e : Refusal) → refusal_number e ≡ 0 → ⊥
some-number e z = grind arith

-- The refusals at the places of their numbers; at 0, where none is, the first stands once more.
abbrev refusals : List Refusal
refusals =
    Refusal.Device
    ∷ Refusal.Device
    ∷ Refusal.Cells
    ∷ Refusal.Identification
    ∷ Refusal.Latch
    ∷ Refusal.State
    ∷ Refusal.Cut
    ∷ Refusal.Kind
    ∷ Refusal.Length
    ∷ Refusal.Pin
    ∷ Refusal.Answers
    ∷ Refusal.Power
    ∷ Refusal.Long
    ∷ Refusal.Address
    ∷ Refusal.Counts
    ∷ Refusal.Count
    ∷ []

refusal-back : (e : Refusal) → get_or refusals (refusal_number e) Refusal.Device ≡ e
refusal-back Refusal.Device = refl
refusal-back Refusal.Cells = refl
refusal-back Refusal.Identification = refl
refusal-back Refusal.Latch = refl
refusal-back Refusal.State = refl
refusal-back Refusal.Cut = refl
refusal-back Refusal.Kind = refl
refusal-back Refusal.Length = refl
refusal-back Refusal.Pin = refl
refusal-back Refusal.Answers = refl
refusal-back Refusal.Power = refl
refusal-back Refusal.Long = refl
refusal-back Refusal.Address = refl
refusal-back Refusal.Counts = refl
refusal-back Refusal.Count = refl

pub same-refusal : (a b : Refusal) → refusal_number a ≡ refusal_number b → a ≡ b
same-refusal a b e = sym (refusal-back a) ∙ ap (λ (n : ℕ). get_or refusals n Refusal.Device) e ∙ refusal-back b

abbrev levels : List Level
levels = Level.Low ∷ Level.High ∷ Level.Z ∷ []

level-back : (q : Level) → get_or levels (answer_byte q) Level.Z ≡ q
level-back Level.Low = refl
level-back Level.High = refl
level-back Level.Z = refl

pub same-level : (p q : Level) → answer_byte p ≡ answer_byte q → p ≡ q
same-level p q e = sym (level-back p) ∙ ap (λ (n : ℕ). get_or levels n Level.Z) e ∙ level-back q

-- Two results that are alike: both were done, and what they give passes a test, or both were refused for one reason.
abbrev pub Alike : {T : Type 0} → (T → T → Type 0) → Result T Refusal → Result T Refusal → Type 0
Alike Same (Ok a) (Ok b) = Same a b
Alike Same (Ok a) (Err d) = ⊥
Alike Same (Err c) (Ok b) = ⊥
Alike Same (Err c) (Err d) = c ≡ d

-- Results of one number are, where what they give passes it if both were done.
pub alike : {T : Type 0} (Same : T → T → Type 0) (x y : Result T Refusal) → number_of x ≡ number_of y
    → ((a b : T) → x ≡ Ok a → y ≡ Ok b → Same a b) → Alike Same x y
alike Same (Ok a) (Ok b) e f = f a b refl refl
alike Same (Ok a) (Err d) e f = some-number d (sym e)
alike Same (Err c) (Ok b) e f = some-number c e
alike Same (Err c) (Err d) e f = same-refusal c d e
