-- Laws on choices by a test, on tests joined by "and", "or" and "not", on lists of tests and tests of all small numbers, and on a bit
-- as a number.
use Rattle.std.specs.Prelude.{if◌then◌else◌}
use Prim.Native.Nat.{ℕ, zero, suc, ◌≤◌, ◌<◌}
use mathlib.Core.Path.{◌≡◌, refl, sym, ap, ◌∙◌}
use mathlib.Core.Bool.{Bool, true, false, ◌&&◌, ◌||◌, true≢false}
use mathlib.Core.List.{List, [], ◌∷◌}
use mathlib.Core.Logic.{⊎_elim}
use native.Mathlib.Nat.{eq-or-lt_of_le, le_of_suc-le-suc, not-suc-le-zero}
use native.Mathlib.Omega.{arith}
use lib.Dec.{eqb}
use Rattle.rules.specs.World.{number}
use Rattle.rules.specs.Sound.{◌implies◌, all}

-- A choice has a property if each side has it under its test.
pub if-elim {κ} : {A : Type 0} (P : A → Type κ) (b : Bool) {x y : A} → (b ≡ true → P x) → (b ≡ false → P y) → P (if b then x else y)
if-elim P true f g = f refl
if-elim P false f g = g refl

-- Two choices by one test are related if their sides are.
pub if-both {κ} : {A B : Type 0} (R : A → B → Type κ) (b : Bool) {x y : A} {x' y' : B} → (b ≡ true → R x x') → (b ≡ false → R y y') → R (if b then x else y) (if b then x' else y')
if-both R true f g = f refl
if-both R false f g = g refl

-- A choice by d and, within it, by t; and one by both.
pub if-within {μ} : {A B : Type 0} (P : A → B → Type μ) (d t : Bool) {x y z : A} {b b' : B}
    → (t ≡ true → P x b') → (t ≡ false → P y b) → P z b → P (if d then (if t then x else y) else z) (if d && t then b' else b)
if-within P true true f g h = f refl
if-within P true false f g h = g refl
if-within P false t f g h = h

pub if_yes : {A : Type 0} (b : Bool) (x y : A) → b ≡ true → (if b then x else y) ≡ x
if_yes true x y e = refl
if_yes false x y e = absurd (true≢false (sym e))

pub if_no : {A : Type 0} (b : Bool) (x y : A) → b ≡ false → (if b then x else y) ≡ y
if_no true x y e = absurd (true≢false e)
if_no false x y e = refl

pub clash {ℓ} : {A : Type ℓ} → true ≡ false → A
clash e = absurd (true≢false e)

pub and_left : (a b : Bool) → (a && b) ≡ true → a ≡ true
and_left true b e = refl
and_left false b e = clash (sym e)

pub and_right : (a b : Bool) → (a && b) ≡ true → b ≡ true
and_right true b e = e
and_right false b e = clash (sym e)

pub and_both : (a b : Bool) → a ≡ true → b ≡ true → (a && b) ≡ true
and_both true b e f = f
and_both false b e f = clash (sym e)

-- The same between facts that stand in a row.
infixr 20 ◌also◌
pub ◌also◌ : {a b : Bool} → a ≡ true → b ≡ true → (a && b) ≡ true
◌also◌ {a} {b} e f = and_both a b e f

-- What holds by both holds where the second is a weaker one.
pub and_then : (a b c : Bool) → (b ≡ true → c ≡ true) → (a && b) ≡ true → (a && c) ≡ true
and_then a b c f e = and_both a c (and_left a b e) (f (and_right a b e))

-- Where both do not hold and the first does, the second does not.
pub and-rest : (a b : Bool) → (a && b) ≡ false → a ≡ true → b ≡ false
and-rest true b e f = e
and-rest false b e f = clash (sym f)

pub or_left : (a b : Bool) → a ≡ true → (a || b) ≡ true
or_left true b e = refl
or_left false b e = clash (sym e)

pub or_right : (a b : Bool) → b ≡ true → (a || b) ≡ true
or_right true b e = refl
or_right false b e = e

-- Where one of two holds and the first does not, the second does.
pub or-rest : (a b : Bool) → (a || b) ≡ true → a ≡ false → b ≡ true
or-rest true b e f = clash f
or-rest false b e f = e

pub or-first : (a b : Bool) → (a || b) ≡ true → b ≡ false → a ≡ true
or-first true b e f = refl
or-first false b e f = clash (sym e ∙ f)

-- What follows from each of two follows from one of them.
pub or_elim {ℓ} : {A : Type ℓ} (a b : Bool) → (a ≡ true → A) → (b ≡ true → A) → (a || b) ≡ true → A
or_elim true b f g e = f refl
or_elim false b f g e = g e

-- What holds by one of two holds by one of two weaker ones.
pub or-both : (a b c d : Bool) → (a ≡ true → c ≡ true) → (b ≡ true → d ≡ true) → (a || b) ≡ true → (c || d) ≡ true
or-both a b c d f g = or_elim a b (λ e. or_left c d (f e)) (λ e. or_right c d (g e))

-- What an implication that holds says under its premise.
pub implied : (a b : Bool) → (a implies b) ≡ true → a ≡ true → b ≡ true
implied true b e f = e
implied false b e f = clash (sym f)

pub implying : (a b : Bool) → (a ≡ true → b ≡ true) → (a implies b) ≡ true
implying true b f = f refl
implying false b f = refl

-- A list of tests that all hold is a fact for each, and the other way round.
abbrev pub Hold : List Bool → Type 0
Hold [] = Unit
Hold (b ∷ bs) = (b ≡ true) × Hold bs

pub each : (bs : List Bool) → all bs ≡ true → Hold bs
each [] e = tt
each (b ∷ bs) e = (and_left b (all bs) e, each bs (and_right b (all bs) e))

pub all_of : (bs : List Bool) → Hold bs → all bs ≡ true
all_of [] e = refl
all_of (b ∷ bs) e = and_both b (all bs) e.0 (all_of bs e.1)

-- A test of every number below n, which computation decides, and what it says of each.
abbrev pub below : ℕ → (ℕ → Bool) → Bool
below zero test = true
below (suc n) test = test n && below n test

pub passes : (n : ℕ) (test : ℕ → Bool) → below n test ≡ true → (x : ℕ) → x < n → test x ≡ true
passes zero test e x h = absurd (not-suc-le-zero h)
passes (suc n) test e x h =
    ⊎_elim (λ same. ap test same ∙ and_left (test n) (below n test) e) (λ less. passes n test (and_right (test n) (below n test) e) x less)
    (eq-or-lt_of_le (le_of_suc-le-suc h))

-- A bit as a number: 0 or 1, and the bit again.
pub number_small : (b : Bool) → number b ≤ 1
number_small true = omega arith
number_small false = omega arith

pub number-back : (b : Bool) → eqb (number b) 1 ≡ b
number-back true = refl
number-back false = refl
