-- What a page's count says of its cells: the theorem `filled-says`, and the laws on counting that it rests on.
use Prim.Native.Nat.{ℕ, zero, suc, ◌+◌, ◌≤◌, ◌<◌}
use mathlib.Core.Path.{◌≡◌, refl, sym, ap, subst}
use mathlib.Core.Bool.{Bool, true, false, not}
use mathlib.Core.List.{List}
use mathlib.Core.Logic.{⊎_elim}
use native.Mathlib.Nat.{eq-or-lt_of_le, le_of_suc-le-suc, not-suc-le-zero}
use native.Mathlib.Omega.{arith}
use lib.ListN.{get_or}
use lib.Dec.{eqb}
use borrow.Author.Tests.{eqb-true}
use Rattle.rules.specs.World.{number}
use Rattle.rules.specs.Cycle.{filled}
use Rattle.rules.specs.Counts.{FilledSays}
use Rattle.rules.proofs.Choice.{number_small}

-- What one cell adds.
adds : ℕ → ℕ
adds x = number (not (eqb x 0xFF))

adds_none : (x : ℕ) → adds x ≡ 0 → x ≡ 0xFF
unfolding adds
adds_none x = go (eqb x 0xFF) refl
  where
    go : (t : Bool) → eqb x 0xFF ≡ t → ◌≡◌ {A = ℕ} (number (not t)) 0 → x ≡ 0xFF
    go true e _ = eqb-true x 0xFF e
    go false e z = absurd (omega arith)

adds_one : (x : ℕ) → (x ≡ 0xFF → ⊥) → adds x ≡ 1
unfolding adds
adds_one x n = go (eqb x 0xFF) refl
  where
    go : (t : Bool) → eqb x 0xFF ≡ t → ◌≡◌ {A = ℕ} (number (not t)) 1
    go true e = absurd (n (eqb-true x 0xFF e))
    go false e = refl

adds-most : (x : ℕ) → adds x ≤ 1
unfolding adds
adds-most x = number_small (not (eqb x 0xFF))

pub filled-most : (n a : ℕ) (cells : List ℕ) → filled n a cells ≤ n
unfolding filled adds
filled-most zero a cells = omega arith
filled-most (suc n) a cells = omega (arith, filled-most n a cells, adds-most (get_or cells (a + n) 0))

-- The last of n places, or one before it.
last_or : {P : ℕ → Type 0} (n : ℕ) → P n → ((i : ℕ) → i < n → P i) → (i : ℕ) → i < suc n → P i
last_or {P} n last before i h = ⊎_elim (λ same. subst P (sym same) last) (λ less. before i less) (eq-or-lt_of_le (le_of_suc-le-suc h))

module _ (a : ℕ) (cells : List ℕ) where
  none_filled : (n : ℕ) → filled n a cells ≡ 0 → (i : ℕ) → i < n → get_or cells (a + i) 0 ≡ 0xFF
  unfolding filled adds
  none_filled zero z = λ i h. absurd (not-suc-le-zero h)
  none_filled (suc n) z =
      last_or {P = λ (i : ℕ). get_or cells (a + i) 0 ≡ 0xFF} n (adds_none (get_or cells (a + n) 0) (omega arith)) (none_filled n (omega arith))

  pub blank-filled : (n : ℕ) → ((i : ℕ) → i < n → get_or cells (a + i) 0 ≡ 0xFF) → filled n a cells ≡ 0
  unfolding filled
  blank-filled zero h = refl
  blank-filled (suc n) h = rw (blank-filled n (λ i u. h i (omega arith)), h n (omega arith))

  all-filled : (n : ℕ) → filled n a cells ≡ n → (i : ℕ) → i < n → get_or cells (a + i) 0 ≡ 0xFF → ⊥
  unfolding filled adds
  all-filled zero f = λ i h. absurd (not-suc-le-zero h)
  all-filled (suc n) f =
      let x = get_or cells (a + n) 0 in
      let most = adds-most x in
      let before = filled-most n a cells in
      last_or {P = λ (i : ℕ). get_or cells (a + i) 0 ≡ 0xFF → ⊥} n (λ e. let none : adds x ≡ 0 = ap adds e in absurd (omega arith)) (all-filled n (omega arith))

  full-filled : (n : ℕ) → ((i : ℕ) → i < n → get_or cells (a + i) 0 ≡ 0xFF → ⊥) → filled n a cells ≡ n
  unfolding filled adds
  full-filled zero h = refl
  full-filled (suc n) h = let one = adds_one (get_or cells (a + n) 0) (h n (omega arith)) in let before = full-filled n (λ i u. h i (omega arith)) in omega arith

pub filled-says : FilledSays
filled-says n a cells = ((none_filled a cells n, blank-filled a cells n), (all-filled a cells n, full-filled a cells n))

-- Places that hold the same count the same.
pub filled-same : (n a : ℕ) (xs ys : List ℕ) → ((i : ℕ) → i < n → get_or xs (a + i) 0 ≡ get_or ys (a + i) 0) → filled n a xs ≡ filled n a ys
unfolding filled
filled-same zero a xs ys h = refl
filled-same (suc n) a xs ys h = rw (filled-same n a xs ys (λ i u. h i (omega arith)), h n (omega arith))
