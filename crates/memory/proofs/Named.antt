-- ST's code at the start of a page and the cells other than FFh as the library counts them, laws that the documents have named; and a list of marks,
-- one mark further on, which no contract states. No proof cites them any more: the search finds the first, a loop counts the cells, and an
-- iterator's method goes through the marks.
use Prim.Native.Nat.{ℕ, zero, suc, ◌+◌, ◌-◌, ◌≤◌, ◌<◌}
use mathlib.Core.Path.{◌≡◌, refl, ap, subst, ◌∙◌}
use mathlib.Core.Bool.{Bool, true, false, not, cond}
use mathlib.Core.List.{List, ◌∷◌, ◌++◌}
use native.Mathlib.Numerals.{add-one}
use native.Mathlib.Omega.{arith}
use lib.Dec.{eqb}
use lib.ListN.{get_or, set, take, drop, length, length-drop, replicate}
use lib.Seq.{drop-cons}
use borrow.Author.Tests.{le-leb, lt-leb}
use Rattle.std.specs.List.{count_by}
use Rattle.std.proofs.lemmas.List.{get_or-drop}
use Rattle.std.proofs.lemmas.List.Sums.{sum_by_more}
use Rattle.rules.specs.World.{number}
use Rattle.rules.specs.declared.Row.{Row}
use Rattle.rules.specs.Device.{code}
use Rattle.rules.specs.Cycle.{filled}
use Rattle.rules.specs.Sound.{are_marks}
use Rattle.memory.proofs.Laws.{code-room}

three : (m : ℕ) → set {A = ℕ} (set (set (replicate (suc (suc (suc m))) 0xFF) 0 0x20) 1 0x00) 2 0x12 ≡ 0x20 ∷ 0x00 ∷ 0x12 ∷ replicate m 0xFF
three m = refl

pub with_code : (row : Row) (n : ℕ) → row.coded ≡ true → length (code row) ≤ n → set {A = ℕ} (set (set (replicate n 0xFF) 0 0x20) 1 0x00) 2 0x12 ≡ code row ++ replicate (n - length (code row)) 0xFF
with_code row n e h =
    let f : suc (suc (suc (n - 3))) ≡ n = omega (arith, code-room row e h) in
    rw e (subst (λ (k : ℕ). set {A = ℕ} (set (set (replicate k 0xFF) 0 0x20) 1 0x00) 2 0x12 ≡ 0x20 ∷ 0x00 ∷ 0x12 ∷ replicate (n - 3) 0xFF) f (three (n - 3)))

-- The cells other than FFh in a list of n cells are as many as the rules count, who go from place to place.
one_of : (b : Bool) → cond b 1 0 ≡ number b
one_of true = refl
one_of false = refl

pub filled-counted : (n a : ℕ) (cells : List ℕ) → a + n ≤ length cells → count_by (λ x. not (eqb x 0xFF)) (take n (drop a cells)) ≡ filled n a cells
unfolding filled
filled-counted zero a cells h = refl
filled-counted (suc n) a cells h =
    let counts : ℕ → Bool = λ x. not (eqb x 0xFF) in
    let more = sum_by_more (λ x. cond (counts x) 1 0) (drop a cells) n 0 (simp length-drop (omega arith)) in
    rw (add-one n, get_or-drop a cells n 0, one_of (counts (get_or cells (a + n) 0))) at more
    ∙ ap (λ k. k + number (counts (get_or cells (a + n) 0))) (filled-counted n a cells (omega arith))

-- The marks from a place on, where the mark there is good and where it is bad.
module _ (marks : List ℕ) (n : ℕ) (h : n < length marks) where
  pub mark-good : get_or marks n 0 ≤ 1 → are_marks (drop n marks) ≡ are_marks (drop (n + 1) marks)
  mark-good g = rw (add-one n, drop-cons marks n 0 h, le-leb (get_or marks n 0) 1 g)

  pub mark-bad : 1 < get_or marks n 0 → are_marks (drop n marks) ≡ false
  mark-bad g = rw (drop-cons marks n 0 h, lt-leb (get_or marks n 0) 1 g)
