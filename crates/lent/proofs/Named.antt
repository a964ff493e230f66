-- What counting and loading are refused with, and what holds where counting is not: laws that the documents have named; and what holds where asking
-- for a blank page is not refused, which no contract states. No proof cites them any more, since the search goes these ways by itself.
use Prim.Native.Nat.{ℕ, ◌<◌}
use mathlib.Core.Path.{◌≡◌, sym, ◌∙◌, subst}
use mathlib.Core.Bool.{Bool, true, false, not}
use mathlib.Core.List.{List}
use native.Mathlib.Omega.{arith}
use lib.ListN.{length}
use lib.Dec.{eqb}
use borrow.Author.Tests.{eqb-true, eq-eqb, ne_eqb, not-false, lt-ltb}
use Rattle.rules.specs.declared.Row.{Row}
use Rattle.rules.specs.declared.Stored.{Stored}
use Rattle.rules.specs.World.{number}
use Rattle.rules.specs.Device.{is_device, row_of, has_identification, page_count}
use Rattle.rules.specs.Judge.{storable}
use Rattle.rules.specs.Call.{count_outcome, blank_outcome, load_outcome}
use Rattle.rules.proofs.Choice.{if-elim}

-- Counting.
module _ (device : ℕ) (cells counts : List ℕ) (d : Bool) (ed : d ≡ is_device device) where
  pub count_device : not d ≡ true → 1 ≡ (count_outcome device cells counts).number
  unfolding count_outcome
  count_device h = rw (← ed, h)

  module _ (h : not d ≡ false) (row : Row) (er : row ≡ row_of device) where
    pub count_cells : (length cells ≡ row.cells → ⊥) → 2 ≡ (count_outcome device cells counts).number
    unfolding count_outcome
    count_cells a = rw (← ed, h, ← er, ne_eqb (length cells) row.cells a)

    module _ (a : length cells ≡ row.cells) (k : ℕ) (ek : k ≡ page_count row) where
      pub count_counts : (length counts ≡ k → ⊥) → 14 ≡ (count_outcome device cells counts).number
      unfolding count_outcome
      count_counts b = rw (← ed, h, ← er, eq-eqb (length cells) row.cells a, ← ek, ne_eqb (length counts) k b)

-- What is not refused has the lengths that counting asks for.
module _ (device : ℕ) (cells counts : List ℕ) (n : ℕ) (en : n ≡ (count_outcome device cells counts).number) where
  pub count_fits : n ≡ 0 → (row : Row) → row ≡ row_of device → (length cells ≡ row.cells) × (length counts ≡ page_count row)
  unfolding count_outcome
  count_fits z row er =
      let right-cells = eqb (length cells) (row_of device).cells in
      let right-counts = eqb (length counts) (page_count (row_of device)) in
      let P : ℕ → Type 0 = λ (m : ℕ). m ≡ 0 → (length cells ≡ (row_of device).cells) × (length counts ≡ page_count (row_of device)) in
      let lengths : P (count_outcome device cells counts).number =
      if-elim P (not (is_device device)) (λ _ e. absurd (omega arith))
      (λ _. if-elim P (not right-cells) (λ _ e. absurd (omega arith))
      (λ c. if-elim P (not right-counts) (λ _ e. absurd (omega arith))
      (λ k _. (eqb-true _ _ (not-false right-cells c), eqb-true _ _ (not-false right-counts k))))) in
      subst (λ (x : Row). (length cells ≡ x.cells) × (length counts ≡ page_count x)) (sym er) (lengths (sym en ∙ z))

-- Asked for a blank page, what is not refused has a count for each page.
module _ (device : ℕ) (counts : List ℕ) (n : ℕ) (en : n ≡ (blank_outcome device counts).number) where
  pub blank-fits : n ≡ 0 → length counts ≡ page_count (row_of device)
  unfolding blank_outcome
  blank-fits z =
      let right = eqb (length counts) (page_count (row_of device)) in
      let P : ℕ → Type 0 = λ (m : ℕ). m ≡ 0 → length counts ≡ page_count (row_of device) in
      let fits : P (blank_outcome device counts).number =
      if-elim P (not (is_device device)) (λ _ e. absurd (omega arith))
      (λ _. if-elim P (not right) (λ _ e. absurd (omega arith)) (λ k _. eqb-true _ _ (not-false right k))) in
      fits (sym en ∙ z)

-- Loading.
module _ (device : ℕ) (x : Stored) (row : Row) (d : Bool) (er : row ≡ row_of device) (ed : d ≡ is_device device) (b : ℕ) (eb : b ≡ storable row x.status) where
  module _ (h : not d ≡ false) (a : b ≡ x.status) where
    pub load_lock : number (has_identification row) < x.lock → 5 ≡ (load_outcome device x).number
    unfolding load_outcome
    load_lock l = rw (← ed, h, ← er, ← eb, eq-eqb b x.status a, lt-ltb (number (has_identification row)) x.lock l)
