-- What a view that is not refused has found, and the room for a page of the cells: laws that no contract states, and that no proof cites any more,
-- since the search goes these ways by itself.
use Prim.Native.Nat.{ℕ, ◌<◌}
use mathlib.Core.Path.{◌≡◌, sym, ap, ◌∙◌}
use mathlib.Core.Bool.{false, not}
use mathlib.Core.List.{List}
use native.Mathlib.Omega.{arith}
use lib.Dec.{eqb, leb}
use lib.ListN.{length}
use borrow.Author.Tests.{eqb-true, leb-false, eq-eqb, not-false}
use Rattle.rules.specs.declared.Region.{Region}
use Rattle.rules.specs.declared.Row.{Row}
use Rattle.rules.specs.Device.{row_of}
use Rattle.rules.specs.Call.{memory_refusal, is_past, view_outcome}
use Rattle.rules.proofs.Choice.{if-elim, clash}
use Rattle.rules.proofs.Program.{memory-facts}

module _ (device : ℕ) (region : Region) (cells identification : List ℕ) (address : ℕ) where
  module _ (n : ℕ) (en : n ≡ (view_outcome device region cells identification address).number) where
    view-facts : n ≡ 0 → (memory_refusal device cells identification ≡ 0) × (is_past (row_of device) region address ≡ false)
    unfolding view_outcome
    view-facts z =
        let m = memory_refusal device cells identification in
        let past = is_past (row_of device) region address in
        let P : ℕ → Type 0 = λ (k : ℕ). k ≡ 0 → (m ≡ 0) × (past ≡ false) in
        if-elim P (not (eqb m 0)) (λ h e. clash (sym h ∙ ap not (eq-eqb m 0 e)))
        (λ h. if-elim P past (λ _ e. absurd (omega arith)) (λ p _. (eqb-true m 0 (not-false (eqb m 0) h), p))) (sym en ∙ z)

    pub view-room : n ≡ 0 → region ≡ Region.Cells → (row : Row) → row ≡ row_of device → (length cells ≡ row.cells) × (address < row.cells)
    unfolding is_past
    view-room z e row er =
        let found = view-facts z in
        let lengths = memory-facts device cells identification found.0 in
        let past : leb (row_of device).cells address ≡ is_past (row_of device) region address = rw e in
        let inside : address < (row_of device).cells = leb-false (row_of device).cells address (past ∙ found.1) in
        rw er (lengths.1, inside)
