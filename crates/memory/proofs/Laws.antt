-- What library words find in a list, in the words of the rules; one step of each definition that a loop follows; and the room for ST's code.
use Rattle.std.specs.Prelude.{Option, Some, None}
use Prim.Native.Nat.{ℕ, suc, ◌+◌, ◌-◌, ◌*◌, ◌≤◌, ◌<◌}
use mathlib.Core.Path.{◌≡◌, ap, ◌∙◌}
use mathlib.Core.Bool.{true}
use mathlib.Core.List.{List}
use native.Mathlib.Nat.{sub-zero}
use native.Mathlib.Numerals.{add-one}
use native.Mathlib.Omega.{arith}
use lib.ListN.{get_or, set, take, drop, length, length-take, length-drop}
use lib.Dec.{eqb}
use borrow.Author.Tests.{ne_eqb}
use Rattle.std.specs.List.{enumerate_from, zip}
use Rattle.std.proofs.lemmas.List.{get_or-drop, get_or-take, get_or_default}
use Rattle.std.proofs.lemmas.List.FromFn.{length-enumerate_from, get_or-enumerate_from}
use Rattle.std.proofs.lemmas.Slice.Zip.{length-zip, get_or-zip}
use Rattle.rules.specs.declared.Row.{Row}
use Rattle.rules.specs.Device.{code}
use Rattle.rules.specs.Cycle.{written, filled, recounted}
use Rattle.rules.specs.Call.{recounted_to, lowest, first_blank}

module _ (page : ℕ) (latch : List ℕ) (start : ℕ) (bytes : List ℕ) where
  pub written-set : (n : ℕ) → get_or latch (page + n) 0 ≡ 1 → written (n + 1) page latch start bytes ≡ set (written n page latch start bytes) (start + n) (get_or latch n 0)
  unfolding written
  written-set n h = rw (add-one n, h)

  pub written-keep : (n : ℕ) → (get_or latch (page + n) 0 ≡ 1 → ⊥) → written (n + 1) page latch start bytes ≡ written n page latch start bytes
  unfolding written
  written-keep n h = rw (add-one n, ne_eqb _ _ h)

-- A latch's bytes, each with its mark and its place. The one at place n is the latch's n-th, and its mark stands a page further on.
abbrev pub places : ℕ → List ℕ → List (ℕ × (ℕ × ℕ))
places page latch = enumerate_from 0 (zip (take page latch) (drop page latch))

pub place-at : (page : ℕ) (latch : List ℕ) (n i byte mark : ℕ) → length latch ≡ page + page
    → (n < length (places page latch)) × ((i, (byte, mark)) ≡ get_or (places page latch) n (i, (byte, mark)))
    → (i ≡ n) × (byte ≡ get_or latch n 0) × (mark ≡ get_or latch (page + n) 0)
place-at page latch n i byte mark long h =
    let bytes = take page latch in
    let marks = drop page latch in
    let within : n < length (zip bytes marks) = rw (length-enumerate_from 0 (zip bytes marks)) at h.0 in
    let below : n < page = omega (arith, length-zip bytes marks, length-take page latch) in
    let pair = get_or-zip bytes marks n (byte, mark) (simp length-take (omega arith)) (simp length-drop (omega arith)) in
    let e = h.1 ∙ get_or-enumerate_from 0 (zip bytes marks) n (i, (byte, mark)) within in
    let its_byte = ap (λ (p : ℕ × (ℕ × ℕ)). p.1.0) e ∙ ap (λ (p : ℕ × ℕ). p.0) pair in
    let its_mark = ap (λ (p : ℕ × (ℕ × ℕ)). p.1.1) e ∙ ap (λ (p : ℕ × ℕ). p.1) pair in (
      omega (arith, ap (λ (p : ℕ × (ℕ × ℕ)). p.0) e),
      its_byte ∙ get_or-take page latch n byte below ∙ get_or_default latch n byte 0 (omega arith),
      its_mark ∙ get_or-drop page latch n mark ∙ get_or_default latch (page + n) mark 0 (omega arith),
    )

-- An item of a page of the cells, and counting one cell more.
pub item-at : (cells : List ℕ) (a k i : ℕ) → i < length (take k (drop a cells)) → get_or (take k (drop a cells)) i 0 ≡ get_or cells (a + i) 0
item-at cells a k i h = get_or-take k (drop a cells) i 0 (omega (arith, h, length-take k (drop a cells))) ∙ get_or-drop a cells i 0

module _ (cells : List ℕ) (a n : ℕ) where
  pub filled_more : (get_or cells (a + n) 0 ≡ 0xFF → ⊥) → filled (n + 1) a cells ≡ filled n a cells + 1
  unfolding filled
  filled_more h = rw (add-one n, ne_eqb _ _ h)

  pub filled-kept : get_or cells (a + n) 0 ≡ 0xFF → filled (n + 1) a cells ≡ filled n a cells
  unfolding filled
  filled-kept h = rw (add-one n, h) (omega arith)

-- One page more.
pub recounted-next : (n : ℕ) (row : Row) (cells counts : List ℕ) → recounted_to (n + 1) row cells counts ≡ recounted row (n * row.page) cells (recounted_to n row cells counts)
unfolding recounted_to
recounted-next n row cells counts = rw (add-one n)

-- A search for the first count of 0, from page p on: behind the last page there is none; else it is this page, or a later one.
module _ (counts : List ℕ) where
  pub blank_from : ℕ → Option ℕ
  blank_from p = lowest (λ (q : ℕ). eqb (get_or counts q 0) 0) (length counts - p) p

  pub blank-start : blank_from 0 ≡ first_blank (length counts) counts
  unfolding blank_from
  blank-start = rw (sub-zero (length counts))

  pub blank-end : (p : ℕ) → p ≡ length counts → blank_from p ≡ None
  unfolding blank_from lowest
  blank-end p e =
      let none : length counts - p ≡ 0 = omega arith in
      rw none

  module _ (p : ℕ) (within : p < length counts) where
    left : length counts - p ≡ suc (length counts - (p + 1))
    left = omega arith

    pub blank-here : get_or counts p 0 ≡ 0 → blank_from p ≡ Some p
    unfolding blank_from lowest
    blank-here z = rw (left, z)

    pub blank-later : (get_or counts p 0 ≡ 0 → ⊥) → blank_from p ≡ blank_from (p + 1)
    unfolding blank_from lowest
    blank-later f = rw (left, ne_eqb _ _ f, add-one p)

-- Where there is a code it has three bytes, and a page that it fits into as many.
pub code-room : (row : Row) {n : ℕ} → row.coded ≡ true → length (code row) ≤ n → 3 ≤ n
code-room row e h = rw e at h
