-- W-205's theorems: `first-blank-says`, `blank-numbers`, `blank-stops`, `blank-as-read`, `counted-as-read`.
use Rattle.std.specs.Prelude.{if◌then◌else◌}
use Prim.Native.Nat.{ℕ, zero, suc, ◌+◌, ◌*◌, ◌≤◌, ◌<◌}
use mathlib.Core.Path.{◌≡◌, refl, sym, ap, ◌∙◌, subst}
use mathlib.Core.Bool.{Bool, true, false, not}
use mathlib.Core.List.{List}
use mathlib.Core.Logic.{⊎_elim}
use native.Mathlib.Nat.{eq-or-lt_of_le}
use native.Mathlib.Omega.{arith}
use lib.ListN.{length, get_or}
use lib.Dec.{eqb}
use borrow.Author.Tests.{eqb-true, eqb-false, not-false}
use Rattle.rules.specs.World.{Option, Some, None}
use Rattle.rules.specs.Device.{is_device, row_of, page_count}
use Rattle.rules.specs.Call.{recounted_to, count_outcome, lowest, first_blank, found_as, blank_outcome}
use Rattle.rules.specs.Room.{Lowest, Answers, FirstBlankSays, BlankNumbers, BlankStops, IsBlank, BlankAsRead, CountedAsRead}
use Rattle.rules.proofs.Choice.{if-elim}
use Rattle.rules.proofs.Counts.{recounted-long, counted-agrees}
use Rattle.rules.proofs.Filled.{filled-says}

module _ (Holds : ℕ → Type 0) where
  -- Two answers that both name the lowest number are one.
  one-lowest : (n : ℕ) (a b : Option ℕ) → Lowest Holds n a → Lowest Holds n b → a ≡ b
  one-lowest n (Some p) (Some q) h k =
      let above : p < q → ⊥ = λ u. k.2 p u h.1 in
      let below : q < p → ⊥ = λ u. h.2 q u k.1 in
      ap Some (omega arith)
  one-lowest n (Some p) None h k = absurd (k p h.0 h.1)
  one-lowest n None (Some q) h k = absurd (h q k.0 k.1)
  one-lowest n None None h k = refl

  -- The lowest of the n numbers from p on.
  LowestFrom : ℕ → ℕ → Option ℕ → Type 0
  LowestFrom n p (Some k) = (p ≤ k) × (k < p + n) × Holds k × ((q : ℕ) → p ≤ q → q < k → Holds q → ⊥)
  LowestFrom n p None = (q : ℕ) → p ≤ q → q < p + n → Holds q → ⊥

  -- One number more in front, of which it does not hold.
  past : (n p : ℕ) (b : Option ℕ) → (Holds p → ⊥) → LowestFrom n (suc p) b → LowestFrom (suc n) p b
  unfolding LowestFrom
  past n p b without = go b
    where
      Without : ℕ → Type 0
      Without q = Holds q → ⊥

      -- Either p itself, or a number above it.
      each : (q : ℕ) → p ≤ q → (suc p ≤ q → Without q) → Without q
      each q low above = ⊎_elim (λ same. subst Without same without) above (eq-or-lt_of_le low)

      go : (b : Option ℕ) → LowestFrom n (suc p) b → LowestFrom (suc n) p b
      go (Some k) h = (omega (arith, h.0), omega (arith, h.1), h.2, λ q low u. each q low (λ above. h.3 q above u))
      go None h = λ q low u. each q low (λ above. h q above (omega arith))

  from-none : (n : ℕ) (b : Option ℕ) → LowestFrom n 0 b → Lowest Holds n b
  unfolding LowestFrom
  from-none n (Some k) h = (omega (arith, h.1), h.2, λ q u. h.3 q (omega arith) u)
  from-none n None h = λ q u. h q (omega arith) (omega arith)

  -- A search by a test that tells of each number whether it holds.
  module _ (test : ℕ → Bool) where
    Tells : ℕ → Type 0
    Tells q = (test q ≡ true → Holds q) × (test q ≡ false → Holds q → ⊥)

    searched : (n p : ℕ) → ((q : ℕ) → q < p + n → Tells q) → LowestFrom n p (lowest test n p)
    unfolding LowestFrom Tells lowest
    searched zero p tells = λ q low u. absurd (omega arith)
    searched (suc n) p tells =
        if-elim (LowestFrom (suc n) p) (test p) (λ e. (omega arith, omega arith, (tells p (omega arith)).0 e, λ q low u. absurd (omega arith)))
        (λ e. past n p (lowest test n (suc p)) ((tells p (omega arith)).1 e) (searched n (suc p) (λ q u. tells q (omega arith))))

  -- The call goes by its counts: the lowest page, where these tell of each page whether it holds.
  ByCount : List ℕ → ℕ → Type 0
  ByCount counts q = (get_or counts q 0 ≡ 0 → Holds q) × (Holds q → get_or counts q 0 ≡ 0)

  first-is-lowest : (pages : ℕ) (counts : List ℕ) → ((q : ℕ) → q < pages → ByCount counts q) → Lowest Holds pages (first_blank pages counts)
  unfolding ByCount Tells
  first-is-lowest pages counts tells =
      from-none pages (first_blank pages counts)
      (searched (λ (p : ℕ). eqb (get_or counts p 0) 0) pages 0
      (λ q u. (λ e. (tells q (omega arith)).0 (eqb-true (get_or counts q 0) 0 e), λ e h. eqb-false (get_or counts q 0) 0 e ((tells q (omega arith)).1 h))))

  answered : (device : ℕ) (counts : List ℕ) → (length counts ≡ page_count (row_of device) → (q : ℕ) → q < page_count (row_of device) → ByCount counts q)
      → Answers device counts Holds
  unfolding blank_outcome
  answered device counts tells =
      let pages = page_count (row_of device) in
      let first = first_blank pages counts in
      let fits = eqb (length counts) pages in
      let Exactly : Option ℕ → Type 0 = λ (x : Option ℕ). (b : Option ℕ) → (x ≡ b → Lowest Holds pages b) × (Lowest Holds pages b → x ≡ b) in
      let P : ℕ → Type 0 = λ (n : ℕ). n ≡ 0 → Exactly (if eqb n 0 then first else None) in
      if-elim P (not (is_device device)) (λ _ e. absurd (omega arith))
      (λ _. if-elim P (not fits) (λ _ e. absurd (omega arith))
      (λ long _ b.
      let found = first-is-lowest pages counts (tells (eqb-true _ _ (not-false fits long))) in
      (λ e. subst (Lowest Holds pages) e found, one-lowest pages first b found)))

pub first-blank-says : FirstBlankSays
unfolding ByCount
first-blank-says device counts =
    answered (λ (p : ℕ). (p < length counts) × (get_or counts p 0 ≡ 0)) device counts (λ long q u. (λ e. (omega arith, e), λ h. h.1))

pub blank-numbers : BlankNumbers
blank-numbers (Some p) (Some q) e f = ap Some f
blank-numbers (Some p) None e f = absurd (omega arith)
blank-numbers None (Some q) e f = absurd (omega arith)
blank-numbers None None e f = refl

-- Counts that are the same up to the page that is answered.
same_first : (pages : ℕ) (xs ys : List ℕ) (p : ℕ) → ((q : ℕ) → q ≤ p → get_or ys q 0 ≡ get_or xs q 0) → first_blank pages xs ≡ Some p → first_blank pages ys ≡ Some p
unfolding ByCount
same_first pages xs ys p same e =
    let x : Lowest (λ (q : ℕ). get_or xs q 0 ≡ 0) pages (Some p) = subst (Lowest (λ (q : ℕ). get_or xs q 0 ≡ 0) pages) e (first-is-lowest _ pages xs (λ q u. (λ z. z, λ z. z))) in
    one-lowest (λ (q : ℕ). get_or ys q 0 ≡ 0) pages (first_blank pages ys) (Some p) (first-is-lowest _ pages ys (λ q u. (λ z. z, λ z. z)))
    (x.0, same p (omega arith) ∙ x.1, λ q u z. x.2 q u (sym (same q (omega arith)) ∙ z))

pub blank-stops : BlankStops
unfolding blank_outcome
blank-stops device xs ys p long same =
    let pages = page_count (row_of device) in
    let shown : ℕ → List ℕ → Option ℕ = λ n counts. if eqb n 0 then first_blank pages counts else None in
    let P : ℕ → Type 0 = λ (n : ℕ). shown n xs ≡ Some p → found_as n (shown n ys) ≡ found_as n (shown n xs) in
    let taken : P 0 = λ e. ap (found_as 0) (same_first pages xs ys p same e ∙ sym e) in
    rw long (if-elim P (not (is_device device)) (λ _ e. refl) (λ _. if-elim P (not (eqb (length xs) pages)) (λ _ e. refl) (λ _. taken)))

pub blank-as-read : BlankAsRead
unfolding ByCount
blank-as-read device cells counts agree =
    let row = row_of device in
    answered (IsBlank row cells) device counts
    (λ _ q u.
    let says = (filled-says row.page (q * row.page) cells).0 in
    (λ e. says.0 (sym (agree q u) ∙ e), λ h. agree q u ∙ says.1 h))

-- Counting leaves as many counts as there were, so that what it took is not refused afterwards.
counted-taken : (device : ℕ) (cells counts : List ℕ) → (count_outcome device cells counts).number ≡ 0 → (blank_outcome device (count_outcome device cells counts).counts).number ≡ 0
unfolding count_outcome blank_outcome
counted-taken device cells counts =
    let row = row_of device in
    let all = recounted_to (page_count row) row cells counts in
    let long = recounted-long (page_count row) row cells counts in
    let Taken : ℕ → Type 0 =
    λ (n : ℕ). n ≡ 0 →
    ◌≡◌ {A = ℕ} (if not (is_device device) then 1 else if not (eqb (length (if eqb n 0 then all else counts)) (page_count row)) then 14 else 0) 0 in
    if-elim Taken (not (is_device device)) (λ _ e. absurd (omega arith))
    (λ known. if-elim Taken (not (eqb (length cells) row.cells)) (λ _ e. absurd (omega arith))
    (λ _. if-elim Taken (not (eqb (length counts) (page_count row))) (λ _ e. absurd (omega arith)) (λ fits _. rw (known, long, fits))))

pub counted-as-read : CountedAsRead
counted-as-read device cells counts z =
    let r = count_outcome device cells counts in
    let taken = counted-taken device cells counts z in
    (taken, (blank-as-read device cells r.counts (counted-agrees device cells counts z) taken (blank_outcome device r.counts).blank).0 refl)
