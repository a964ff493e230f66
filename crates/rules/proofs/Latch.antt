-- Two latches that will write the same: equal marks, and equal data where marked.
use Rattle.std.specs.Prelude.{if◌then◌else◌}
use Prim.Native.Nat.{ℕ, zero, suc, ◌+◌, ◌%◌, ◌≤◌, ◌<◌}
use mathlib.Core.Path.{◌≡◌, refl, sym, ◌∙◌, subst}
use mathlib.Core.Bool.{Bool, true, false}
use mathlib.Core.List.{List}
use native.Mathlib.Omega.{arith}
use lib.ListN.{length, get_or, set, take, replicate, get_or-replicate, length-set, length-append, length-take, length-replicate, get_or-eq_default}
use lib.Seq.{get_or-append-add, get_or-set_same, get_or-set_other, length-take-le}
use lib.Dec.{eqb, ltb}
use borrow.Author.Tests.{eqb-true, eqb-false, ltb-true, ltb-false}
use Rattle.rules.specs.World.{Row}
use Rattle.rules.specs.Receive.{cleared, marked}
use Rattle.rules.specs.Cycle.{written}
use Rattle.rules.proofs.Choice.{if-both}

abbrev pub Agree : Row → List ℕ → List ℕ → Type 0
Agree row l m = (i : ℕ) → i < row.page → (get_or l (row.page + i) 0 ≡ get_or m (row.page + i) 0) × (get_or l (row.page + i) 0 ≡ 1 → get_or l i 0 ≡ get_or m i 0)

pub written-agree : (row : Row) (l m : List ℕ) → Agree row l m → (n : ℕ) → n ≤ row.page → (a : ℕ) (c : List ℕ) → written n row.page l a c ≡ written n row.page m a c
unfolding written
written-agree row l m h zero le a c = refl
written-agree row l m h (suc n) le a c =
    let e = written-agree row l m h n (omega arith) a c in
    let g = h n le in
    rw (← g.0) (if-both (λ (x y : List ℕ). x ≡ y) (eqb (get_or l (row.page + n) 0) 1) (λ t. rw (e, g.1 (eqb-true _ _ t))) (λ _. e))

-- Cleared latches have no mark, and so agree.
pub zeros : (n j : ℕ) → ◌≡◌ {A = ℕ} (get_or (replicate n 0) j 0) 0
zeros n j = go (ltb j n) refl
  where
    go : (t : Bool) → ltb j n ≡ t → ◌≡◌ {A = ℕ} (get_or (replicate n 0) j 0) 0
    go true e = get_or-replicate {A = ℕ} n j 0 0 (ltb-true j n e)
    go false e = get_or-eq_default {A = ℕ} (replicate n 0) 0 {n = j} (rw length-replicate (ltb-false j n e))

pub cleared-mark : (row : Row) (l : List ℕ) → row.page ≤ length l → (i : ℕ) → get_or (cleared row l) (row.page + i) 0 ≡ 0
cleared-mark row l h i =
    subst (λ (n : ℕ). get_or (cleared row l) (n + i) 0 ≡ 0) (length-take-le row.page l h)
    (get_or-append-add (take row.page l) (replicate row.page 0) i 0 ∙ zeros row.page i)

pub cleared-agree : (row : Row) (l m : List ℕ) → row.page ≤ length l → length m ≡ length l → Agree row (cleared row l) (cleared row m)
cleared-agree row l m h e i u =
    let a = cleared-mark row l h i in
    let b = cleared-mark row m (omega arith) i in
    (a ∙ sym b, λ k. absurd (omega arith))

pub cleared-length : (row : Row) (l m : List ℕ) → length m ≡ length l → length (cleared row m) ≡ length (cleared row l)
cleared-length row l m e = simp (length-append, length-take, length-replicate, e)

-- The same byte, marked in both.
module _ (row : Row) (a b : ℕ) (u : a < row.page) (i : ℕ) where
  pub mark-read : (l : List ℕ) → row.page + row.page ≤ length l → get_or (set (set l a b) (row.page + a) 1) (row.page + i) 0 ≡ (if eqb i a then 1 else get_or l (row.page + i) 0)
  mark-read l long = go (eqb i a) refl
    where
      go : (t : Bool) → eqb i a ≡ t → get_or (set (set l a b) (row.page + a) 1) (row.page + i) 0 ≡ (if t then 1 else get_or l (row.page + i) 0)
      go true e =
          subst (λ (k : ℕ). get_or (set (set l a b) (row.page + a) 1) (row.page + k) 0 ≡ 1) (sym (eqb-true i a e))
          (get_or-set_same (set l a b) (row.page + a) 1 0 (omega (arith, length-set l a b)))
      go false e =
          get_or-set_other (set l a b) (row.page + a) (row.page + i) 1 0 (λ q. eqb-false i a e (omega arith)) ∙ get_or-set_other l a (row.page + i) b 0 (omega arith)

  data-read : (l : List ℕ) → i < row.page → row.page + row.page ≤ length l → get_or (set (set l a b) (row.page + a) 1) i 0 ≡ (if eqb i a then b else get_or l i 0)
  data-read l v long = get_or-set_other (set l a b) (row.page + a) i 1 0 (omega arith) ∙ go (eqb i a) refl
    where
      go : (t : Bool) → eqb i a ≡ t → get_or (set l a b) i 0 ≡ (if t then b else get_or l i 0)
      go true e = subst (λ (k : ℕ). get_or (set l a b) k 0 ≡ b) (sym (eqb-true i a e)) (get_or-set_same l a b 0 (omega arith))
      go false e = get_or-set_other l a i b 0 (eqb-false i a e)

pub marked-agree : (row : Row) (l m : List ℕ) (a b : ℕ) → row.page + row.page ≤ length l → length m ≡ length l → a % row.page < row.page
    → Agree row l m → Agree row (marked row a b l) (marked row a b m)
marked-agree row l m a b long e u h i v =
    let p = a % row.page in
    let long' : row.page + row.page ≤ length m = omega arith in
    let k : (if eqb i p then 1 else get_or l (row.page + i) 0) ≡ (if eqb i p then 1 else get_or m (row.page + i) 0) = if-both (λ (x y : ℕ). x ≡ y) (eqb i p) (λ _. refl) (λ _. (h i v).0) in
    let d : (if eqb i p then 1 else get_or l (row.page + i) 0) ≡ 1 → (if eqb i p then b else get_or l i 0) ≡ (if eqb i p then b else get_or m i 0) =
    λ q. if-both (λ (x y : ℕ). x ≡ y) (eqb i p) (λ _. refl) (λ f. (h i v).1 (rw f at q)) in
    rw (mark-read row p b u i l long, mark-read row p b u i m long', data-read row p b u i l v long, data-read row p b u i m v long') (k, d)
