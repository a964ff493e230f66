-- The bytes of a buffer that are kept, moved to its start one by one: laws that the documents have named, and that no proof cites any more, since
-- `copy_within` moves them at once.
use Prim.Native.Nat.{ℕ, suc, ◌+◌, ◌≤◌, ◌<◌}
use mathlib.Core.Path.{◌≡◌, sym, ap, ◌∙◌}
use mathlib.Core.List.{List, [], ◌∷◌, ◌++◌}
use native.Mathlib.Numerals.{add-one}
use native.Mathlib.Omega.{arith}
use lib.ListN.{length, get_or, take, drop, set, length-drop}
use lib.Seq.{length-take-le, get_or-drop, drop-cons, take-suc, take_at, get_or-append-add, set_at, append_snoc}

-- The bytes that are kept, i of them so far.
abbrev pub moved : List ℕ → ℕ → ℕ → List ℕ
moved b from i = take i (drop from b) ++ drop i b

pub moved_more : (b l : List ℕ) (from i place : ℕ) → l ≡ moved b from i → place ≡ from + i → from + i < length b → set l i (get_or l place 0) ≡ moved b from (i + 1)
moved_more b l from i place el ep h =
    let s = drop from b in
    let long : length (take i s) ≡ i = length-take-le i s (omega (arith, length-drop from b)) in
    let at : from + i ≡ length (take i s) + from = omega (arith, long) in
    let back : i + from ≡ from + i = omega arith in
    let behind : get_or (moved b from i) (from + i) 0 ≡ get_or (drop i b) from 0 = ap (λ (k : ℕ). get_or (moved b from i) k 0) at ∙ get_or-append-add (take i s) (drop i b) from 0 in
    let read : get_or (moved b from i) (from + i) 0 ≡ get_or s i 0 = behind ∙ get_or-drop i b from 0 ∙ ap (λ (k : ℕ). get_or b k 0) back ∙ sym (get_or-drop from b i 0) in
    let rest : drop i b ≡ get_or b i 0 ∷ drop (suc i) b = drop-cons b i 0 (omega arith) in
    let first : take (suc i) s ≡ take i s ++ (get_or s i 0 ∷ []) = take-suc s i 0 (omega (arith, length-drop from b)) in
    ap (λ (m : List ℕ). set m i (get_or m place 0)) el
    ∙ ap (λ (k : ℕ). set (moved b from i) i (get_or (moved b from i) k 0)) ep
    ∙ ap (λ (a : ℕ). set (moved b from i) i a) read
    ∙ ap (λ (l : List ℕ). set (take i s ++ l) i (get_or s i 0)) rest
    ∙ set_at (take i s) (get_or b i 0) (drop (suc i) b) (get_or s i 0) i long
    ∙ sym (append_snoc (take i s) (get_or s i 0) (drop (suc i) b))
    ∙ ap (λ (l : List ℕ). l ++ drop (suc i) b) (sym first)
    ∙ ap (λ (k : ℕ). moved b from k) (sym (add-one i))

pub moved_all : (b : List ℕ) (from n : ℕ) → from + n ≤ length b → take n (moved b from n) ≡ take n (drop from b)
moved_all b from n h = take_at (take n (drop from b)) (drop n b) n (length-take-le n (drop from b) (omega (arith, length-drop from b)))
