-- Texts put one after the other, and the decimal digits of a number.
use Prim.Native.Nat.{ℕ, zero, suc, ◌+◌, ◌-◌, ◌*◌, ◌/◌, ◌%◌, ◌^◌, ◌≤◌, ◌<◌}
use mathlib.Core.Path.{◌≡◌, refl, sym, ap, ◌∙◌, subst}
use mathlib.Core.Bool.{Bool, true, false}
use mathlib.Core.List.{List, [], ◌∷◌, ◌++◌, append_assoc, append-nil}
use native.Mathlib.Nat.{pow-suc, one-le-pow}
use native.Mathlib.Numerals.{add-one}
use native.Mathlib.Omega.{arith}
use lib.ListN.{length, get_or, take, length-append, length-take}
use lib.Seq.{length-take-le, take-suc}
use lib.Dec.{ltb, lit<}
use borrow.Author.Tests.{lt-ltb, ltb-true, ltb-false}
use Rattle.io.specs.Counts.{IsPrefixLen}
use Rattle.io.specs.Digits.{hex_digit_ascii, last_digits, IsDigitCount}
use Rattle.rules.proofs.Choice.{if-elim}
use Rattle.rules.specs.Program.{digit, decimal_in, decimal, shown, line, lines, ending}
use Rattle.text.specs.Put.{Put}

-- A text that is equal to another.
pub same_text : {a b t u : List ℕ} {i j : ℕ} → t ≡ u → Put a i t b j → Put a i u b j
same_text {a} {b} {t} {u} {i} {j} e p = subst (λ (l : List ℕ). Put a i l b j) e p

-- Two texts, one after the other.
pub joined : {a b c t u : List ℕ} {i j k : ℕ} → Put a i t b j → Put b j u c k → Put a i (t ++ u) c k
joined {a} {b} {c} {t} {u} {i} {j} {k} p q =
    record {
      place = rw (q.place, p.place, length-append t u) (omega arith);
      long = q.long ∙ p.long;
      stands = q.stands ∙ ap (λ (l : List ℕ). l ++ u) p.stands ∙ append_assoc (take i a) t u;
    }

-- The fewest digits of a number are its decimal text.
ten : (j : ℕ) → 10 ^ suc j ≡ 10 ^ j * 10
ten j = pow-suc 10 j

small-glyph : (d : ℕ) → d < 10 → hex_digit_ascii d ≡ digit d
small-glyph d h = rw (lt-ltb d 10 h)

low : (n : ℕ) → n % 10 < 10
low n = omega arith

one-digit : (k n : ℕ) → n < 10 → IsDigitCount 10 1 n k → last_digits 10 k n ≡ digit n ∷ []
one-digit zero n h f = absurd (omega (arith, f.0))
one-digit (suc zero) n h f = let e : n % 10 ≡ n = omega arith in ap (λ (d : ℕ). d ∷ []) (small-glyph (n % 10) (low n) ∙ ap digit e)
one-digit (suc (suc j)) n h f =
    let e : suc (suc j) - 1 ≡ suc j = omega arith in
    let g : 10 ^ suc j ≤ n = subst (λ (m : ℕ). 10 ^ m ≤ n) e (f.2 (omega arith)) in
    absurd (omega (arith, g, ten j, one-le-pow j 10 (lit< tt)))

more-digits : (j n : ℕ) → 10 ≤ n → IsDigitCount 10 1 n (suc (suc j)) → IsDigitCount 10 1 (n / 10) (suc j)
more-digits j n h f =
    let e : suc (suc j) - 1 ≡ suc j = omega arith in
    let e' : suc j - 1 ≡ j = omega arith in
    let g : 10 ^ suc j ≤ n = subst (λ (m : ℕ). 10 ^ m ≤ n) e (f.2 (omega arith)) in
    (omega arith, omega (arith, f.1, ten (suc j)), λ _. subst (λ (m : ℕ). 10 ^ m ≤ n / 10) (sym e') (omega (arith, g, ten j)))

-- So many places are enough for every shorter number.
abbrev Enough : ℕ → Type 0
Enough places = (k n : ℕ) → n < 10 ^ places → IsDigitCount 10 1 n k → last_digits 10 k n ≡ decimal_in places n

many-digits : (places k n : ℕ) → Enough (suc places) → 10 ≤ n → n < 10 ^ suc (suc places) → IsDigitCount 10 1 n k → last_digits 10 k n ≡ decimal_in (suc places) (n / 10) ++ (digit (n % 10) ∷ [])
many-digits places zero n rest t h f = absurd (omega (arith, f.0))
many-digits places (suc zero) n rest t h f = absurd (omega (arith, f.1, ten 0))
many-digits places (suc (suc j)) n rest t h f =
    ap (λ (l : List ℕ). l ++ (hex_digit_ascii (n % 10) ∷ [])) (rest (suc j) (n / 10) (omega (arith, h, ten (suc places))) (more-digits j n t f))
    ∙ ap (λ (d : ℕ). decimal_in (suc places) (n / 10) ++ (d ∷ [])) (small-glyph (n % 10) (low n))

one_more : (places : ℕ) → Enough (suc places) → Enough (suc (suc places))
one_more places rest k n h f = go (ltb n 10) refl
  where
    go : (b : Bool) → ltb n 10 ≡ b → last_digits 10 k n ≡ decimal_in (suc (suc places)) n
    go true e = one-digit k n (ltb-true n 10 e) f ∙ rw e
    go false e = many-digits places k n rest (ltb-false n 10 e) h f ∙ rw e

enough : (places : ℕ) → Enough (suc places)
enough zero k n h f = let l : n < 10 = omega (arith, h, ten 0) in one-digit k n l f ∙ rw (lt-ltb n 10 l)
enough (suc places) k n h f = one_more places (enough places) k n h f

pub decimal-fewest : (k n : ℕ) → n < 2 ^ 64 → IsDigitCount 10 1 n k → last_digits 10 k n ≡ decimal n
unfolding decimal
decimal-fewest k n h f = enough 19 k n (omega (arith, h)) f

short : (places n : ℕ) → length (decimal_in places n) ≤ places
short zero n = omega arith
short (suc places) n =
    if-elim (λ (l : List ℕ). length l ≤ suc places) (ltb n 10) (λ _. omega arith)
    (λ _. rw (length-append (decimal_in places (n / 10)) (digit (n % 10) ∷ [])) (omega (arith, short places (n / 10))))

pub decimal-short : (n : ℕ) → length (decimal n) ≤ 20
unfolding decimal
decimal-short n = short 20 n

-- The line of one record more.
pub lines_more : (m : ℕ) (done : List ℕ) (answer : ℕ) → lines m (done ++ (answer ∷ [])) ≡ lines m done ++ line (m + length done) answer
lines_more m [] answer = append-nil (line m answer) ∙ ap (λ (k : ℕ). line k answer) (omega arith)
lines_more m (a ∷ done) answer =
    ap (λ (l : List ℕ). line m a ++ l) (lines_more (m + 1) done answer ∙ ap (λ (k : ℕ). lines (m + 1) done ++ line k answer) (omega arith))
    ∙ sym (append_assoc (line m a) (lines (m + 1) done) (line (m + length (a ∷ done)) answer))

pub lines_at : (answers : List ℕ) (i : ℕ) → i < length answers → lines 1 (take i answers) ++ line (i + 1) (get_or answers i 0) ≡ lines 1 (take (i + 1) answers)
lines_at answers i h =
    let e : 1 + length (take i answers) ≡ i + 1 = rw (length-take-le i answers (omega arith)) (omega arith) in
    let answer = get_or answers i 0 in
    sym
    (ap (λ (k : ℕ). lines 1 (take k answers)) (add-one i) ∙ ap (lines 1) (take-suc answers i 0 h)
    ∙ lines_more 1 (take i answers) answer
    ∙ ap (λ (k : ℕ). lines 1 (take i answers) ++ line k answer) e)

pub line-short : (n answer : ℕ) → length (line n answer) ≤ 23
line-short n answer = rw (length-append (decimal n) (32 ∷ shown answer ∷ 10 ∷ [])) (omega (arith, decimal-short n))

pub lines-short : (m : ℕ) (answers : List ℕ) → length (lines m answers) ≤ length answers * 23
lines-short m [] = omega arith
lines-short m (a ∷ answers) = rw (length-append (line m a) (lines (m + 1) answers)) (omega (arith, line-short m a, lines-short (m + 1) answers))

pub ending-short : (number : ℕ) (status : List ℕ) → length (ending number status) ≤ 25 + length status
ending-short number status =
    let start : List ℕ = 101 ∷ 110 ∷ 100 ∷ 32 ∷ [] in
    rw (length-append (start ++ decimal number ++ (32 ∷ [])) status, length-append (start ++ decimal number) (32 ∷ []), length-append start (decimal number)) (omega (arith, decimal-short number))

pub line-put : {a b c : List ℕ} {i j k d : ℕ} (n answer : ℕ) → d ≡ shown answer → Put a i (decimal n) b j → Put b j (32 ∷ d ∷ 10 ∷ []) c k → Put a i (line n answer) c k
line-put n answer e p q = same_text (ap (λ (m : ℕ). decimal n ++ (32 ∷ m ∷ 10 ∷ [])) e) (joined p q)

pub lines-put : {a b c : List ℕ} {i j k n : ℕ} (answers : List ℕ) (done : ℕ) → done < length answers → Put a i (lines 1 (take done answers)) b j → Put b j (line n (get_or answers done 0)) c k
    → n ≡ done + 1 → Put a i (lines 1 (take (done + 1) answers)) c k
lines-put answers done h p q e = same_text (ap (λ (m : ℕ). lines 1 (take done answers) ++ line m (get_or answers done 0)) e ∙ lines_at answers done h) (joined p q)

-- A text put at the start of a buffer, as what stands there and how much.
pub whole : (before text after : List ℕ) (next : ℕ) → Put before 0 text after next → IsPrefixLen next after × (take next after ≡ text)
whole before text after next p =
    let same : next ≡ length (take next after) = p.place ∙ rw p.stands (omega arith) in
    ((omega (arith, same, length-take next after), same), p.stands)

pub ruleset lengths = (decimal-short)
