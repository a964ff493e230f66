-- Facts on address width and page size, over the width; and that every row of the device table has the widths that they ask for.
use Prim.Native.Nat.{ℕ, zero, suc, ◌+◌, ◌-◌, ◌*◌, ◌/◌, ◌%◌, ◌^◌, ◌≤◌, ◌<◌}
use mathlib.Core.Path.{◌≡◌, refl, sym, ap, ◌∙◌, subst}
use mathlib.Core.Bool.{Bool, true, false, not, ◌&&◌}
use mathlib.Core.List.{List, [], ◌∷◌, map}
use native.Mathlib.Nat.{mod-lt, mul-mod_left, div-add-mod', div-lt_iff_lt-mul, div-eq_of_eq-mul_left, div-eq_of_lt-le, mul-le-mul_right, mul-div_cancel, pow-suc, le_of_suc-le-suc}
use native.Mathlib.Omega.{arith}
use lib.Pow.{pow-lt, pow-add}
use lib.Dec.{eqb, leb, ltb}
use lib.ListN.{get_or}
use borrow.Author.Tests.{eqb-true, leb-true, ltb-true, eq-eqb, le-leb, lt-ltb}
use Rattle.rules.specs.World.{Row}
use Rattle.rules.specs.Device.{Widths, has_identification, page_count, entries, first_protected, table, m95040, row_of}
use Rattle.rules.specs.Wide.{halvings, is_within, is_page_start, tests, is_wide}
use Rattle.rules.specs.Instruction.{longer}
use Rattle.rules.specs.Receive.{rolled}
use Rattle.rules.specs.Sound.{all}
use Rattle.rules.proofs.Choice.{if_yes, and_left, and_right, implied, implying, each, ◌also◌}

-- What a test finds of everything in a list, it finds of what is read from it; so a row more in the table asks for nothing here.
pub read-test : {A : Type 0} (test : A → Bool) (xs : List A) → all (map test xs) ≡ true → (i : ℕ) (other : A) → test other ≡ true → test (get_or xs i other) ≡ true
read-test test [] e i other h = h
read-test test (x ∷ xs) e zero other h = and_left (test x) (all (map test xs)) e
read-test test (x ∷ xs) e (suc i) other h = read-test test xs (and_right (test x) (all (map test xs)) e) i other h

-- So with the sheet's entries and the one under a setting.
entry_read : (row : Row) (test : ℕ → Bool) → all (map test (entries row)) ≡ true → (bp : ℕ) → test (first_protected row bp) ≡ true
entry_read row test e bp = read-test test (entries row) e bp row.sheet.bp11 (each (map test (entries row)) e).1.1.1.0

-- A row that passes has the facts.
pub widths : (row : Row) → is_wide row ≡ true → Widths row
unfolding is_wide
widths row e =
    let h = each (tests row) e in
    let bounds = h.1.1.1.1 in
    let page = bounds.1.1.1 in
    let sheet = page.1.1 in
    let address = sheet.1.1 in
    record {
      cell_bits = halvings 24 row.cells;
      page_bits = halvings 24 row.page;
      cells = eqb-true _ _ h.0;
      page = eqb-true _ _ h.1.0;
      smaller = ltb-true _ _ h.1.1.0;
      narrow = leb-true _ _ h.1.1.1.0;
      cells_most = leb-true _ _ bounds.0;
      page_least = leb-true _ _ bounds.1.0;
      page_most = leb-true _ _ bounds.1.1.0;
      whole = λ has. eqb-true _ _ (implied (has_identification row) (eqb row.identification row.page) page.0 has);
      code_fits = leb-true _ _ page.1.0;
      begins_within = λ bp. leb-true _ _ (entry_read row (is_within row) sheet.0 bp);
      begins_page = λ bp. eqb-true _ _ (entry_read row (is_page_start row) sheet.1.0 bp);
      one_byte = leb-true _ _ address.0;
      three_bytes = leb-true _ _ address.1.0;
      reach = leb-true _ _ address.1.1.0;
      lasts = leb-true _ _ address.1.1.1.0;
      soon = ltb-true _ _ address.1.1.1.1.0;
    }

-- A power of two is halved as often as its exponent says.
halvings-pow : (most k : ℕ) → k ≤ most → halvings most (2 ^ k) ≡ k
halvings-pow zero k h = omega (arith, h)
halvings-pow (suc most) zero h = refl
halvings-pow (suc most) (suc k) h =
    let half : 2 ^ suc k / 2 ≡ 2 ^ k = ap (λ (n : ℕ). n / 2) (pow-suc 2 k) ∙ mul-div_cancel (2 ^ k) (omega arith) in
    if_yes (ltb 1 (2 ^ suc k)) (suc (halvings most (2 ^ suc k / 2))) 0 (lt-ltb 1 (2 ^ suc k) (pow-lt {i = 0} {j = suc k} (omega arith)))
    ∙ ap suc (ap (halvings most) half ∙ halvings-pow most k (le_of_suc-le-suc h))

-- The other way round, so that a function that takes a `Device` asks for nothing of its row but `Widths`.
pub wide-of : {row : Row} → Widths row → is_wide row ≡ true
unfolding is_wide
wide-of {row} v =
    let cell_bits : halvings 24 row.cells ≡ v.cell_bits = ap (halvings 24) v.cells ∙ halvings-pow 24 v.cell_bits v.narrow in
    let page_bits : halvings 24 row.page ≡ v.page_bits = ap (halvings 24) v.page ∙ halvings-pow 24 v.page_bits (omega (arith, v.smaller, v.narrow)) in
    let within : (bp : ℕ) → is_within row (first_protected row bp) ≡ true = λ bp. le-leb _ _ (v.begins_within bp) in
    let starts : (bp : ℕ) → is_page_start row (first_protected row bp) ≡ true = λ bp. eq-eqb _ _ (v.begins_page bp) in
    eq-eqb row.cells (2 ^ halvings 24 row.cells) (v.cells ∙ ap (λ (n : ℕ). 2 ^ n) (sym cell_bits))
    also eq-eqb row.page (2 ^ halvings 24 row.page) (v.page ∙ ap (λ (n : ℕ). 2 ^ n) (sym page_bits))
    also lt-ltb (halvings 24 row.page) (halvings 24 row.cells) (omega (arith, cell_bits, page_bits, v.smaller))
    also le-leb (halvings 24 row.cells) 24 (omega (arith, cell_bits, v.narrow))
    also le-leb _ _ v.cells_most
    also le-leb _ _ v.page_least
    also le-leb _ _ v.page_most
    also implying (has_identification row) (eqb row.identification row.page) (λ has. eq-eqb _ _ (v.whole has))
    also le-leb _ _ v.code_fits
    also (within 0 also within 1 also within 2 also within 3 also refl)
    also (starts 0 also starts 1 also starts 2 also starts 3 also refl)
    also le-leb _ _ v.one_byte
    also le-leb _ _ v.three_bytes
    also le-leb _ _ v.reach
    also le-leb _ _ v.lasts
    also lt-ltb _ _ v.soon
    also refl

pub table-wide : (n : ℕ) → is_wide (row_of n) ≡ true
unfolding is_wide
table-wide n = read-test is_wide table refl (n - 1) m95040 refl

pub of-device : (n : ℕ) → Widths (row_of n)
of-device n = widths (row_of n) (table-wide n)

-- A row that was looked up.
pub row-widths : (device : ℕ) (row : Row) → row ≡ row_of device → Widths row
row-widths device row e = subst Widths (sym e) (of-device device)

module _ {row : Row} (v : Widths row) where
  pub page-positive : 0 < row.page
  page-positive = omega (arith, v.page_least)

  pub page-below : row.page < row.cells
  page-below = rw (v.page, v.cells) (pow-lt (omega (arith, v.smaller)))

  -- The identification page is a page, or none.
  pub identification-short : row.identification ≤ row.page
  identification-short = go (eqb row.identification 0) refl
    where
      go : (none : Bool) → eqb row.identification 0 ≡ none → row.identification ≤ row.page
      go true e = omega (arith, eqb-true row.identification 0 e)
      go false e = omega (arith, v.whole (ap not e))

  -- The cells are whole pages.
  pages : row.cells ≡ 2 ^ (v.cell_bits - v.page_bits) * row.page
  pages =
      let e : v.cell_bits ≡ v.cell_bits - v.page_bits + v.page_bits = omega (arith, v.smaller) in
      rw (v.cells, v.page, ← (pow-add 2 (v.cell_bits - v.page_bits) v.page_bits), ← e)

  pub page-count : (a : ℕ) → a < row.cells → a / row.page < page_count row
  page-count a h =
      rw (div-eq_of_eq-mul_left {n = row.page} {m = row.cells} {k = 2 ^ (v.cell_bits - v.page_bits)} page-positive pages)
      ((div-lt_iff_lt-mul page-positive).1 (subst (λ (n : ℕ). a < n) pages h))

  pub page-inside : (p : ℕ) → p < page_count row → p * row.page + row.page ≤ row.cells
  page-inside p h =
      let few = subst (λ (n : ℕ). p < n) (div-eq_of_eq-mul_left {n = row.page} {m = row.cells} {k = 2 ^ (v.cell_bits - v.page_bits)} page-positive pages) h in
      omega (arith, mul-le-mul_right row.page few, pages)

  pub longer-inside : (a b : ℕ) → longer row a b < row.cells
  unfolding longer
  longer-inside a b = mod-lt (a * 256 + b) (omega (arith, page-below))

  pub rolled-inside : (a : ℕ) → a < row.cells → rolled row a < row.cells
  unfolding rolled
  rolled-inside a h =
      let p = row.page in
      let q : a / p < 2 ^ (v.cell_bits - v.page_bits) = (div-lt_iff_lt-mul page-positive).1 (subst (λ (n : ℕ). a < n) pages h) in
      omega (arith, div-add-mod' a p, mod-lt (a % p + 1) {m = p} page-positive, mul-le-mul_right p q, pages)

pub start-aligned : (row : Row) (a : ℕ) → (a - a % row.page) % row.page ≡ 0
start-aligned row a =
    let e : a - a % row.page ≡ a / row.page * row.page = omega (arith, div-add-mod' a row.page) in
    rw e (mul-mod_left (a / row.page) row.page)

-- No place is in two pages.
pub pages-apart : (n p q i j : ℕ) → i < n → j < n → p * n + i ≡ q * n + j → p ≡ q
pages-apart n p q i j h k e =
    sym (div-eq_of_lt-le {k = p} n {m = p * n + i} (omega arith) (omega arith)) ∙ ap (λ (m : ℕ). m / n) e
    ∙ div-eq_of_lt-le {k = q} n {m = q * n + j} (omega arith) (omega arith)

-- A page start leaves room for its page.
pub page-room : {row : Row} → Widths row → (a : ℕ) → a % row.page ≡ 0 → a < row.cells → a + row.page ≤ row.cells
page-room {row} v a e h =
    let p = row.page in
    let whole : a / p * p ≡ a = omega (arith, div-add-mod' a p) in
    let less : a / p < 2 ^ (v.cell_bits - v.page_bits) = (div-lt_iff_lt-mul (page-positive v)).1 (subst (λ (n : ℕ). a < n) (pages v) h) in
    omega (arith, mul-le-mul_right p less, pages v)

-- No device has more cells and pages than this, and programs lend so many.
has_room : Row → Bool
has_room row = leb row.cells 262_144 && leb (page_count row) 1024

pub room : (device : ℕ) {row : Row} → row ≡ row_of device → (row.cells ≤ 262_144) × (row.page ≤ 256) × (row.identification ≤ 256) × (page_count row ≤ 1024)
unfolding has_room
room device e =
    let v = of-device device in
    let row = row_of device in
    let fits = read-test has_room table refl (device - 1) m95040 refl in
    let cells = leb-true row.cells 262_144 (and_left (leb row.cells 262_144) (leb (page_count row) 1024) fits) in
    let counts = leb-true (page_count row) 1024 (and_right (leb row.cells 262_144) (leb (page_count row) 1024) fits) in
    rw e (cells, v.page_most, omega (arith, v.page_most, identification-short v), counts)
