-- The theorems of W-203: the service sheet answers what the arithmetic answered, page by page, and prints the cell count for nothing.
use Prim.Native.Nat.{ℕ, ◌-◌, ◌*◌, ◌/◌, ◌%◌, ◌≤◌, ◌<◌}
use mathlib.Core.Path.{◌≡◌, refl, sym, ◌∙◌}
use mathlib.Core.Bool.{Bool, true, false, not, ◌&&◌, ◌||◌}
use native.Mathlib.Nat.{mod-lt, div-add-mod', mul-le-mul_right}
use native.Mathlib.Omega.{arith}
use lib.Dec.{eqb, leb, ltb}
use borrow.Author.Tests.{leb-true, leb-false, ltb-true, ltb-false, lt-ltb, le-leb, lt-leb, not-true}
use Rattle.rules.specs.World.{Row}
use Rattle.rules.specs.Device.{table, m95040, row_of, first_protected}
use Rattle.rules.specs.Judge.{blocks, is_protected}
use Rattle.rules.specs.Sound.{◌implies◌}
use Rattle.rules.specs.Protection.{upper, ProtectionUnchanged, AskedUnchanged, ProtectedByPage, NoneProtected}
use Rattle.rules.proofs.Choice.{clash, and_left, and_right, and_both, or-both, implied, below, passes}
use Rattle.rules.proofs.Widths.{read-test, page-positive}

-- A comparison is whatever holds where it does and fails where it does not.
leb-is : (m n : ℕ) {b : Bool} → (m ≤ n → b ≡ true) → (n < m → b ≡ false) → leb m n ≡ b
leb-is m n {b} f g = go (leb m n) refl
  where
    go : (c : Bool) → leb m n ≡ c → leb m n ≡ b
    go true e = e ∙ sym (f (leb-true m n e))
    go false e = e ∙ sym (g (leb-false m n e))

-- What the arithmetic protects reaches up to the last cell.
module _ (cells bp a b : ℕ) (h : a ≤ b) where
  further : (setting edge : ℕ) → (eqb bp setting && leb edge a) ≡ true → (eqb bp setting && leb edge b) ≡ true
  further setting edge e =
      let under : eqb bp setting ≡ true = and_left (eqb bp setting) (leb edge a) e in
      let past : edge ≤ a = leb-true edge a (and_right (eqb bp setting) (leb edge a) e) in
      and_both (eqb bp setting) (leb edge b) under (le-leb edge b (omega arith))

  reaches-up : upper cells bp a ≡ true → upper cells bp b ≡ true
  reaches-up =
      let quarter = cells / 4 * 3 in
      let half = cells / 2 in
      or-both (eqb bp 1 && leb quarter a || eqb bp 2 && leb half a) (eqb bp 3) (eqb bp 1 && leb quarter b || eqb bp 2 && leb half b) (eqb bp 3)
      (or-both (eqb bp 1 && leb quarter a) (eqb bp 2 && leb half a) (eqb bp 1 && leb quarter b) (eqb bp 2 && leb half b) (further 1 quarter) (further 2 half))
      (λ e. e)

-- The test of an entry: there the arithmetic turns. It protects that address, where it is a cell's, and not the one before.
abbrev is_turn : ℕ → ℕ → ℕ → Bool
is_turn cells bp first = (ltb first cells implies upper cells bp first) && (ltb 0 first implies not (upper cells bp (first - 1)))

-- Where it turns at an entry, one comparison with the entry says all that it says.
module _ (cells bp first a : ℕ) (turn : is_turn cells bp first ≡ true) where
  from-there : a < cells → first ≤ a → upper cells bp a ≡ true
  from-there inside h =
      let cell : ltb first cells ≡ true = lt-ltb first cells (omega arith) in
      reaches-up cells bp first a h (implied (ltb first cells) (upper cells bp first) (and_left _ _ turn) cell)

  not-before : a < first → upper cells bp a ≡ false
  not-before h = go (upper cells bp a) refl
    where
      before : upper cells bp (first - 1) ≡ false
      before = not-true _ (implied (ltb 0 first) (not (upper cells bp (first - 1))) (and_right (ltb first cells implies upper cells bp first) _ turn) (lt-ltb 0 first (omega arith)))

      go : (b : Bool) → upper cells bp a ≡ b → upper cells bp a ≡ false
      go false e = e
      go true e = clash (sym (reaches-up cells bp a (first - 1) (omega arith) e) ∙ before)

  turned : a < cells → leb first a ≡ upper cells bp a
  turned inside = leb-is first a (from-there inside) not-before

-- The test of a row: the entry of each setting.
abbrev turns_under : Row → ℕ → Bool
turns_under row bp = is_turn row.cells bp (first_protected row bp)

turns_as_printed : Row → Bool
turns_as_printed row = below 4 (turns_under row)

-- The checker computes it for every row of the table.
pub protection-unchanged : ProtectionUnchanged
unfolding turns_as_printed is_protected
protection-unchanged device bp a setting inside =
    let row = row_of device in
    let sheet : turns_as_printed row ≡ true = read-test turns_as_printed table refl (device - 1) m95040 refl in
    turned row.cells bp (first_protected row bp) a (passes 4 (turns_under row) sheet bp setting) inside

pub asked-unchanged : AskedUnchanged
asked-unchanged device w sound =
    let s = w.state in
    let setting : blocks s < 4 = mod-lt (s.registers.status / 4) (omega arith) in
    protection-unchanged device (blocks s) s.place.address setting sound.unsettled.inside

-- A page's start that is not past an address is not past the start of its page.
not-past : (p start a : ℕ) → 0 < p → start % p ≡ 0 → start ≤ a → start ≤ a - a % p
not-past p start a positive aligned h = go (ltb (a / p) (start / p)) refl
  where
    go : (b : Bool) → ltb (a / p) (start / p) ≡ b → start ≤ a - a % p
    go true e =
        let later = mul-le-mul_right p (ltb-true (a / p) (start / p) e) in
        omega (arith, later, div-add-mod' a p, div-add-mod' start p, mod-lt a {m = p} positive)
    go false e =
        let earlier = mul-le-mul_right p (ltb-false (a / p) (start / p) e) in
        omega (arith, earlier, div-add-mod' a p, div-add-mod' start p)

by-page : (p first a : ℕ) → 0 < p → first % p ≡ 0 → leb first a ≡ leb first (a - a % p)
by-page p first a positive aligned =
    leb-is first a (λ h. le-leb first (a - a % p) (not-past p first a positive aligned h)) (λ h. lt-leb first (a - a % p) (omega arith))

pub protected-by-page : ProtectedByPage
unfolding is_protected
protected-by-page row v bp a = by-page row.page (first_protected row bp) a (page-positive v) (v.begins_page bp)

-- What no address is past is the end.
nothing-past : (first cells : ℕ) → first ≤ cells → ((a : ℕ) → a < cells → leb first a ≡ false) → first ≡ cells
nothing-past first cells h free = go (ltb first cells) refl
  where
    go : (b : Bool) → ltb first cells ≡ b → first ≡ cells
    go true e = clash (sym (le-leb first first (omega arith)) ∙ free first (ltb-true first cells e))
    go false e = omega (arith, h, ltb-false first cells e)

pub none-protected : NoneProtected
unfolding is_protected
none-protected row v bp = (
  λ none a inside. rw none (lt-leb row.cells a inside),
  nothing-past (first_protected row bp) row.cells (v.begins_within bp),
)
