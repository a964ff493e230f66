-- Looking a code, a row or an entry of the sheet up, in one step for each way through the code; and the arm that a value is taken by.
use Rattle.std.specs.Prelude.{if◌then◌else◌}
use Prim.Native.Nat.{ℕ, zero, suc, ◌-◌, ◌*◌, ◌≤◌}
use mathlib.Core.Path.{◌≡◌, refl, sym, ap, ◌∙◌}
use mathlib.Core.Bool.{Bool, true, false, not, ◌&&◌}
use native.Mathlib.Omega.{arith}
use lib.ListN.{get_or-eq_default}
use lib.Dec.{eqb}
use borrow.Author.Tests.{ne_eqb}
use Rattle.rules.specs.declared.Row.{Row}
use Rattle.rules.specs.declared.Facts.{Facts}
use Rattle.rules.specs.declared.Instruction.{Instruction}
use Rattle.rules.specs.declared.Instruction.TheVariants.{Wren, Wrdi, Rdsr, Wrsr, Read, Write, Rdid, Wrid, Unknown}
use Rattle.rules.specs.World.{bit, number}
use Rattle.rules.specs.Device.{table, m95040, row_of, single, has_identification, first_protected}
use Rattle.rules.specs.Instruction.{facts, look_up, codes, named, decode}

-- What the arm of a value says holds of whatever is that value.
pub arm : {A B : Type 0} (f : A → B) {x y : A} {b : B} → x ≡ y → b ≡ f y → b ≡ f x
arm f e h = h ∙ ap f (sym e)

-- The six codes that are not exact.
abbrev pub plainly : ℕ → Instruction
plainly p =
    if eqb p 0x06 then Wren
    else if eqb p 0x04 then Wrdi
    else if eqb p 0x05 then Rdsr
    else if eqb p 0x01 then Wrsr
    else if eqb p 0x03 then Read
    else if eqb p 0x02 then Write
    else Unknown

look : (one : Bool) (c : ℕ) {p : ℕ} → p ≡ (if one then c - number (bit c 3) * 8 else c) → (c ≡ 0x83 → ⊥) → (c ≡ 0x82 → ⊥) → plainly p ≡ look_up one c codes
look true c e a b = rw (e, ne_eqb c 0x83 a, ne_eqb c 0x82 b)
look false c e a b = rw (e, ne_eqb c 0x83 a, ne_eqb c 0x82 b)

pub named-plain : (row : Row) (c : ℕ) {p : ℕ} {i : Instruction} → p ≡ (if single row then c - number (bit c 3) * 8 else c) → (c ≡ 0x83 → ⊥) → (c ≡ 0x82 → ⊥) → i ≡ plainly p
    → i ≡ named row c
named-plain row c e a b f = f ∙ look (single row) c e a b

exact : (one : Bool) → (Rdid ≡ look_up one 0x83 codes) × (Wrid ≡ look_up one 0x82 codes)
exact true = (refl, refl)
exact false = (refl, refl)

pub named-rdid : (row : Row) (c : ℕ) → c ≡ 0x83 → Rdid ≡ named row c
named-rdid row c e = rw e (exact (single row)).0

pub named-wrid : (row : Row) (c : ℕ) → c ≡ 0x82 → Wrid ≡ named row c
named-wrid row c e = rw e (exact (single row)).1

pub plain-one : (row : Row) (c : ℕ) {p : ℕ} → row.width ≡ 1 → p ≡ c - number (bit c 3) * 8 → p ≡ (if single row then c - number (bit c 3) * 8 else c)
plain-one row c e f = f ∙ rw e

pub plain_more : (row : Row) (c : ℕ) → (row.width ≡ 1 → ⊥) → c ≡ (if single row then c - number (bit c 3) * 8 else c)
plain_more row c e = rw (ne_eqb row.width 1 e)

pub plain-none : (p : ℕ) → (p ≡ 0x06 → ⊥) → (p ≡ 0x04 → ⊥) → (p ≡ 0x05 → ⊥) → (p ≡ 0x01 → ⊥) → (p ≡ 0x03 → ⊥) → (p ≡ 0x02 → ⊥) → Unknown ≡ plainly p
plain-none p a b c d e f = rw (ne_eqb p 0x06 a, ne_eqb p 0x04 b, ne_eqb p 0x05 c, ne_eqb p 0x01 d, ne_eqb p 0x03 e, ne_eqb p 0x02 f)

-- What a code names is what it means, but where that is of an identification page and there is none.
module _ (row : Row) (c : ℕ) {i : Instruction} {f : Facts} {there : Bool} (ei : i ≡ named row c) (ef : f ≡ facts i) (eh : there ≡ has_identification row) where
  pub decode-none : (f.identifies && not there) ≡ true → Unknown ≡ decode row c
  unfolding decode
  decode-none e = rw (rw (eh, ef, ei) at e)

  pub decode-named : (f.identifies && not there) ≡ false → i ≡ decode row c
  unfolding decode
  decode-named e = rw (rw (eh, ef, ei) at e) ei

-- A number that none of the later rows has is read as the first.
behind : (m : ℕ) → 6 ≤ m → m95040 ≡ row_of (suc (suc m))
behind m h = let past : 7 ≤ suc (suc m) - 1 = omega arith in sym (get_or-eq_default table m95040 past)

pub first-row : (n : ℕ) → (n ≡ 2 → ⊥) → (n ≡ 3 → ⊥) → (n ≡ 4 → ⊥) → (n ≡ 5 → ⊥) → (n ≡ 6 → ⊥) → (n ≡ 7 → ⊥) → m95040 ≡ row_of n
first-row zero a b c d e f = refl
first-row (suc zero) a b c d e f = refl
first-row (suc (suc m)) a b c d e f = behind m (omega arith)

-- A setting that none of the first three entries is under has the last.
pub last_entry : (row : Row) (bp : ℕ) → (bp ≡ 0 → ⊥) → (bp ≡ 1 → ⊥) → (bp ≡ 2 → ⊥) → row.sheet.bp11 ≡ first_protected row bp
last_entry row zero a b c = absurd (a refl)
last_entry row (suc zero) a b c = absurd (b refl)
last_entry row (suc (suc zero)) a b c = absurd (c refl)
last_entry row (suc (suc (suc zero))) a b c = refl
last_entry row (suc (suc (suc (suc n)))) a b c = refl
