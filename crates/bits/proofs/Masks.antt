-- What masks and shifts are as numbers: over the width, or over all bytes by a computed test.
use Prim.Native.Nat.{ℕ, ◌+◌, ◌-◌, ◌*◌, ◌/◌, ◌%◌, ◌^◌, ◌≤◌, ◌<◌}
use mathlib.Core.Path.{◌≡◌, refl, ap, subst}
use mathlib.Core.Bool.{Bool, true, false, ◌&&◌}
use native.Mathlib.Nat.{mod-eq_of_lt}
use native.Mathlib.Omega.{arith}
use lib.Pow.{pow_mono}
use lib.Bits.{bit_and, bit_or, and_mask, or_shifted, or_shifted_r}
use lib.Dec.{eqb}
use mir.Val.{bool_byte}
use borrow.Author.Tests.{eqb-true, eq-eqb}
use Rattle.rules.specs.declared.Row.{Row}
use Rattle.rules.specs.World.{bit, number}
use Rattle.rules.specs.Device.{Widths}
use Rattle.rules.specs.Instruction.{longer}
use Rattle.rules.specs.Receive.{rolled}
use Rattle.rules.specs.Judge.{storable}
use Rattle.rules.specs.Sound.{◌implies◌}
use Rattle.rules.proofs.Choice.{implied, below, passes}

-- A bit at the low end.
pub low_bit : (v : ℕ) (d : Bool) → v < 128 → bit_or (v * 2 % 256) (bool_byte d) ≡ v * 2 + number d
low_bit v d h = let whole : v * 2 % 256 ≡ v * 2 = mod-eq_of_lt (omega arith) in rw whole (low d)
  where
    low : (d : Bool) → bit_or (v * 2) (bool_byte d) ≡ v * 2 + number d
    low true = or_shifted v 1 1 (omega arith)
    low false = or_shifted v 1 0 (omega arith)

pub at-bit : (x k : ℕ) → eqb (bit_and (x / 2 ^ k) 1) 1 ≡ bit x k
at-bit x k = ap (λ (m : ℕ). eqb m 1) (and_mask (x / 2 ^ k) 1)

-- A mask of a power of two less one is a remainder.
pub within : (k a p : ℕ) → p ≡ 2 ^ k → bit_and a (p - 1) ≡ a % p
within k a p h = rw (h, and_mask)

-- An address byte at the low end, within the cells.
pub address-byte : {row : Row} → Widths row → (a b : ℕ) → a < row.cells → b < 256 → bit_and (bit_or (a * 256 % 2 ^ 64) b) (row.cells - 1) ≡ longer row a b
unfolding longer
address-byte {row} v a b ha hb =
    let small : 2 ^ v.cell_bits ≤ 2 ^ 24 = pow_mono v.narrow in
    let inside : a < 2 ^ v.cell_bits = subst (λ (n : ℕ). a < n) v.cells ha in
    let whole : a * 256 % 2 ^ 64 ≡ a * 256 = mod-eq_of_lt (omega arith) in
    rw (whole, or_shifted a 8 b) (within v.cell_bits (a * 256 + b) row.cells v.cells)

-- Bytes put together, the least significant first: one law over the place.
pub join : (k w n b : ℕ) → n < 2 ^ k → b * 2 ^ k < 2 ^ w → bit_or n (b * 2 ^ k % 2 ^ w) ≡ n + b * 2 ^ k
join k w n b hn hb = let whole : b * 2 ^ k % 2 ^ w ≡ b * 2 ^ k = mod-eq_of_lt hb in rw (whole, or_shifted_r b k n) (omega arith)

-- Masks of a byte, over all bytes.
bit-3-test : ℕ → Bool
bit-3-test x = eqb (bit_and x 0xF7) (x - number (bit x 3) * 8)

pub mask-bit-3 : (x : ℕ) → x < 256 → bit_and x 0xF7 ≡ x - number (bit x 3) * 8
unfolding bit-3-test
mask-bit-3 x h = eqb-true _ _ (passes 256 bit-3-test refl x h)

abbrev bits_of : Bool → ℕ → ℕ
bits_of srwd v = number (srwd && bit v 7) * 128 + v / 4 % 4 * 4

-- The status bits that are stored, by SRWD.
abbrev mask : Bool → ℕ
mask true = 0x8C
mask false = 0x0C

stored-test : Bool → ℕ → Bool
stored-test srwd x = eqb (bit_and x (mask srwd)) (bits_of srwd x)

stored-all : (srwd : Bool) → below 256 (stored-test srwd) ≡ true
unfolding stored-test
stored-all true = refl
stored-all false = refl

pub stored-bits : (row : Row) {srwd : Bool} (x : ℕ) → row.srwd ≡ srwd → x < 256 → bit_and x (mask srwd) ≡ storable row x
unfolding stored-test
stored-bits row {srwd} x e h = rw e (eqb-true _ _ (passes 256 (stored-test srwd) (stored-all srwd) x h))

-- The status byte, over all bytes, both kinds of device and both flags.
status-test : Bool → Bool → Bool → ℕ → Bool
status-test srwd wel busy x = eqb (bits_of srwd x) x implies eqb (bit_or (bit_or x (bool_byte wel * 2 % 256)) (bool_byte busy)) (x + number wel * 2 + number busy)

status-all : (srwd wel busy : Bool) → below 256 (status-test srwd wel busy) ≡ true
unfolding status-test
status-all true true true = refl
status-all true true false = refl
status-all true false true = refl
status-all true false false = refl
status-all false true true = refl
status-all false true false = refl
status-all false false true = refl
status-all false false false = refl

pub or-status : (row : Row) (x : ℕ) (wel busy : Bool) → x < 256 → storable row x ≡ x → bit_or (bit_or x (bool_byte wel * 2 % 256)) (bool_byte busy) ≡ x + number wel * 2 + number busy
unfolding status-test
or-status row x wel busy h e =
    eqb-true _ _ (implied _ _ (passes 256 (status-test row.srwd wel busy) (status-all row.srwd wel busy) x h) (eq-eqb _ _ e))

pub roll-eq : (row : Row) (a : ℕ) {p q : ℕ} → p ≡ a % row.page → q ≡ (p + 1) % row.page → a - p + q ≡ rolled row a
unfolding rolled
roll-eq row a e f = rw (f, e)
