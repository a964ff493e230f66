-- Which numbers are a device's, and which lent buffers are not refused, for those who prepare a device of the table in room of its own.
use Prim.Native.Nat.{ℕ, ◌+◌, ◌≤◌}
use mathlib.Core.Path.{◌≡◌}
use mathlib.Core.Bool.{true}
use mathlib.Core.List.{List}
use lib.ListN.{length}
use borrow.Author.Tests.{eq-eqb, le-leb}
use Rattle.rules.specs.declared.Row.{Row}
use Rattle.rules.specs.Device.{table, is_device, row_of, page_count}
use Rattle.rules.specs.Call.{memory_refusal, lent_refusal}

-- A number from 1 to how many rows the table has is a device's.
pub a-device : (device : ℕ) → 1 ≤ device → device ≤ length table → is_device device ≡ true
a-device device a b = rw (le-leb 1 device a, le-leb device (length table) b)

-- The lent buffers.
pub lent-room : (device : ℕ) (row : Row) → row ≡ row_of device → is_device device ≡ true → (cells identification latch counts : List ℕ) → length cells ≡ row.cells
    → length identification ≡ row.identification → length latch ≡ row.page + row.page → length counts ≡ page_count row
    → lent_refusal device cells identification latch counts ≡ 0
unfolding lent_refusal memory_refusal
lent-room device row e d cells identification latch counts ec ei el ek =
    let right-latch = eq-eqb (length latch) (row.page + row.page) el in
    rw (d, ← e, eq-eqb (length cells) row.cells ec, eq-eqb (length identification) row.identification ei, right-latch, eq-eqb (length counts) (page_count row) ek)
