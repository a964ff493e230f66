-- `bits::roll` meets its contract.
use Prim.Native.Nat.{◌+◌}
use native.Mathlib.Nat.{mod-lt, mod-le}
use native.Mathlib.Omega.{arith}
use Rattle.rules.proofs.Widths.{widths, page-positive}
use Rattle.bits.proofs.Masks.{roll-eq}
use Rattle.bits.proofs.roll.Goals as goal

pub overflow_sub-result : goal.overflow_sub-result
overflow_sub-result c = omega (arith, c.place-at.ensures, mod-le c.args.address c.args.device.row.page)

pub overflow_add-at : goal.overflow_add-at
overflow_add-at c = omega (arith, mod-le c.args.address c.args.device.row.page)

pub overflow_add-result : goal.overflow_add-result
overflow_add-result c =
    omega (arith, c.place.ensures, mod-lt (c.place-at.result + 1) {m = c.args.device.row.page} (page-positive (widths _ c.args.device.wide)))

pub returns : goal.returns
returns c = roll-eq c.args.device.row c.args.address c.place-at.ensures c.place.ensures
