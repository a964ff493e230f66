-- `bits::cell_after` meets its contract.
use Prim.Native.Nat.{◌+◌}
use Rattle.rules.proofs.Widths.{widths}
use Rattle.bits.proofs.Masks.{within}
use Rattle.bits.proofs.cell_after.Goals as goal

pub returns : goal.returns
returns c = let known = widths _ c.args.device.wide in within known.cell_bits (c.args.address + 1) c.args.device.row.cells known.cells
