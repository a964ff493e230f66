-- `bits::place` meets its contract.
use Rattle.rules.proofs.Widths.{widths}
use Rattle.bits.proofs.Masks.{within}
use Rattle.bits.proofs.place.Goals as goal

pub returns : goal.returns
returns c = let known = widths _ c.args.device.wide in within known.page_bits c.args.address c.args.device.row.page known.page
