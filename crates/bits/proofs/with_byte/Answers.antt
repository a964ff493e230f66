-- `bits::with_byte` meets its contract.
use Rattle.rules.proofs.Widths.{widths}
use Rattle.bits.proofs.Masks.{address-byte}
use Rattle.bits.proofs.with_byte.Goals as goal

pub returns : goal.returns
returns c = address-byte (widths _ c.args.device.wide) c.args.address c.args.byte c.requires c.ranges.byte.fits
