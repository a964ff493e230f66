-- `bits::without_bit_3` meets its contract.
use Rattle.bits.proofs.Masks.{mask-bit-3}
use Rattle.bits.proofs.without_bit_3.Goals as goal

pub returns : goal.returns
returns c = mask-bit-3 c.args.code c.ranges.code.fits
