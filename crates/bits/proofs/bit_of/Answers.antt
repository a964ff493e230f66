-- `bits::bit_of` meets its contract.
use Rattle.bits.proofs.Masks.{at-bit}
use Rattle.bits.proofs.bit_of.Goals as goal

pub returns : goal.returns
returns c = at-bit c.args.number c.args.k
