-- `bits::with_bit` meets its contract.
use Rattle.bits.proofs.Masks.{low_bit}
use Rattle.bits.proofs.with_bit.Goals as goal

pub returns : goal.returns
returns c = low_bit c.args.value c.args.d c.requires
