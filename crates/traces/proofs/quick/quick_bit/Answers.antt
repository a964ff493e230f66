-- `traces::quick::quick_bit` meets its contract.
use Rattle.traces.proofs.Short.{bit-way}
use Rattle.traces.proofs.quick.quick_bit.Goals as goal

pub returns : goal.returns
returns c = bit-way c.args.row c.args.s c.requires.1 c.requires.2 c.requires.3 c.with_bit-t.ensures
