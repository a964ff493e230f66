-- `traces::quick::quick_whole` meets its contract.
use Rattle.traces.proofs.Short.{whole-way}
use Rattle.traces.proofs.quick.quick_whole.Goals as goal

pub returns : goal.returns
returns c = whole-way c.args.row c.args.s c.requires.1 c.requires.2 c.requires.3 c.requires.4 c.with_bit-t.ensures
