-- `traces::quick::quick_data` meets its contract.
use Rattle.traces.proofs.Short.{data-way}
use Rattle.traces.proofs.quick.quick_data.Goals as goal

pub returns : goal.returns
returns c = data-way c.args.row c.args.s _ c.requires
