-- `traces::quick::quick_still` meets its contract.
use mathlib.Core.List.{[]}
use Rattle.rules.specs.World.{world_of}
use Rattle.traces.proofs.Short.{still-way}
use Rattle.traces.proofs.quick.quick_still.Goals as goal

pub returns : goal.returns
returns c = still-way c.args.row c.args.s (world_of c.args.s [] [] [] []) c.requires.0 c.requires.1
