-- `traces::quick::quick_shift` meets its contract.
use mathlib.Core.List.{[]}
use Rattle.rules.specs.World.{world_of}
use Rattle.traces.proofs.Short.{shift-way}
use Rattle.traces.proofs.quick.quick_shift.Goals as goal

pub returns : goal.returns
returns c = shift-way c.args.row c.args.s (world_of c.args.s [] [] [] []) c.requires.1 c.requires.2 c.requires.3 c.requires.4 c.bit_out-t.ensures
