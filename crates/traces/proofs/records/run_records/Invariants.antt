-- `traces::records::run_records` meets its contract: the state in the variable and the world's buffers are what the run has come to.
use Prim.Native.Nat.{◌-◌}
use Rattle.rules.specs.World.{world_of}
use Rattle.rules.specs.Lending.{AreSame, world_in}
use Rattle.traces.proofs.Running.{Kept}
use Rattle.traces.proofs.records.run_records.Given as goal

abbrev pub invariant-loop-n : goal.invariant-loop-n
invariant-loop-n l =
    AreSame l.world l.initial.world
    × Kept l.device.row l.trace l.limit (world_in l.initial.world) l.initial.answers
    (world_of l.t l.world.cells.now l.world.identification.now l.world.latch.now l.world.counts.now) l.answers l.at l.n

abbrev pub decreases-loop-n : goal.decreases-loop-n
decreases-loop-n l = l.limit - l.n
