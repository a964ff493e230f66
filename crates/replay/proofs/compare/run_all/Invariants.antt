-- `replay::compare::run_all` meets its contract: what is left of the file is never longer than it, and shorter by each vector.
use Rattle.std.proofs.Common.{◌≤◌, length}
use Rattle.replay.proofs.compare.run_all.Given as goal

abbrev pub invariant-loop-rest : goal.invariant-loop-rest
invariant-loop-rest l = length l.rest ≤ length l.bytes

abbrev pub decreases-loop-rest : goal.decreases-loop-rest
decreases-loop-rest l = length l.rest
