-- `memory::counts::filled_in` meets its contract: it has counted the cells that it passed.
use Rattle.std.proofs.Common.{◌≡◌, ◌≤◌}
use Rattle.rules.specs.Cycle.{filled}
use Rattle.memory.proofs.counts.filled_in.Given as goal

abbrev pub invariant-loop-cell : goal.invariant-loop-cell
invariant-loop-cell l = (l.n ≤ l.cell-index) × (l.n ≡ filled l.cell-index l.start l.cells)
