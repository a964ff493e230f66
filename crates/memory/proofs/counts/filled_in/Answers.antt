-- `memory::counts::filled_in` meets its contract. The test of a cell is handed to `omega`, so that its meaning counts and not its spelling.
use Prim.Native.Nat.{◌+◌, ◌-◌}
use mathlib.Core.Path.{refl}
use native.Mathlib.Omega.{arith}
use Rattle.rules.specs.Cycle.{filled}
use Rattle.memory.proofs.Laws.{item-at, filled_more, filled-kept}
use Rattle.memory.proofs.counts.filled_in.Goals as goal
use Rattle.memory.proofs.counts.filled_in.Goals.{then-is_filled, else-is_filled}

pub loop-cell-init : goal.loop-cell-init
unfolding filled
loop-cell-init c = (omega arith, refl)

pub loop-cell-preserved : goal.loop-cell-preserved
loop-cell-preserved c =
    let cells = c.args.cells.now in
    let start = c.args.start in
    let i = c.loop-cell.cell-index in
    let here = item-at cells start (start + c.args.row.page - start) i c.loop-cell-test.true in
    elim c.if-is_filled.branch [
      | then-is_filled w ↦
          let more = filled_more cells start i (omega (arith, here, w.if-is_filled.true)) in (omega arith, omega arith)
      | else-is_filled w ↦
          let kept = filled-kept cells start i (omega (arith, here, w.if-is_filled.false)) in (omega arith, omega arith)
    ]
