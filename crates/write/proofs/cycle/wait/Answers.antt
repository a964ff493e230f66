-- `write::cycle::wait` meets its contract.
use native.Mathlib.Omega.{arith}
use Rattle.rules.proofs.Widths.{widths, page-room}
use Rattle.write.proofs.Passing.{has-page}
use Rattle.write.proofs.cycle.wait.Goals as goal

pub write_marked-requires : goal.write_marked-requires
write_marked-requires c =
    let lent = c.requires.lent in
    let cycle = c.requires.cycle in
    (lent.latch, omega (arith, page-room (widths _ c.args.device.wide) _ cycle.aligned cycle.inside, lent.cells))

pub write_marked-requires-then-ends-change-2 : goal.write_marked-requires-then-ends-change-2
write_marked-requires-then-ends-change-2 c =
    let lent = c.requires.lent in
    let whole = has-page (widths _ c.args.device.wide) _ c.requires.cycle c.changes-change.ensures _ c.if-ends-change-2.true in
    (lent.latch, omega (arith, lent.identification, whole))
