-- `chip::event::step` meets its contract.
use Rattle.chip.proofs.Events.{step_by, protect-alone, waits}
use Rattle.chip.proofs.event.step.Goals as goal

pub returns-in-Protect-clause-world : goal.returns-in-Protect-clause-world
returns-in-Protect-clause-world c =
    let row = c.args.device.row in
    step_by row _ c.in-Protect.is (protect-alone row c.args.world.now.state _ c.write_protect-world.ensures)

pub returns-in-Wait-clause-world : goal.returns-in-Wait-clause-world
returns-in-Wait-clause-world c =
    let row = c.args.device.row in
    step_by row _ c.in-Wait.is (waits row _ _ c.wait-t.ensures c.settle-world.ensures)
