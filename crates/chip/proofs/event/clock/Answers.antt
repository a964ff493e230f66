-- `chip::event::clock` meets its contract.
use Rattle.chip.proofs.Events.{clock-up, clock-down}
use Rattle.chip.proofs.event.clock.Goals as goal

pub returns-then-high : goal.returns-then-high
returns-then-high c =
    let rise = c.rise-t.ensures in
    λ counts. clock-up c.args.device.row c.args.s _ c.is_decoding.ensures c.if-high.true rise.0 rise.1 c.set_clock.ensures

pub returns-else-high : goal.returns-else-high
returns-else-high c =
    λ counts. clock-down c.args.device.row c.args.s _ c.is_decoding-else-high.ensures c.if-high.false c.fall-t.ensures c.set_clock-else-high.ensures
