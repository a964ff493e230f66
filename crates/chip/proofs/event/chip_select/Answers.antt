-- `chip::event::chip_select` meets its contract.
use mathlib.Core.Path.{ap, ◌∙◌}
use Rattle.rules.specs.declared.Event.{Event}
use Rattle.rules.specs.declared.State.{State}
use Rattle.rules.specs.World.{with_pins}
use Rattle.rules.specs.Event.{pins_after, settled}
use Rattle.chip.proofs.Events.{select-ends, select-idle, select-begins, select-low}
use Rattle.chip.proofs.event.chip_select.Goals as goal
use Rattle.chip.proofs.event.chip_select.Goals.{then-high+then-s, then-high+else-s, else-high+then-s-2, else-high+else-s-2}

pub returns : goal.returns
returns c =
    let row = c.args.device.row in
    let s = c.args.s in
    let set = λ (t : State). settled (with_pins (pins_after (Event.Select c.args.high) t.pins) t) in
    elim c.if-high.branch [
      | then-high+then-s w ↦ select-ends row s w.if-high.true w.if-s.true w.judge.ensures w.deselect-t.ensures (c.settle.ensures ∙ ap set w.t-is ∙ rw w.if-high.true)
      | then-high+else-s w ↦ select-idle row s w.if-high.true w.if-s.false (c.settle.ensures ∙ ap set w.t-is ∙ rw w.if-high.true)
      | else-high+then-s-2 w ↦ select-begins row s w.if-high.false w.if-s-2.true w.select-t.ensures (c.settle.ensures ∙ ap set w.t-is ∙ rw w.if-high.false)
      | else-high+else-s-2 w ↦ select-low row s w.if-high.false w.if-s-2.false (c.settle.ensures ∙ ap set w.t-is ∙ rw w.if-high.false)
    ]
