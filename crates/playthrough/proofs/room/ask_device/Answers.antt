-- `playthrough::room::ask_device` meets its contract.
use native.Mathlib.Omega.{arith}
use mathlib.Core.Path.{sym, ap, ◌∙◌}
use lib.Seq.{length-take-le}
use Rattle.rules.specs.declared.Row.{Row}
use Rattle.rules.proofs.Widths.{room}
use Rattle.playthrough.proofs.room.ask_device.Goals as goal

pub slice_bounds-ask_lent-end : goal.slice_bounds-ask_lent-end
slice_bounds-ask_lent-end g c =
    sym (length-take-le _ _ (omega (arith, (room c.args.device c.device-known.ensures).0)))

pub ask_lent-requires-clause-cells_len : goal.ask_lent-requires-clause-cells_len
ask_lent-requires-clause-cells_len g c =
    let e = c.device-known.ensures in
    let large = room c.args.device e in
    (length-take-le _ _ (omega (arith, large.0)) ∙ ap (λ (x : Row). x.cells) e, length-take-le _ _ (omega (arith, large.2)) ∙ ap (λ (x : Row). x.identification) e)
