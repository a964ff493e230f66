-- `playthrough::run::play_device` meets its contract.
use native.Mathlib.Omega.{arith}
use mathlib.Core.Path.{sym, ◌∙◌}
use lib.Seq.{length-take-le}
use Rattle.m95.proofs.Calling.{lent-room}
use Rattle.rules.proofs.Widths.{room}
use Rattle.playthrough.proofs.run.play_device.Goals as goal

pub slice_bounds-world-end : goal.slice_bounds-world-end
slice_bounds-world-end g c =
    sym (length-take-le _ _ (omega (arith, (room c.args.device c.device-known.ensures).0)))

pub play_lent-requires : goal.play_lent-requires
play_lent-requires g c =
    let known = c.device-known in
    let pages = c.page_count.ensures in
    let large = room c.args.device known.ensures in
    lent-room c.args.device known.result.row known.ensures c.requires _ _ _ _
    (length-take-le _ _ (omega (arith, large.0))) (length-take-le _ _ (omega (arith, large.2))) (length-take-le _ _ (omega (arith, large.1)))
    (length-take-le _ _ (omega (arith, pages, large.3)) ∙ pages)
