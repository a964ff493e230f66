-- `memory::counts::recount_all` meets its contract.
use mathlib.Core.Path.{refl, ap, ◌∙◌}
use native.Mathlib.Nat.{mul-mod_left}
use native.Mathlib.Omega.{arith}
use Rattle.rules.specs.Call.{recounted_to}
use Rattle.rules.proofs.Widths.{widths, page-inside}
use Rattle.memory.proofs.Laws.{recounted-next}
use Rattle.memory.proofs.counts.recount_all.Goals as goal

pub loop-page-init : goal.loop-page-init
unfolding recounted_to
loop-page-init c = refl

pub overflow_mul-page : goal.overflow_mul-page
overflow_mul-page c =
    let v = widths _ c.args.device.wide in
    omega (arith, page-inside v c.loop-page.page (omega (arith, c.requires.1)), v.cells_most)

pub recount-requires : goal.recount-requires
recount-requires c =
    let v = widths _ c.args.device.wide in
    let inside = page-inside v c.loop-page.page (omega (arith, c.requires.1)) in
    record { page_start = (mul-mod_left c.loop-page.page c.args.device.row.page, omega (arith, v.page_least)); cells_len = (c.requires.0, omega (arith, c.requires.1)) }

pub loop-page-preserved : goal.loop-page-preserved
loop-page-preserved c = cc (recounted-next c.loop-page.page c.args.device.row c.args.cells.now c.args.counts.now)

pub returns : goal.returns
returns c =
    c.loop-page.invariant ∙ ap (λ n. recounted_to n c.args.device.row c.args.cells.now c.args.counts.now) (omega (arith, c.requires.1))
