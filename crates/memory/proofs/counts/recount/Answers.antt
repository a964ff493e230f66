-- `memory::counts::recount` meets its contract.
use native.Mathlib.Omega.{arith}
use Rattle.rules.proofs.Filled.{filled-most}
use Rattle.rules.proofs.Widths.{widths, page-room, page-count}
use Rattle.memory.proofs.counts.recount.Goals as goal

pub filled_in-n-requires : goal.filled_in-n-requires
filled_in-n-requires c =
    let at = c.requires.page_start in omega (arith, page-room (widths _ c.args.device.wide) c.args.start at.0 at.1, c.requires.cells_len.0)

pub overflow_cast-counts : goal.overflow_cast-counts
overflow_cast-counts c =
    omega (arith, c.filled_in-n.ensures, filled-most c.args.device.row.page c.args.start c.args.cells.now, (widths _ c.args.device.wide).page_most)

pub nonzero_div-counts : goal.nonzero_div-counts
nonzero_div-counts c = omega (arith, (widths _ c.args.device.wide).page_least)

pub bounds-counts-start : goal.bounds-counts-start
bounds-counts-start c =
    omega (arith, page-count (widths _ c.args.device.wide) c.args.start c.requires.page_start.1, c.requires.cells_len.1)
