-- `memory::counts::is_miscounted` meets its contract.
use native.Mathlib.Omega.{arith}
use Rattle.rules.proofs.Widths.{widths, page-room, page-count}
use Rattle.memory.proofs.counts.is_miscounted.Goals as goal

pub nonzero_div-start : goal.nonzero_div-start
nonzero_div-start c = omega (arith, (widths _ c.args.device.wide).page_least)

pub bounds-counts-start : goal.bounds-counts-start
bounds-counts-start c =
    omega (arith, page-count (widths _ c.args.device.wide) c.args.start c.requires.page_start.1, c.requires.cells_len.1)

pub filled_in-requires : goal.filled_in-requires
filled_in-requires c =
    omega (arith, page-room (widths _ c.args.device.wide) c.args.start c.requires.page_start.0 c.requires.page_start.1, c.requires.cells_len.0)
