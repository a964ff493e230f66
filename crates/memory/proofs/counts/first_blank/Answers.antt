-- `memory::counts::first_blank` meets its contract.
use mathlib.Core.Path.{sym, ◌∙◌}
use native.Mathlib.Omega.{arith}
use borrow.Author.Rules.{rules}
use Rattle.memory.proofs.Laws.{blank-start, blank-end, blank-here, blank-later}
use Rattle.memory.proofs.counts.first_blank.Goals as goal

pub loop-page-init : goal.loop-page-init
loop-page-init c = (omega arith, blank-start c.args.counts.now)

pub loop-page-preserved : goal.loop-page-preserved
loop-page-preserved c =
    (omega arith, sym (blank-later c.args.counts.now c.loop-page.page (omega arith) (search rules)) ∙ c.loop-page.invariant.1)

pub returns-then-page-counts : goal.returns-then-page-counts
returns-then-page-counts c = sym (blank-end c.args.counts.now c.loop-page.page (omega arith)) ∙ c.loop-page.invariant.1

pub returns-then-counts-page-eq0 : goal.returns-then-counts-page-eq0
returns-then-counts-page-eq0 c =
    sym (blank-here c.args.counts.now c.loop-page.page (omega arith) (search rules)) ∙ c.loop-page.invariant.1
