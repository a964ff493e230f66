-- `memory::counts::recount_all` meets its contract.
use mathlib.Core.Path.{◌≡◌}
use Rattle.rules.specs.Call.{recounted_to}
use Rattle.memory.proofs.counts.recount_all.Given as goal

abbrev pub invariant-loop-page : goal.invariant-loop-page
invariant-loop-page l = l.counts ≡ recounted_to l.page l.device.row l.cells l.initial.counts
