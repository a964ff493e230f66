-- `memory::counts::first_blank` meets its contract: the pages passed have counts other than 0, so that the search from this one on answers for all.
use lib.ListN.{length}
use mathlib.Core.Path.{◌≡◌}
use Prim.Native.Nat.{◌-◌, ◌≤◌}
use Rattle.rules.specs.Call.{first_blank}
use Rattle.memory.proofs.Laws.{blank_from}
use Rattle.memory.proofs.counts.first_blank.Given as goal

abbrev pub invariant-loop-page : goal.invariant-loop-page
invariant-loop-page l = (l.page ≤ length l.counts) × (blank_from l.counts l.page ≡ first_blank (length l.counts) l.counts)

abbrev pub decreases-loop-page : goal.decreases-loop-page
decreases-loop-page l = length l.counts - l.page
