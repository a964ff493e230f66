-- `memory::write_marked` meets its contract. The test of a mark is handed to `omega`, so that its meaning counts and not its spelling.
use Rattle.rules.specs.Cycle.{written}
use lib.ListN.{length}
use mathlib.Core.Path.{◌≡◌}
use Rattle.memory.proofs.write_marked.Given as goal

abbrev pub invariant-loop-i : goal.invariant-loop-i
invariant-loop-i l = l.bytes ≡ written (length l.yielded) l.fn.row.page l.fn.latch l.start l.initial.bytes
