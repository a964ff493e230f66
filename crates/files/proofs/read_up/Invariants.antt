-- `files::read_up` meets its contract: what was read fits in the buffer, and each turn but the last reads something.
use Rattle.std.proofs.Common.{◌≡◌, ◌-◌, ◌≤◌, length}
use Rattle.files.proofs.read_up.Given as goal

abbrev pub invariant-loop-more : goal.invariant-loop-more
invariant-loop-more g l = (l.count ≤ length l.buf) × (length l.buf ≡ length l.initial.buf)

abbrev pub decreases-loop-more : goal.decreases-loop-more
decreases-loop-more g l = length l.initial.buf - l.count
