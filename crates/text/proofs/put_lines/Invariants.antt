-- `text::put_lines` meets its contract: the lines so far stand at their place, and those that are left have room.
use Rattle.std.proofs.Common.{take}
use Rattle.rules.specs.Program.{lines}
use Rattle.text.specs.Put.{Put}
use Rattle.text.proofs.put_lines.Given as goal

abbrev pub invariant-loop-i : goal.invariant-loop-i
invariant-loop-i l = Put l.initial.out l.at (lines 1 (take l.i l.answers)) l.out l.place
