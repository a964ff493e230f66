-- `replay::compare::is_good_here` meets its contract.
use mathlib.Core.Path.{sym}
use native.Mathlib.Nat.{le_of_eq}
use native.Mathlib.Omega.{arith}
use Rattle.std.proofs.Common.{length-take-le}
use Rattle.rules.proofs.Widths.{room}
use Rattle.replay.proofs.compare.is_good_here.Goals as goal

pub slice_bounds-world-end : goal.slice_bounds-world-end
slice_bounds-world-end c =
    sym (length-take-le _ _ (omega (arith, (room c.args.vector.header.device c.device-device.ensures).0)))

pub slice_bounds-is_good-end-2 : goal.slice_bounds-is_good-end-2
slice_bounds-is_good-end-2 c =
    sym (length-take-le _ _ (omega (arith, (room c.args.vector.header.device c.device-device.ensures).0)))

pub is_good-requires-clause-enough : goal.is_good-requires-clause-enough
is_good-requires-clause-enough c = le_of_eq (sym (length-take-le _ _ c.requires))
