-- `memory::prepare_identification` meets its contract.
use lib.ListN.{length}
use native.Mathlib.Omega.{arith}
use borrow.Author.Rules.{rules}
use Prim.Native.Nat.{◌≤◌}
use Rattle.rules.proofs.Widths.{widths}
use Rattle.memory.proofs.Laws.{code-room}
use Rattle.memory.proofs.prepare_identification.Goals as goal
use Rattle.memory.proofs.prepare_identification.Goals.{Then-device}

room : (c : Then-device) → 3 ≤ length c.fill.new.self
room c =
    let coded = code-room c.args.device.row c.if-device.true (widths _ c.args.device.wide).code_fits in
    omega (arith, coded, c.requires, c.fill.ensures.len)

pub slice_bounds-copy_from_slice-end : goal.slice_bounds-copy_from_slice-end
slice_bounds-copy_from_slice-end c = room (goal.at.slice_bounds-copy_from_slice-end c).Then-device

pub slice_bounds-copy_from_slice-end-then-device :
    goal.slice_bounds-copy_from_slice-end-then-device
slice_bounds-copy_from_slice-end-then-device c =
    let three = room (goal.at.slice_bounds-copy_from_slice-end-then-device c).Then-device in search rules

pub copy_from_slice-requires : goal.copy_from_slice-requires
copy_from_slice-requires c = let three = room (goal.at.copy_from_slice-requires c).Then-device in search rules
