-- `pages::page_at` meets its contract.
use Prim.Native.Nat.{◌-◌, ◌%◌, ◌<◌}
use native.Mathlib.Nat.{mod-le}
use native.Mathlib.Omega.{arith}
use Rattle.rules.proofs.Widths.{widths, start-aligned, page-room}
use Rattle.pages.proofs.page_at.Goals as goal

pub slice_bounds-result-end : goal.slice_bounds-result-end
slice_bounds-result-end c =
    let row = c.args.device.row in
    let address = c.args.address in
    let start : address - address % row.page < row.cells = omega (arith, c.requires, mod-le address row.page) in
    let room = page-room (widths row c.args.device.wide) (address - address % row.page) (start-aligned row address) start in
    omega (arith, room, c.place.ensures, c.requires)
