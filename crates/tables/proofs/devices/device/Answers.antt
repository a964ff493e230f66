-- `tables::devices::device` meets its contract: a row of the table has the widths, and the bounds follow.
use mathlib.Core.Path.{◌≡◌, sym, subst}
use mathlib.Core.Bool.{true}
use Rattle.rules.specs.Wide.{is_wide}
use Rattle.rules.proofs.Widths.{table-wide, widths, page-below, identification-short}
use Rattle.tables.proofs.devices.device.Goals as goal

pub invariant_of-result : goal.invariant_of-result
invariant_of-result c =
    let wide = subst (λ row. is_wide row ≡ true) (sym c.row_of.ensures) (table-wide _) in
    let known = widths c.row_of.result wide in
    record {
      wide = wide;
      pages = page-below known;
      cells_most = known.cells_most;
      page_least = known.page_least;
      page_most = known.page_most;
      page_whole = identification-short known;
      width_most = known.three_bytes;
    }
