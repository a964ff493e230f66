-- `text::put_decimal` meets its contract.
use native.Mathlib.Omega.{arith}
use mathlib.Core.Path.{◌∙◌}
use Rattle.text.proofs.Putting.{decimal-fewest, same_text}
use Rattle.text.proofs.put_decimal.Goals as goal

pub returns : goal.returns
returns c =
    let told = c.decimal-count.ensures in
    same_text (told.digits ∙ decimal-fewest c.decimal-count.result c.args.n (omega arith) told.len) c.put.ensures
