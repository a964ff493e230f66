-- `tables::instructions::plain` meets its contract.
use Rattle.tables.proofs.Looks.{plain-one, plain_more}
use Rattle.tables.proofs.instructions.plain.Goals as goal

pub returns-then-row-eq1 : goal.returns-then-row-eq1
returns-then-row-eq1 c =
    plain-one c.args.row c.args.code c.if-row-eq1.true c.without_bit_3.ensures

pub returns-else-row-eq1 : goal.returns-else-row-eq1
returns-else-row-eq1 c =
    plain_more c.args.row c.args.code c.if-row-eq1.false
