-- `bits::stored` meets its contract.
use Rattle.bits.proofs.Masks.{stored-bits}
use Rattle.bits.proofs.stored.Goals as goal

pub returns-then-row : goal.returns-then-row
returns-then-row c = stored-bits c.args.row c.args.byte c.if-row.true c.ranges.byte.fits

pub returns-else-row : goal.returns-else-row
returns-else-row c = stored-bits c.args.row c.args.byte c.if-row.false c.ranges.byte.fits
