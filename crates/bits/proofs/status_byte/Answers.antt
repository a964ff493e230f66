-- `bits::status_byte` meets its contract.
use Rattle.bits.proofs.Masks.{or-status}
use Rattle.bits.proofs.status_byte.Goals as goal

pub returns : goal.returns
returns c = or-status c.args.row c.args.status c.args.wel c.args.busy c.ranges.status.fits c.requires
