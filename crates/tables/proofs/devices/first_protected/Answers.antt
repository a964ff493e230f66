-- `tables::devices::first_protected` meets its contract.
use Rattle.tables.proofs.Looks.{last_entry}
use Rattle.tables.proofs.devices.first_protected.Goals as goal

pub returns-in_default : goal.returns-in_default
returns-in_default c = let none = c.in_default.in_default-own.rest in last_entry c.args.row c.args.bp none.0.0.1 none.0.1 none.1
