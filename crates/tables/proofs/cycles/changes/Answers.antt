-- `tables::cycles::changes` meets its contract.
use Rattle.rules.specs.Instruction.{changes}
use Rattle.tables.proofs.Looks.{arm}
use Rattle.tables.proofs.cycles.changes.Goals as goal

pub returns-in-None : goal.returns-in-None
returns-in-None c = arm changes c.in-None.is c.change.ensures

pub returns-in-Array : goal.returns-in-Array
returns-in-Array c = arm changes c.in-Array.is c.change-in-Array.ensures

pub returns-in-Identification : goal.returns-in-Identification
returns-in-Identification c = arm changes c.in-Identification.is c.change-in-Identification.ensures

pub returns-in-Status : goal.returns-in-Status
returns-in-Status c = arm changes c.in-Status.is c.change-in-Status.ensures

pub returns-in-Lock : goal.returns-in-Lock
returns-in-Lock c = arm changes c.in-Lock.is c.change-in-Lock.ensures
