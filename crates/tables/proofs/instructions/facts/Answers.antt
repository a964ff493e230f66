-- `tables::instructions::facts` meets its contract.
use Rattle.rules.specs.Instruction.{facts}
use Rattle.tables.proofs.Looks.{arm}
use Rattle.tables.proofs.instructions.facts.Goals as goal

pub returns-in-Wren : goal.returns-in-Wren
returns-in-Wren c = arm facts c.in-Wren.is c.row.ensures

pub returns-in-Wrdi : goal.returns-in-Wrdi
returns-in-Wrdi c = arm facts c.in-Wrdi.is c.row-in-Wrdi.ensures

pub returns-in-Rdsr : goal.returns-in-Rdsr
returns-in-Rdsr c = arm facts c.in-Rdsr.is c.row-in-Rdsr.ensures

pub returns-in-Wrsr : goal.returns-in-Wrsr
returns-in-Wrsr c = arm facts c.in-Wrsr.is c.row-in-Wrsr.ensures

pub returns-in-Read : goal.returns-in-Read
returns-in-Read c = arm facts c.in-Read.is c.row-in-Read.ensures

pub returns-in-Write : goal.returns-in-Write
returns-in-Write c = arm facts c.in-Write.is c.row-in-Write.ensures

pub returns-in-Rdid : goal.returns-in-Rdid
returns-in-Rdid c = arm facts c.in-Rdid.is c.row-in-Rdid.ensures

pub returns-in-Rdls : goal.returns-in-Rdls
returns-in-Rdls c = arm facts c.in-Rdls.is c.row-in-Rdls.ensures

pub returns-in-Wrid : goal.returns-in-Wrid
returns-in-Wrid c = arm facts c.in-Wrid.is c.row-in-Wrid.ensures

pub returns-in-Lid : goal.returns-in-Lid
returns-in-Lid c = arm facts c.in-Lid.is c.row-in-Lid.ensures

pub returns-in-Unknown : goal.returns-in-Unknown
returns-in-Unknown c = arm facts c.in-Unknown.is c.row-in-Unknown.ensures
