-- `tables::instructions::decode` meets its contract.
use Rattle.tables.proofs.Looks.{decode-none, decode-named}
use Rattle.tables.proofs.instructions.decode.Goals as goal

pub returns-then-f-has_identification : goal.returns-then-f-has_identification
returns-then-f-has_identification c =
    decode-none c.args.row c.args.code c.name_of-i.ensures c.facts-f.ensures c.has_identification.ensures c.if-f-has_identification.true

pub returns : goal.returns
returns c =
    decode-named c.args.row c.args.code c.name_of-i.ensures c.facts-f.ensures c.has_identification.ensures c.if-f-has_identification.false
