-- `tables::instructions::name_of` meets its contract.
use Rattle.tables.proofs.Looks.{named-rdid, named-wrid, named-plain, plain-none}
use Rattle.tables.proofs.instructions.name_of.Goals as goal

pub returns-then-code-eq131 : goal.returns-then-code-eq131
returns-then-code-eq131 c = named-rdid c.args.row c.args.code c.if-code-eq131.true

pub returns-then-code-eq130 : goal.returns-then-code-eq130
returns-then-code-eq130 c =
    named-wrid c.args.row c.args.code c.if-code-eq130.true

pub returns-in-6 : goal.returns-in-6
returns-in-6 c =
    named-plain c.args.row c.args.code c.plain-plain.ensures c.if-code-eq131.false c.if-code-eq130.false (rw c.in-6.is)

pub returns-in-4 : goal.returns-in-4
returns-in-4 c =
    named-plain c.args.row c.args.code c.plain-plain.ensures c.if-code-eq131.false c.if-code-eq130.false (rw c.in-4.is)

pub returns-in-5 : goal.returns-in-5
returns-in-5 c =
    named-plain c.args.row c.args.code c.plain-plain.ensures c.if-code-eq131.false c.if-code-eq130.false (rw c.in-5.is)

pub returns-in-1 : goal.returns-in-1
returns-in-1 c =
    named-plain c.args.row c.args.code c.plain-plain.ensures c.if-code-eq131.false c.if-code-eq130.false (rw c.in-1.is)

pub returns-in-3 : goal.returns-in-3
returns-in-3 c =
    named-plain c.args.row c.args.code c.plain-plain.ensures c.if-code-eq131.false c.if-code-eq130.false (rw c.in-3.is)

pub returns-in-2 : goal.returns-in-2
returns-in-2 c =
    named-plain c.args.row c.args.code c.plain-plain.ensures c.if-code-eq131.false c.if-code-eq130.false (rw c.in-2.is)

pub returns-in_default : goal.returns-in_default
returns-in_default c =
    let none = c.in_default.in_default-own.rest in
    named-plain c.args.row c.args.code c.plain-plain.ensures c.if-code-eq131.false c.if-code-eq130.false
    (plain-none c.plain-plain.result none.0.0.0.0.0.1 none.0.0.0.0.1 none.0.0.0.1 none.0.0.1 none.0.1 none.1)
