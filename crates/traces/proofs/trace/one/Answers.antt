-- `traces::trace::one` meets its contract.
use mathlib.Core.Path.{refl, ap, ◌∙◌}
use lib.ListN.{length}
use borrow.Author.Tests.{leb-false}
use Rattle.std.proofs.lemmas.Result.{err_from_is_err_and}
use Rattle.rules.specs.Trace.{answer_byte}
use Rattle.rules.proofs.Numbers.{some-number}
use Rattle.rules.proofs.Runs.{turn-refused}
use Rattle.traces.proofs.Reading.{form-refused, formed}
use Rattle.traces.proofs.Running.{turn-barred, turn-tried}
use Rattle.traces.proofs.trace.one.Goals as goal

pub returns-in_err-record-clause-turn : goal.returns-in_err-record-clause-turn
returns-in_err-record-clause-turn c =
    let given = c.args in
    let refusal = some-number c.in_err-record.field-0.0 in
    let same = err_from_is_err_and c.from_residual.result c.from_residual.ensures.1 in
    rw (same.1, same.2)
    (turn-refused given.device.row given.trace.now given.n _ given.answers.now c.requires.at_in_bounds
    (form-refused given.device.row given.trace.now given.at _ _ c.in_err-record.ensures.number refusal) refusal)

pub returns-in_err-take-clause-turn : goal.returns-in_err-take-clause-turn
returns-in_err-take-clause-turn c =
    let given = c.args in
    let form = c.in_ok-record.ensures in
    let same = err_from_is_err_and c.from_residual-in_err-take.result c.from_residual-in_err-take.ensures.1 in
    rw (same.1, same.2)
    (turn-barred given.device.row given.trace.now given.n _ given.answers.now c.requires.at_in_bounds form.number refl form.record.0
    c.in_err-take.ensures.number c.take.ensures.world (some-number c.in_err-take.field-0.0))

pub bounds-answers-n : goal.bounds-answers-n
bounds-answers-n c =
    let given = c.args in
    leb-false (length given.answers.now) given.n (formed given.device.row given.trace.now given.at given.answers.now given.n c.in_ok-record.ensures.number refl).room

pub returns-clause-turn : goal.returns-clause-turn
returns-clause-turn c =
    let given = c.args in
    let form = c.in_ok-record.ensures in
    turn-tried given.device.row given.trace.now given.n _ given.answers.now c.requires.at_in_bounds form.number refl form.record.0
    c.in_ok-take.ensures.number c.take.ensures.world refl refl (c.byte.ensures ∙ ap answer_byte c.answer.ensures) form.record.1 refl
