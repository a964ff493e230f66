-- `traces::records::run_records` meets its contract. The count of a full turn is handed to `omega`, so that its value counts and not its spelling.
use mathlib.Core.Path.{refl, ap, ◌∙◌}
use borrow.Author.Rules.{rules}
use native.Mathlib.Omega.{arith}
use Rattle.rules.specs.Trace.{answer_byte}
use Rattle.rules.proofs.Numbers.{some-number}
use Rattle.rules.proofs.Widths.{widths}
use Rattle.chip.proofs.Events.{data-alone}
use Rattle.traces.proofs.Short.{data-small, known-way, bit-alone, still-alone, shift-alone, whole-alone}
use Rattle.traces.proofs.Running.{counted, ends-trace, ends-limit, ends-refused, goes_on, pin-on, data-pin}
use Rattle.traces.proofs.records.run_records.Goals as goal
use Rattle.traces.proofs.records.run_records.Goals.{else-loop-n-test, then-loop-n-test+then-trace-at}

pub returns-in-Err-clause-run : goal.returns-in-Err-clause-run
returns-in-Err-clause-run c =
    ends-refused c.loop-n.invariant.1 c.loop-n-test.true c.in-Err.ensures.turn (some-number c.in-Err.refusal)

pub loop-n-preserved-in-Other : goal.loop-n-preserved-in-Other
loop-n-preserved-in-Other c =
    (search rules, counted (omega arith) (goes_on c.loop-n.invariant.1 (widths _ c.args.device.wide) c.if-trace-at.false c.loop-n-test.true c.in-Ok.ensures.turn refl))

pub loop-n-preserved-in-Data : goal.loop-n-preserved-in-Data
loop-n-preserved-in-Data c =
    let row = c.args.device.row in
    let s = c.loop-n.t in
    let kept = c.loop-n.invariant in
    let known = known-way row s _ _ _ c.in-Data.is c.sorted-way.ensures in
    let answered = c.byte.ensures ∙ ap answer_byte c.answer.ensures in
    let moved = data-alone row s _ c.quick_data-t.ensures in
    (kept.0, pin-on kept.1 (widths row c.args.device.wide) c.if-trace-at.false c.loop-n-test.true known.1 (data-small _) (data-pin _) refl known.0 moved answered)

pub loop-n-preserved-in-Bit : goal.loop-n-preserved-in-Bit
loop-n-preserved-in-Bit c =
    let row = c.args.device.row in
    let s = c.loop-n.t in
    let kept = c.loop-n.invariant in
    let known = known-way row s _ _ _ c.in-Bit.is c.sorted-way.ensures in
    let answered = c.byte-in-Bit.ensures ∙ ap answer_byte c.answer-in-Bit.ensures in
    let moved = bit-alone row s known.2.2 c.quick_bit-t.ensures in
    (kept.0, pin-on kept.1 (widths row c.args.device.wide) c.if-trace-at.false c.loop-n-test.true known.1 (omega arith) refl refl known.0 moved answered)

pub loop-n-preserved-in-Still : goal.loop-n-preserved-in-Still
loop-n-preserved-in-Still c =
    let row = c.args.device.row in
    let s = c.loop-n.t in
    let kept = c.loop-n.invariant in
    let known = known-way row s _ _ _ c.in-Still.is c.sorted-way.ensures in
    let answered = c.byte-in-Still.ensures ∙ ap answer_byte c.answer-in-Still.ensures in
    let moved = still-alone row s known.2.0 known.2.1 c.quick_still-t.ensures in
    (kept.0, pin-on kept.1 (widths row c.args.device.wide) c.if-trace-at.false c.loop-n-test.true known.1 (omega arith) refl refl known.0 moved answered)

pub loop-n-preserved-in-Shift : goal.loop-n-preserved-in-Shift
loop-n-preserved-in-Shift c =
    let row = c.args.device.row in
    let s = c.loop-n.t in
    let kept = c.loop-n.invariant in
    let known = known-way row s _ _ _ c.in-Shift.is c.sorted-way.ensures in
    let answered = c.byte-in-Shift.ensures ∙ ap answer_byte c.answer-in-Shift.ensures in
    let moved = shift-alone row s known.2.0 known.2.1 known.2.2 known.2.3 c.quick_shift-t.ensures in
    (kept.0, pin-on kept.1 (widths row c.args.device.wide) c.if-trace-at.false c.loop-n-test.true known.1 (omega arith) refl refl known.0 moved answered)

pub loop-n-preserved : goal.loop-n-preserved
loop-n-preserved c =
    let row = c.args.device.row in
    let s = c.loop-n.t in
    let kept = c.loop-n.invariant in
    let known = known-way row s _ _ _ c.in-Whole.is c.sorted-way.ensures in
    let answered = c.byte-in-Whole.ensures ∙ ap answer_byte c.answer-in-Whole.ensures in
    let moved = whole-alone row s known.2.3 c.quick_whole-t.ensures in
    (kept.0, pin-on kept.1 (widths row c.args.device.wide) c.if-trace-at.false c.loop-n-test.true known.1 (omega arith) refl refl known.0 moved answered)

pub returns-clause-run : goal.returns-clause-run
returns-clause-run c =
    elim c.loop-n-test.branch [
      | else-loop-n-test w ↦ ends-limit c.loop-n.invariant.1 w.loop-n-test.false
      | then-loop-n-test+then-trace-at w ↦ ends-trace c.loop-n.invariant.1 w.if-trace-at.true
    ]
