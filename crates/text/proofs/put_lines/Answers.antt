-- `text::put_lines` meets its contract. A line's number is handed to `omega`, so that its value counts and not its spelling.
use native.Mathlib.Omega.{arith}
use lib.ListN.{take}
use lib.Seq.{length-take-le}
use Rattle.text.proofs.Putting.{lines-short, lines-put}
use Rattle.text.proofs.put_lines.Goals as goal

pub put_line-place-requires : goal.put_line-place-requires
put_line-place-requires c =
    let i = c.loop-i.i in
    let answers = c.args.answers.now in
    omega (arith, c.requires, c.loop-i.invariant.place, lines-short 1 (take i answers), length-take-le i answers c.loop-i.auto.i-end)

pub loop-i-preserved : goal.loop-i-preserved
loop-i-preserved c =
    lines-put c.args.answers.now c.loop-i.i c.loop-i-test.true c.loop-i.invariant c.put_line-place.ensures (omega arith)
