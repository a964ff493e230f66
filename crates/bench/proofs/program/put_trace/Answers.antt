-- `bench::program::put_trace` meets its contract.
use mathlib.Core.Path.{◌∙◌}
use native.Mathlib.Omega.{arith}
use lib.Seq.{length-take-le}
use Rattle.std.proofs.Common.{rules}
use Rattle.m95.proofs.Calling.{a-device, lent-room, status-small}
use Rattle.bench.proofs.Printing.{bench-ran}
use Rattle.bench.proofs.program.put_trace.Goals as goal

pub bench_run-ran-requires-clause-lent : goal.bench_run-ran-requires-clause-lent
bench_run-ran-requires-clause-lent c =
    let known = a-device c.args.device c.requires.le_device.0 (omega arith) in
    let counted = length-take-le _ _ (search rules) ∙ c.page_count-pages.ensures in
    lent-room _ _ c.device-known.ensures known _ _ _ _ (search rules) (search rules) (search rules) counted

pub put_run-requires : goal.put_run-requires
put_run-requires c =
    let ran = bench-ran c.args.device c.args.trace.now c.requires.le_device.0 c.requires.le_device.1 c.bench_run-ran.ensures.run in
    (omega (arith, ran.few, ran.inside, ran.long), omega (arith, ran.few, ran.inside), status-small _ _ ran.sound)
