-- The theorem `printed`: a law for each line, by computation, and the whole table from them.
use mathlib.Core.Path.{refl}
use Rattle.rules.specs.World.{none, ◌and◌}
use Rattle.rules.specs.Program as spec
use Rattle.rules.proofs.Opened.{calls}

printed_two_records : spec.Prints spec.printed_two_records
unfolding calls spec.decimal spec.bench_run spec.run_text spec.bench_text
printed_two_records = refl

printed_then_refused : spec.Prints spec.printed_then_refused
unfolding calls spec.decimal spec.bench_run spec.run_text spec.bench_text
printed_then_refused = refl

printed_no_record : spec.Prints spec.printed_no_record
unfolding calls spec.decimal spec.bench_run spec.run_text spec.bench_text
printed_no_record = refl

printed_too_long : spec.Prints spec.printed_too_long
unfolding calls spec.decimal spec.bench_run spec.run_text spec.bench_text
printed_too_long = refl

printed_device_four : spec.Prints spec.printed_device_four
unfolding calls spec.decimal spec.bench_run spec.run_text spec.bench_text
printed_device_four = refl

printed_levels : spec.Prints spec.printed_levels
unfolding calls spec.decimal spec.bench_run spec.run_text spec.bench_text
printed_levels = refl

pub printed : spec.Printed
printed = printed_two_records and printed_then_refused and printed_no_record and printed_too_long and printed_device_four and printed_levels and none
