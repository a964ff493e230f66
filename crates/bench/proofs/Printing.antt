-- What is known of the bench's run, and how long a text is at most.
use Prim.Native.Nat.{ℕ, ◌≤◌}
use mathlib.Core.Path.{◌≡◌, sym, subst}
use mathlib.Core.List.{List}
use native.Mathlib.Omega.{arith}
use lib.ListN.{length, length-take}
use Rattle.rules.specs.Device.{row_of}
use Rattle.rules.specs.Trace.{Progress}
use Rattle.rules.specs.Program.{bench_run}
use Rattle.rules.proofs.Program.{bench-course}
use Rattle.rules.proofs.Runs.{Course}
use Rattle.m95.proofs.Calling.{a-device}
use Rattle.text.proofs.Putting.{lines-short, ending-short}

pub bench-ran : (device : ℕ) (trace : List ℕ) {p : Progress} → 1 ≤ device → device ≤ 2 → p ≡ bench_run device trace → Course (row_of device) trace (length trace) (length trace) p
bench-ran device trace a b e =
    subst (Course (row_of device) trace (length trace) (length trace)) (sym e) (bench-course device trace (a-device device a (omega arith)))

pub ruleset lengths = (lines-short, ending-short, length-take)
