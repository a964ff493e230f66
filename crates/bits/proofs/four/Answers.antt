-- `bits::four` meets its contract.
use native.Mathlib.Omega.{arith}
use Rattle.bits.proofs.Masks.{join}
use Rattle.bits.proofs.four.Goals as goal

pub returns : goal.returns
returns c = join 16 32 c.args.low c.args.high c.requires.0 (omega (arith, c.requires.1))
