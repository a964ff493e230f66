-- `bits::blocks` meets its contract.
use Prim.Native.Nat.{◌/◌}
use mathlib.Core.Path.{refl}
use Rattle.bits.proofs.Masks.{within}
use Rattle.bits.proofs.blocks.Goals as goal

pub returns : goal.returns
returns c = within 2 (c.args.status / 4) 4 refl
