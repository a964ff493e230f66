-- The theorem `refusals`, from the tables of the calls.
use mathlib.Core.List.{List, ◌++◌}
use Rattle.rules.specs.World.{Each, none, ◌and◌}
use Rattle.rules.specs.Refusals.{Refusals}
use Rattle.rules.proofs.PrepareLines.{preparing}
use Rattle.rules.proofs.EventLines.{events}
use Rattle.rules.proofs.RunLines.{runs}
use Rattle.rules.proofs.BlankLines.{blanks}
use Rattle.rules.proofs.ViewLines.{views}

-- Two tables as one.
both : {A : Type 0} {Says : A → Type 0} {xs ys : List A} → Each Says xs → Each Says ys → Each Says (xs ++ ys)
both none right = right
both (says and left) right = says and both left right

pub refusals : Refusals
refusals = both preparing (both events (both runs (both blanks views)))
