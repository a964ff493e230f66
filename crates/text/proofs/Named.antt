-- The text of no bytes, put at any place: a law that no contract states, and that no proof cites any more, since the search goes this way by itself.
use Prim.Native.Nat.{ℕ}
use mathlib.Core.Path.{refl, sym}
use mathlib.Core.List.{List, [], append-nil}
use native.Mathlib.Omega.{arith}
use lib.ListN.{take}
use Rattle.text.specs.Put.{Put}

-- Nothing was put yet.
pub none : (out : List ℕ) (at : ℕ) → Put out at [] out at
none out at = record { place = omega arith; long = refl; stands = sym (append-nil (take at out)) }
