-- The test of what has been received, with too many bits, and its limit as a shift gives it: laws that the documents have named, and that no proof
-- cites any more, since the search goes these ways by itself.
use Prim.Native.Nat.{ℕ, ◌*◌, ◌%◌, ◌^◌, ◌≤◌, ◌<◌}
use mathlib.Core.Path.{◌≡◌, ◌∙◌}
use mathlib.Core.Bool.{false}
use native.Mathlib.Nat.{mod-eq_of_lt, one-mul}
use native.Mathlib.Omega.{arith}
use lib.Pow.{pow_mono}
use borrow.Author.Tests.{lt-leb}
use Rattle.rules.specs.declared.Row.{Row}
use Rattle.rules.specs.declared.State.{State}
use Rattle.rules.specs.Sound.{all, received_clauses}

module _ (row : Row) (s : State) where
  pub received_none : 7 < s.input.bits → false ≡ all (received_clauses row s)
  received_none h = rw (lt-leb s.input.bits 7 h)

pub one_shifted : (b : ℕ) → b ≤ 7 → 1 * 2 ^ b % 18446744073709551616 ≡ 2 ^ b
one_shifted b h = let small : 2 ^ b ≤ 2 ^ 7 = pow_mono h in mod-eq_of_lt (omega arith) ∙ one-mul (2 ^ b)
