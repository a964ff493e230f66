-- A pin event that is not refused has a number of at most 9: a law that no contract states, and that no proof cites any more, since the search goes
-- this way by itself.
use Prim.Native.Nat.{ℕ, ◌≤◌}
use mathlib.Core.Path.{◌≡◌}
use native.Mathlib.Omega.{arith}
use lib.Dec.{ltb}
use borrow.Author.Tests.{ltb-false}
use Rattle.rules.proofs.Choice.{if-elim}
use Rattle.m95_c.specs.Left.{event_refusal}

module _ (kind value : ℕ) where
  pub pin-small : event_refusal kind value ≡ 0 → kind ≡ 1 → value ≤ 9
  unfolding event_refusal
  pin-small e h =
      if-elim (λ (x : ℕ). x ≡ 0 → value ≤ 9) (ltb 9 value) (λ _ k. absurd (omega (arith, k))) (λ k _. ltb-false 9 value k) (rw (h) at e)
