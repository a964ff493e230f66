-- What bytes that are a state have.
use Rattle.std.proofs.Common.{◌≡◌, ℕ, true, List, length, arith}
use Rattle.std.proofs.lemmas.Grind.{common_steps}
use Rattle.state_bytes.specs.StateBytes.{is_state}

-- Bytes that are a state are 36.
pub state-length : (b : List ℕ) → is_state b ≡ true → length b ≡ 36
unfolding is_state
state-length b h = grind (arith, common_steps)
