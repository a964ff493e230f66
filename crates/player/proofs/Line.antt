-- How long the parts of play's last line are at most.
use Rattle.std.proofs.Common.{◌≡◌, ℕ, ◌≤◌, List, length, ap, arith}
use Rattle.rules.specs.Program.{ending, hexadecimal}
use Rattle.text.proofs.Putting.{decimal-short, ending-short}

-- The ending of a run, with a status byte in two digits.
pub ending-brief : {shown : List ℕ} (number status : ℕ) → shown ≡ hexadecimal status → length (ending number shown) ≤ 27
ending-brief {shown} number status e = omega (arith, ending-short number shown, ap (λ (l : List ℕ). length l) e)

pub ruleset parts = (ending-brief, decimal-short)
