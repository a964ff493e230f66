-- What holds from the first piece of a trace to the last: of the chip, that its world is not refused, and its counts agree with its cells;
-- of the run, that its bytes are within the buffer, and no record was refused for a count.
use Rattle.std.specs.Prelude.{◌≡◌, ◌≢◌, ◌≤◌, ℕ}
use Rattle.rules.specs.World.{World}
use Rattle.rules.specs.Device.{row_of}
use Rattle.rules.specs.Call.{world_refusal}
use Rattle.rules.specs.Counts.{Agreeing}
use Rattle.rules.specs.Refused.{number_of}
use Rattle.player.specs.declared.pieces.Played.{Played}

pub record Playable (device : ℕ) (w : World) : Type 0 where
  pub taken : world_refusal device w ≡ 0
  pub agrees : Agreeing (row_of device) w

abbrev pub Standing : ℕ → Played → Type 0
Standing room p = (p.filled ≤ room) × (number_of p.ended ≢ 15)
