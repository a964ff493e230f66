-- What is stored, out and in again: a chip loaded with what another has stored is that other with its power off and on.
use Rattle.std.specs.Prelude.{◌≡◌}
use Rattle.rules.specs.World.{ℕ, false, List, Event, Stored, World, with_state}
use Rattle.rules.specs.Device.{row_of, prepared_state}
use Rattle.rules.specs.Instruction.{busy}
use Rattle.rules.specs.Event.{next}
use Rattle.rules.specs.Call.{world_refusal, stored_in, load_outcome}
use Rattle.rules.specs.Selections.{contents, sights}

-- The theorem `given_back`: what loading takes can be read back as it was handed in.
abbrev pub GivenBack : Type 0
GivenBack = (device : ℕ) (x : Stored) → (load_outcome device x).number ≡ 0 → stored_in (load_outcome device x).state ≡ x

-- The chip in the same cells, identification page and latch, loaded with what a world has stored.
abbrev pub reloaded : ℕ → World → World
reloaded device w = with_state (load_outcome device (stored_in w.state)).state w

-- Two worlds that nobody can tell apart: by what they hold, or by any events that follow.
pub record Indistinct (device : ℕ) (v w : World) : Type 0 where
  pub holds : contents v ≡ contents w
  pub events : (later : List Event) → sights (row_of device) later v ≡ sights (row_of device) later w

-- What it has stored is never refused, and the calls take the chip that is loaded with it. Power leaves that chip as it is; and where no cycle
-- runs and the pins are at rest, nobody can tell it from the first after its power was cycled.
pub record AsAfterPower (device : ℕ) (w : World) : Type 0 where
  pub unrefused : (load_outcome device (stored_in w.state)).number ≡ 0
  pub taken : world_refusal device (reloaded device w) ≡ 0
  pub rests : next (row_of device) Event.Power (reloaded device w) ≡ reloaded device w
  pub powered : busy w.state ≡ false → w.state.pins ≡ prepared_state.pins → Indistinct device (next (row_of device) Event.Power w) (reloaded device w)

-- The theorem `as-after-power`, of any world that the calls take.
abbrev pub LoadedAsAfterPower : Type 0
LoadedAsAfterPower = (device : ℕ) (w : World) → world_refusal device w ≡ 0 → AsAfterPower device w
