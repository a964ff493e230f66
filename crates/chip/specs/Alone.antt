-- The state after an event that touches no list: the rules' step, with no lists lent.
use Rattle.std.specs.Prelude.{[]}
use Rattle.rules.specs.declared.Row.{Row}
use Rattle.rules.specs.declared.Event.{Event}
use Rattle.rules.specs.declared.State.{State}
use Rattle.rules.specs.World.{world_of}
use Rattle.rules.specs.Event.{step}

abbrev pub step_alone : Row → Event → State → State
step_alone row e s = (step row e (world_of s [] [] [] [])).state
