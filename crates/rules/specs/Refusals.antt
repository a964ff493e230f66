-- 01, "Numbers given back", by example: all the tables of calls together.
use Rattle.std.specs.Prelude.{◌++◌}
use Rattle.rules.specs.Lines.{Given}
use Rattle.rules.specs.PrepareLines.{preparing}
use Rattle.rules.specs.EventLines.{events}
use Rattle.rules.specs.RunLines.{runs}
use Rattle.rules.specs.BlankLines.{blanks}
use Rattle.rules.specs.ViewLines.{views}

-- The theorem `refusals`: each call gives its whole outcome as expected.
abbrev pub Refusals : Type 0
Refusals = Given (preparing ++ events ++ runs ++ blanks ++ views)
