-- What a chip's file says beside its cells and its identification page. A file as long as the cells says nothing: all is as prepared.
-- Whether the device can have it stored, loading judges.
use Rattle.std.specs.Prelude.{ℕ, ◌+◌, ◌==◌, if◌then◌else◌, Result, Ok, Err}
use Rattle.rules.specs.declared.Row.{Row}
use Rattle.rules.specs.declared.Stored.{Stored}
use Rattle.rules.specs.Call.{stored_as}
use Rattle.player.specs.declared.contents.Fault.{Fault}

unfoldable pub said : Row → ℕ → Stored → Result Stored Fault
said row length stored =
    if length == row.cells then Ok (stored_as 0 0)
    else if length == row.cells + row.identification + 2 then Ok stored
    else Err Fault.Length
