-- W-206 as statements: what S's rise does with a command that it finds held, for any row, by what its column says. `HeldLines` has examples.
use Rattle.std.specs.Prelude.{◌≡◌}
use Rattle.rules.specs.World.{Bool, true, false, Row, Instruction, Event, World, with_pins, with_selection, with_state}
use Rattle.rules.specs.Instruction.{facts}
use Rattle.rules.specs.Judge.{is_complete}
use Rattle.rules.specs.Event.{pins_after, deselected, next}

-- The commands that a row can trigger in hold, by name.
pub data Writes : Instruction → Type 0 where
  write : Writes Instruction.Write
  wrid : Writes Instruction.Wrid
  lid : Writes Instruction.Lid

-- The same world out of hold, with HOLD at a level: high, as it then is while C is low, or low, as it may be while C is high.
abbrev pub released : Bool → World → World
released b w =
    let s = w.state in
    with_state
    (with_pins (pins_after (Event.Hold b) s.pins)
    (with_selection s.place.address (record { selected = s.selection.selected; held = false; seen = s.selection.seen }) s.input s.command s.output s))
    w

-- The selection is over, S is high, and all else is as it was.
abbrev pub ended : World → World
ended w = with_state (with_pins (pins_after (Event.Select true) w.state.pins) (deselected w.state)) w

-- The theorem `held-write-starts`: where the row triggers, S's rise makes of a write, complete or not, what it makes of the same write out of
-- hold, whatever HOLD's level, which is then put back; and the cycle of a complete one runs, for the whole write time.
abbrev pub HeldWriteStarts : Type 0
HeldWriteStarts =
    (row : Row) (w : World) → row.triggers ≡ true → w.state.selection.selected ≡ true → w.state.pins.s ≡ false
    → Writes w.state.command.instruction →
    let r = next row (Event.Select true) w in
    ((b : Bool) → r ≡ next row (Event.Hold w.state.pins.hold) (next row (Event.Select true) (released b w)))
    × (is_complete row w.state ≡ true → (r.state.cycle.kind ≡ (facts w.state.command.instruction).starts) × (r.state.place.left ≡ row.time))

-- The theorem `held-others-dropped`: in hold everything else is dropped, be it another command, a write that is not complete, or whatever a row
-- that does not trigger is told.
abbrev pub HeldOthersDropped : Type 0
HeldOthersDropped =
    (row : Row) (w : World) → w.state.selection.selected ≡ true → w.state.pins.s ≡ false → w.state.selection.held ≡ true
    → (row.triggers ≡ true → Writes w.state.command.instruction → is_complete row w.state ≡ true → ⊥)
    → next row (Event.Select true) w ≡ ended w
