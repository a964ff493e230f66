-- 01, "Events": each event, the hold rule after it, and what Q answers.
use Rattle.std.specs.Prelude.{◌&&◌, ◌||◌, ◌∷◌, if◌then◌else◌}
use Rattle.rules.specs.World.{ℕ, Bool, true, false, not}
use Rattle.rules.specs.World.{List, [], eqb, Row, Instruction, Level, Event, Pins, State, World, with_pins, with_selection, with_stored, with_state, with_latch}
use Rattle.rules.specs.Instruction.{changes, busy}
use Rattle.rules.specs.Receive.{risen, risen_latch}
use Rattle.rules.specs.Send.{fallen}
use Rattle.rules.specs.Judge.{judged}
use Rattle.rules.specs.Cycle.{is_miscounted, ends, waited}

-- An event sets one pin to a level, or none.
abbrev pub pins_after : Event → Pins → Pins
pins_after (Event.Clock b) p = record { c = b; d = p.d; s = p.s; hold = p.hold; w = p.w }
pins_after (Event.Data b) p = record { c = p.c; d = b; s = p.s; hold = p.hold; w = p.w }
pins_after (Event.Select b) p = record { c = p.c; d = p.d; s = b; hold = p.hold; w = p.w }
pins_after (Event.Hold b) p = record { c = p.c; d = p.d; s = p.s; hold = b; w = p.w }
pins_after (Event.Protect b) p = record { c = p.c; d = p.d; s = p.s; hold = p.hold; w = b }
pins_after (Event.Wait n) p = p
pins_after Event.Power p = p

-- A selection begins: nothing has come in yet, and W counts as seen low if it is low now.
abbrev pub selected : State → State
selected s =
    with_selection 0 (record { selected = true; held = false; seen = not s.pins.w }) (record { bits = 0; value = 0; bytes = 0; last = 0 })
    (record { instruction = Instruction.Unknown; away = false }) (record { sending = 0; q = Level.Z }) s

-- Not selected, not held, nothing received, Q at Z.
abbrev pub deselected : State → State
deselected s =
    with_selection s.place.address (record { selected = false; held = false; seen = s.selection.seen })
    (record { bits = 0; value = 0; bytes = 0; last = s.input.last }) s.command (record { sending = s.output.sending; q = Level.Z }) s

-- W has gone low in a selection: it was seen low, whatever comes after.
abbrev pub saw_low : State → State
saw_low s =
    with_selection s.place.address (record { selected = s.selection.selected; held = s.selection.held; seen = s.selection.selected || s.selection.seen })
    s.input s.command s.output s

-- WEL 0, and not selected.
abbrev pub powered : State → State
powered s =
    deselected
    (with_stored (record { status = s.registers.status; wel = false; locked = s.registers.locked }) s.cycle s.place.start s.place.left s)

-- An edge of C counts while selected and not held: it is decoded.
abbrev pub decodes : State → Bool
decodes s = s.selection.selected && not s.selection.held

-- What an event does besides setting its pin. Setting the level that a pin has is no edge.
unfoldable pub react : Row → Event → World → World
react row (Event.Clock true) w =
    let decoded = decodes w.state && not w.state.pins.c in
    with_latch (risen_latch row decoded w.state w.latch) (with_state (risen row decoded w.state) w)
react row (Event.Clock false) w = with_state (fallen row (decodes w.state && w.state.pins.c) w.state w.cells w.identification) w
react row (Event.Data b) w = w
react row (Event.Select true) w = with_state (if w.state.selection.selected && not w.state.pins.s then deselected (judged row w.state) else w.state) w
react row (Event.Select false) w = with_state (if w.state.pins.s then selected w.state else w.state) w
react row (Event.Hold b) w = w
react row (Event.Protect true) w = w
react row (Event.Protect false) w = with_state (saw_low w.state) w
react row (Event.Wait n) w = waited row n w
react row Event.Power w = with_state (powered w.state) w

-- Hold, looked at when an event is over: in a selection HOLD decides while C is low, and nothing changes while C is high.
abbrev pub settled : State → State
settled s =
    let x = s.selection in
    with_selection s.place.address
    (record { selected = x.selected; held = if x.selected && not s.pins.c then not s.pins.hold else x.held; seen = x.seen })
    s.input s.command s.output s

unfoldable pub step : Row → Event → World → World
step row e w = let r = react row e w in with_state (settled (with_pins (pins_after e w.state.pins) r.state)) r

-- Q is Z while held, and the kept bit comes back.
abbrev pub answer : State → Level
answer s = if s.selection.held then Level.Z else s.output.q

-- What an event is refused with, or 0, asked of the world before it: 11 for power during a cycle; 15, with W-204, for a wait that would end an
-- array cycle on a page whose count is wrong. Refused, it changes nothing, and no time passes.
abbrev pub refusal : Row → Event → World → ℕ
refusal row (Event.Clock b) w = 0
refusal row (Event.Data b) w = 0
refusal row (Event.Select b) w = 0
refusal row (Event.Hold b) w = 0
refusal row (Event.Protect b) w = 0
refusal row (Event.Wait n) w =
    let s = w.state in
    if ends n s && (changes s.cycle.kind).cells && is_miscounted row s.place.start w.cells w.counts then 15 else 0
refusal row Event.Power w = if busy w.state then 11 else 0

-- The world after an event, refused or not, and after any number of them.
unfoldable pub next : Row → Event → World → World
next row e w = if eqb (refusal row e w) 0 then step row e w else w

abbrev pub after : Row → List Event → World → World
after row [] w = w
after row (e ∷ es) w = after row es (next row e w)
