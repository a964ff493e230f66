-- What S's rise looks at, and what it leaves of a state whose command is not done.
use mathlib.Core.Path.{◌≡◌, ap}
use mathlib.Core.Bool.{true, false, not, ◌&&◌}
use Rattle.rules.specs.World.{Row, Kind, Event, State, World, with_pins, with_state}
use Rattle.rules.specs.Judge.{allows, is_done, judged}
use Rattle.rules.specs.Event.{pins_after, deselected, settled, react, step, next}
use Rattle.rules.proofs.Choice.{if_yes, and_both}

-- Whether a command has what it asks for hangs on what came in, on the registers, on W, and on the address.
pub allows-alike : (row : Row) (s t : State) → s.input ≡ t.input → s.registers ≡ t.registers → s.selection.seen ≡ t.selection.seen
    → s.place.address ≡ t.place.address → (k : Kind) → allows row s k ≡ allows row t k
unfolding allows
allows-alike row s t i r w a Kind.None = rw i
allows-alike row s t i r w a Kind.Array = rw (i, r, w, a)
allows-alike row s t i r w a Kind.Identification = rw (i, r, w)
allows-alike row s t i r w a Kind.Status = rw (i, r, w)
allows-alike row s t i r w a Kind.Lock = rw (i, r, w)

pub judged-none : (row : Row) (s : State) → is_done row s ≡ false → judged row s ≡ s
unfolding judged
judged-none row s e = rw e

-- S rises in a selection: what is judged is then deselected.
pub rises : (row : Row) (w : World) → w.state.selection.selected ≡ true → w.state.pins.s ≡ false
    → next row (Event.Select true) w ≡ with_state (with_pins (pins_after (Event.Select true) w.state.pins) (deselected (judged row w.state))) w
unfolding next step react
rises row w on low =
    let p = pins_after (Event.Select true) w.state.pins in
    let ends = w.state.selection.selected && not w.state.pins.s in
    ap (λ (s : State). with_state (settled (with_pins p s)) w)
    (if_yes ends (deselected (judged row w.state)) w.state (and_both w.state.selection.selected (not w.state.pins.s) on (ap not low)))
