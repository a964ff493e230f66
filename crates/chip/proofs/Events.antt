-- What each event does, one law for each way through the rules.
use Prim.Native.Nat.{ℕ}
use mathlib.Core.Path.{◌≡◌, refl, sym, ap, ◌∙◌}
use mathlib.Core.Bool.{Bool, true, false, not, ◌&&◌}
use mathlib.Core.List.{List}
use Rattle.rules.specs.declared.Row.{Row}
use Rattle.rules.specs.declared.Event.{Event}
use Rattle.rules.specs.declared.State.{State}
use Rattle.rules.specs.World.{World, world_of, with_pins, with_state}
use Rattle.rules.specs.Receive.{risen, risen_latch}
use Rattle.rules.specs.Send.{fallen}
use Rattle.rules.specs.Judge.{judged}
use Rattle.rules.specs.Cycle.{waited_state, waited}
use Rattle.rules.specs.Event.{pins_after, selected, deselected, decodes, react, settled, step}
use Rattle.chip.specs.Alone.{step_alone}

-- Chip Select.
module _ (row : Row) (s : State) {r : State} {high : Bool} where
  pub select-ends : {j d : State} → high ≡ true → (s.selection.selected && not s.pins.s) ≡ true → j ≡ judged row s → d ≡ deselected j
      → r ≡ settled (with_pins (pins_after (Event.Select true) d.pins) d) → r ≡ step_alone row (Event.Select high) s
  unfolding step react judged
  select-ends h e ej ed er = er ∙ rw (h, e, ed, ej)

  pub select-idle : high ≡ true → (s.selection.selected && not s.pins.s) ≡ false
      → r ≡ settled (with_pins (pins_after (Event.Select true) s.pins) s) → r ≡ step_alone row (Event.Select high) s
  unfolding step react
  select-idle h e er = er ∙ rw (h, e)

  pub select-begins : {t : State} → high ≡ false → s.pins.s ≡ true → t ≡ selected s
      → r ≡ settled (with_pins (pins_after (Event.Select false) t.pins) t) → r ≡ step_alone row (Event.Select high) s
  unfolding step react
  select-begins h e et er = er ∙ rw (h, e, et)

  pub select-low : high ≡ false → s.pins.s ≡ false → r ≡ settled (with_pins (pins_after (Event.Select false) s.pins) s) → r ≡ step_alone row (Event.Select high) s
  unfolding step react
  select-low h e er = er ∙ rw (h, e)

-- The clock.
module _ (row : Row) (s : State) (latch : List ℕ) {t r : State} {cells identification counts : List ℕ} {high d : Bool} (ed : d ≡ decodes s) where
  pub clock-up : {m : List ℕ} → high ≡ true → t ≡ risen row (d && not s.pins.c) s → m ≡ risen_latch row (d && not s.pins.c) s latch
      → r ≡ settled (with_pins (pins_after (Event.Clock true) t.pins) t) → world_of r cells identification m counts ≡ step row (Event.Clock high) (world_of s cells identification latch counts)
  unfolding step react risen
  clock-up h et em er = rw (h, er, em, et, ed)

  pub clock-down : high ≡ false → t ≡ fallen row (d && s.pins.c) s cells identification
      → r ≡ settled (with_pins (pins_after (Event.Clock false) t.pins) t) → world_of r cells identification latch counts ≡ step row (Event.Clock high) (world_of s cells identification latch counts)
  unfolding step react fallen
  clock-down h et er = rw (h, er, et, ed)

-- Events that touch no list.
module _ (row : Row) (s : State) {r : State} {cells identification latch counts : List ℕ} where
  beside : (e : Event) → (step row e (world_of s cells identification latch counts) ≡ with_state (step_alone row e s) (world_of s cells identification latch counts)) → r ≡ step_alone row e s
      → world_of r cells identification latch counts ≡ step row e (world_of s cells identification latch counts)
  beside e f er = ap (λ (t : State). world_of t cells identification latch counts) er ∙ sym f

  pub data-alone : (b : Bool) → r ≡ step_alone row (Event.Data b) s → world_of r cells identification latch counts ≡ step row (Event.Data b) (world_of s cells identification latch counts)
  unfolding step react
  data-alone b er = beside (Event.Data b) refl er

  pub protect-alone : (b : Bool) → r ≡ step_alone row (Event.Protect b) s → world_of r cells identification latch counts ≡ step row (Event.Protect b) (world_of s cells identification latch counts)
  unfolding step react
  protect-alone true er = beside (Event.Protect true) refl er
  protect-alone false er = beside (Event.Protect false) refl er

pub waits : (row : Row) (w : World) (n : ℕ) {u : World} {r : State} → u ≡ waited row n w → r ≡ settled u.state → with_state r u ≡ step row (Event.Wait n) w
unfolding step react waited waited_state
waits row w n eu er = rw (er, eu)

-- Which arm an event is taken by.
pub step_by : (row : Row) (w : World) {x : World} {e f : Event} → e ≡ f → x ≡ step row f w → x ≡ step row e w
step_by row w h k = k ∙ ap (λ (g : Event). step row g w) (sym h)
