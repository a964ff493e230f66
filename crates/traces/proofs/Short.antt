-- The short ways: that a record which is sorted to one is what it seems, and that the way is the rules' step.
use Rattle.std.specs.Prelude.{if◌then◌else◌}
use Prim.Native.Nat.{ℕ, ◌+◌, ◌-◌, ◌*◌, ◌≤◌, min}
use mathlib.Core.Path.{◌≡◌, refl, sym, ap, ◌∙◌, subst}
use mathlib.Core.Bool.{Bool, true, false, not, ◌&&◌, ◌||◌, and-false}
use mathlib.Core.List.{List, []}
use native.Mathlib.Omega.{arith}
use lib.ListN.{get_or, length}
use lib.Dec.{ltb}
use borrow.Author.Tests.{eq-eqb, ne_eqb, le-ltb, not-true}
use Rattle.rules.specs.declared.Row.{Row}
use Rattle.rules.specs.declared.Selection.{Selection}
use Rattle.rules.specs.declared.Input.{Input}
use Rattle.rules.specs.declared.Output.{Output}
use Rattle.rules.specs.declared.State.{State}
use Rattle.rules.specs.declared.Event.{Event}
use Rattle.rules.specs.World.{World, number, with_pins, with_selection, with_state, world_of}
use Rattle.rules.specs.Receive.{is_code, is_address, is_last, is_latched, address_after, latch_after, input_after, value, is_byte, risen, risen_latch}
use Rattle.rules.specs.Send.{going, source_of, is_sending, shown_address, output_of, output_after, fallen}
use Rattle.rules.specs.Event.{pins_after, decodes, react, step, refusal}
use Rattle.rules.specs.Trace.{pin_event, event_at, record_refusal}
use Rattle.rules.proofs.Choice.{if-elim, if_no, and_left, and_right, and_both, clash}
use Rattle.chip.specs.Alone.{step_alone}
use Rattle.traces.specs.declared.quick.Usual.{Usual}
use Rattle.traces.specs.Quick.{IsPin, only_counts, Sorted}

pub data-small : (v : Bool) → 2 + number v ≤ 9
data-small true = omega arith
data-small false = omega arith

-- A byte that only counts is nothing else.
counts-only : (row : Row) (s : State) → only_counts row s ≡ true → (is_code s ≡ false) × (is_last row s ≡ false) × (is_address row s ≡ false) × (is_latched row s ≡ false)
counts-only row s h = apart (is_code s) (is_last row s) (is_address row s) (is_latched row s) h
  where
    apart : (a b c d : Bool) → not (a || b || c || d) ≡ true → (a ≡ false) × (b ≡ false) × (c ≡ false) × (d ≡ false)
    apart false false false false e = (refl, refl, refl, refl)
    apart true b c d e = clash (sym e)
    apart false true c d e = clash (sym e)
    apart false false true d e = clash (sym e)
    apart false false false true e = clash (sym e)

-- A state with a pin set and the selection's parts given; the others are kept.
abbrev held_as : Bool → State → Selection
held_as held s = record { selected = s.selection.selected; held = held; seen = s.selection.seen }

abbrev after : Event → Selection → Input → Output → State → State
after e x i o s = with_pins (pins_after e s.pins) (with_selection s.place.address x i s.command o s)

-- The ways.
module _ (row : Row) (s : State) where
  pub data-way : (b : Bool) → (s.selection.selected ≡ true → s.pins.c ≡ false → s.selection.held ≡ not s.pins.hold)
      → with_pins (pins_after (Event.Data b) s.pins) s ≡ step_alone row (Event.Data b) s
  unfolding step react
  data-way b h =
      let on = s.selection.selected in
      let low = not s.pins.c in
      if-elim (λ (held : Bool). with_pins (pins_after (Event.Data b) s.pins) s ≡ after (Event.Data b) (held_as held s) s.input s.output s)
      (on && low)
      (λ e. rw (← h (and_left on low e) (not-true s.pins.c (and_right on low e))))
      (λ _. refl)

  -- C is high then, so that HOLD changes nothing.
  held_kept : (i : Input) (on : Bool)
      → after (Event.Clock true) s.selection i s.output s ≡ after (Event.Clock true) (held_as (if on && false then not s.pins.hold else s.selection.held) s) i s.output s
  held_kept i true = refl
  held_kept i false = refl

  pub bit-way : {v : ℕ} → decodes s ≡ true → s.pins.c ≡ false → (s.input.bits ≡ 7 → ⊥) → v ≡ s.input.value * 2 + number s.pins.d
      → after (Event.Clock true) s.selection (record { bits = s.input.bits + 1; value = v; bytes = s.input.bytes; last = s.input.last }) s.output s
      ≡ step_alone row (Event.Clock true) s
  unfolding step react risen
  bit-way d c z e =
      let more : Input = record { bits = s.input.bits + 1; value = s.input.value * 2 + number s.pins.d; bytes = s.input.bytes; last = s.input.last } in
      rw (d, c, ne_eqb s.input.bits 7 z, e) (held_kept more s.selection.selected)

  pub whole-way : {i : Input} → decodes s ≡ true → s.pins.c ≡ false → s.input.bits ≡ 7 → only_counts row s ≡ true → i ≡ input_after (value s) s.input
      → after (Event.Clock true) s.selection i s.output s ≡ step_alone row (Event.Clock true) s
  unfolding step react risen address_after
  whole-way d c z p e =
      let none = counts-only row s p in
      let more : Input = record { bits = 0; value = 0; bytes = min (s.input.bytes + 1) 6; last = value s } in
      rw (e, d, c, eq-eqb s.input.bits 7 z, none.0, none.1, none.2, none.3) (held_kept more s.selection.selected)

  with-clock : (a b x : Bool) → s.pins.c ≡ true → (a && b) ≡ x → (a && s.pins.c && b) ≡ x
  with-clock a b x c h = go s.pins.c c
    where
      go : (k : Bool) → k ≡ true → (a && k && b) ≡ x
      go true e = left a h
        where
          left : (a : Bool) → (a && b) ≡ x → (a && true && b) ≡ x
          left true g = g
          left false g = g
      go false e = clash (sym e)

  held-eq : (on h held : Bool) → (on && h || not on && held) ≡ (if on && true then h else held)
  held-eq true true held = refl
  held-eq true false held = refl
  held-eq false h held = refl

  pub still-way : (w : World) → s.pins.c ≡ true → (decodes s && is_sending row s) ≡ false
      → after (Event.Clock false) (held_as (s.selection.selected && not s.pins.hold || not s.selection.selected && s.selection.held) s) s.input s.output s
      ≡ (step row (Event.Clock false) (with_state s w)).state
  unfolding step react fallen
  still-way w c h =
      let f = with-clock (decodes s) (is_sending row s) false c h in
      let held : Bool → State = λ (x : Bool). after (Event.Clock false) (held_as x s) s.input s.output s in
      ap held (held-eq s.selection.selected (not s.pins.hold) s.selection.held) ∙ rw f

  pub shift-way : (w : World) {o : Output} → s.pins.c ≡ true → (decodes s && is_sending row s) ≡ true → (s.input.bits ≡ 0 → ⊥)
      → (going row (source_of s) s.place.address).past ≡ false → o ≡ output_of s.output.sending s.input.bits
      → after (Event.Clock false) (held_as (not s.pins.hold) s) s.input o s ≡ (step row (Event.Clock false) (with_state s w)).state
  unfolding step react fallen shown_address output_after
  shift-way w c h z p eo =
      let f = with-clock (decodes s) (is_sending row s) true c h in
      let on : s.selection.selected ≡ true = and_left s.selection.selected (not s.selection.held) (and_left (decodes s) (is_sending row s) h) in
      let k : (s.selection.selected && true) ≡ true = and_both s.selection.selected true on refl in
      rw (eo, f, ne_eqb s.input.bits 0 z, p, k)

-- They touch no list.
module _ (row : Row) (s : State) {r : State} {cells identification latch counts : List ℕ} where
  pub bit-alone : (s.input.bits ≡ 7 → ⊥) → r ≡ step_alone row (Event.Clock true) s
      → world_of r cells identification latch counts ≡ step row (Event.Clock true) (world_of s cells identification latch counts)
  unfolding step react risen_latch
  bit-alone z e =
      let d = decodes s && not s.pins.c in
      let none : is_byte d s ≡ false = rw (ne_eqb s.input.bits 7 z) (and-false d) in
      ap (λ (x : State). world_of x cells identification latch counts) e
      ∙ ap (λ (l : List ℕ). world_of (step_alone row (Event.Clock true) s) cells identification l counts) (sym (if_no (is_byte d s) (latch_after row (value s) s latch) latch none))

  pub whole-alone : only_counts row s ≡ true → r ≡ step_alone row (Event.Clock true) s
      → world_of r cells identification latch counts ≡ step row (Event.Clock true) (world_of s cells identification latch counts)
  unfolding step react risen_latch latch_after
  whole-alone p e =
      let d = decodes s && not s.pins.c in
      let none = counts-only row s p in
      let kept : latch_after row (value s) s latch ≡ latch = rw (none.0, none.3) in
      ap (λ (x : State). world_of x cells identification latch counts) e
      ∙ ap (λ (l : List ℕ). world_of (step_alone row (Event.Clock true) s) cells identification l counts) (sym (same (is_byte d s) kept))
    where
      same : (b : Bool) {x : List ℕ} → x ≡ latch → (if b then x else latch) ≡ latch
      same true h = h
      same false h = refl

  pub still-alone : s.pins.c ≡ true → (decodes s && is_sending row s) ≡ false → r ≡ step_alone row (Event.Clock false) s
      → world_of r cells identification latch counts ≡ step row (Event.Clock false) (world_of s cells identification latch counts)
  unfolding step react
  still-alone c h e =
      let here = still-way row s (world_of s cells identification latch counts) c h in
      ap (λ (x : State). world_of x cells identification latch counts) (e ∙ sym (still-way row s (world_of s [] [] [] []) c h) ∙ here)

  pub shift-alone : s.pins.c ≡ true → (decodes s && is_sending row s) ≡ true → (s.input.bits ≡ 0 → ⊥) → (going row (source_of s) s.place.address).past ≡ false
      → r ≡ step_alone row (Event.Clock false) s → world_of r cells identification latch counts ≡ step row (Event.Clock false) (world_of s cells identification latch counts)
  unfolding step react
  shift-alone c h z p e =
      let here = shift-way row s (world_of s cells identification latch counts) c h z p refl in
      ap (λ (x : State). world_of x cells identification latch counts) (e ∙ sym (shift-way row s (world_of s [] [] [] []) c h z p refl) ∙ here)

-- A whole pin record with room is done, and takes five bytes.
pub pin-done : (row : Row) {t : List ℕ} {at p : ℕ} (w : World) → IsPin t at p → p ≤ 9 → refusal row (pin_event p) w ≡ 0
    → (record_refusal row t at false w ≡ 0) × (pin_event p ≡ event_at t at)
unfolding record_refusal event_at
pin-done row {t} {at} {p} w h le e =
    let bad : ltb 9 (get_or t (at + 4) 0) ≡ false = le-ltb 9 (get_or t (at + 4) 0) (omega (arith, h.byte)) in
    let four : ltb (length t - at) 4 ≡ false = le-ltb (length t - at) 4 (omega (arith, h.whole)) in
    let five : ltb (length t - at) 5 ≡ false = le-ltb (length t - at) 5 h.whole in
    (rw (four, h.size, h.kind, five, bad, h.byte) e, rw (h.kind, h.byte))

-- What was sorted, once its way is known.
pub known-way : (row : Row) (s : State) (t : List ℕ) (at : ℕ) (room : Bool) {x y : Usual} → x ≡ y → Sorted row s t at room x → Sorted row s t at room y
known-way row s t at room e h = subst (Sorted row s t at room) e h
