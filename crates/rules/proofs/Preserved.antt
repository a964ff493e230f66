-- The theorem `preserved`: every event keeps a sound world sound, and its lists as long as they were.
use Prim.Native.Nat.{ℕ, ◌+◌, ◌*◌, ◌≤◌, ◌<◌}
use mathlib.Core.Path.{◌≡◌, refl, sym, ap, ◌∙◌}
use mathlib.Core.Bool.{Bool, true, false, not, ◌&&◌}
use mathlib.Core.List.{List, [], ◌∷◌}
use native.Mathlib.Omega.{arith}
use lib.ListN.{length, get_or, length-set}
use lib.Dec.{eqb, leb, lit<}
use borrow.Author.Tests.{not-false}
use Rattle.rules.specs.World.{Row, Kind, Event, Pins, Input, Command, State, World, number, with_pins, with_state}
use Rattle.rules.specs.Device.{Widths, has_identification, page_count}
use Rattle.rules.specs.Instruction.{facts, changes, busy}
use Rattle.rules.specs.Receive.{risen, risen_latch}
use Rattle.rules.specs.Send.{is_sending, fallen}
use Rattle.rules.specs.Judge.{storable, is_done, judged}
use Rattle.rules.specs.Cycle.{waited_state, waited}
use Rattle.rules.specs.Event.{pins_after, deselected, powered, decodes, react, settled, step, refusal, next, after}
use Rattle.rules.specs.Sound.{SoundInput, SoundPage, SoundCycle, Unsettled, Sound, Lent, Preserved}
use Rattle.rules.proofs.Choice.{if-elim, if-within, clash, and_right, and-rest, or_left, or_right, or_elim}
use Rattle.rules.proofs.Widths.{page-below}
use Rattle.rules.proofs.Storing.{begun-sound, written-long, left-sound}
use Rattle.rules.proofs.Received.{input-sound, address-inside, shown-inside, command-turned, command-named, latch-long, latch-marks}

-- The world after an event but for the hold rule.
abbrev pub unheld : Row → Event → World → World
unheld row e w = let r = react row e w in with_state (with_pins (pins_after e w.state.pins) r.state) r

-- A world with one event's pin set, and nothing else done.
abbrev pub pinned : Event → World → World
pinned e w = with_state (with_pins (pins_after e w.state.pins) w.state) w

-- The hold rule.
pub settled-sound : {row : Row} {w : World} → Unsettled row w → Sound row (with_state (settled w.state) w)
settled-sound h =
    record {
      unsettled =
          record {
            input = h.input;
            inside = h.inside;
            stored = h.stored;
            page = h.page;
            cycle = h.cycle;
            off = λ o. let f = h.off o in record { held = rw o f.held; bits = f.bits; bytes = f.bytes; z = f.z };
            low = h.low;
            saw = h.saw;
            turned = h.turned;
            marks = h.marks;
          };
      holds = λ on low. rw (on, low);
    }

-- Pins alone change.
pins-sound : {row : Row} {w : World} (p : Pins) → Unsettled row w → (w.state.selection.selected ≡ true → p.s ≡ false)
    → (w.state.selection.selected ≡ true → p.w ≡ false → w.state.selection.seen ≡ true) → Unsettled row (with_state (with_pins p w.state) w)
pins-sound p h low saw =
    record {
      input = h.input;
      inside = h.inside;
      stored = h.stored;
      page = h.page;
      cycle = h.cycle;
      off = h.off;
      low = low;
      saw = saw;
      turned = h.turned;
      marks = h.marks;
    }

-- C rises.
module _ {row : Row} (v : Widths row) (w : World) (h : Unsettled row w) (l : Lent row w) where
  rise-sound : Unsettled row (unheld row (Event.Clock true) w)
  unfolding react risen risen_latch
  rise-sound =
      let s = w.state in
      let b = s.input.value * 2 + number s.pins.d in
      let d = decodes s && not s.pins.c in
      let t = eqb s.input.bits 7 in
      record {
        input = if-elim SoundInput d (λ _. input-sound s.input s.pins.d h.input) (λ _. h.input);
        inside = if-elim (λ (a : ℕ). a < row.cells) (d && t) (λ _. address-inside v b s h.inside) (λ _. h.inside);
        stored = h.stored;
        page =
            record {
              lockable = h.page.lockable;
              instruction = if-elim (λ (c : Command). (facts c.instruction).identifies ≡ true → has_identification row ≡ true) (d && t)
                  (λ _. command-named row b s h.page.instruction) (λ _. h.page.instruction);
            };
        cycle = h.cycle;
        off = λ o. let f = h.off o in record { held = f.held; bits = rw o f.bits; bytes = rw o f.bytes; z = f.z };
        low = h.low;
        saw = h.saw;
        turned = λ run.
            if-within (λ (i : Input) (c : Command). (i.bytes ≡ 0 → ⊥) → (facts c.instruction).taken ≡ false → c.away ≡ true) d t
            (λ _ _ f. command-turned row b s (h.turned run) run f)
            (λ _. h.turned run)
            (h.turned run);
        marks = if-elim (λ (m : List ℕ). (i : ℕ) → get_or m (row.page + i) 0 ≤ 1) (d && t) (λ _. latch-marks v b w l.latch h.marks) (λ _. h.marks);
      }

  rise-lent : Lent row (unheld row (Event.Clock true) w)
  unfolding react risen risen_latch
  rise-lent =
      let s = w.state in
      record {
        cells = l.cells;
        identification = l.identification;
        latch =
            if-elim (λ (m : List ℕ). length m ≡ row.page + row.page) (decodes s && not s.pins.c && eqb s.input.bits 7)
            (λ _. latch-long v (s.input.value * 2 + number s.pins.d) w l.latch ∙ l.latch)
            (λ _. l.latch);
        counts = l.counts;
      }

  fall-sound : Unsettled row (unheld row (Event.Clock false) w)
  unfolding react fallen
  fall-sound =
      let s = w.state in
      record {
        input = h.input;
        inside = if-elim (λ (a : ℕ). a < row.cells) (decodes s && s.pins.c && is_sending row s) (λ _. shown-inside v s h.inside) (λ _. h.inside);
        stored = h.stored;
        page = h.page;
        cycle = h.cycle;
        off = λ o. let f = h.off o in record { held = f.held; bits = f.bits; bytes = f.bytes; z = rw o f.z };
        low = h.low;
        saw = h.saw;
        turned = h.turned;
        marks = h.marks;
      }

-- What a selection begins and ends with.
none-received : (last : ℕ) → SoundInput (record { bits = 0; value = 0; bytes = 0; last = last })
none-received last = record { few = omega arith; small = lit< tt; counted = omega arith }

-- Any state, once it is deselected, needs only what it stores to be sound.
pub deselected-sound : {row : Row} {w : World} (s : State) → Unsettled row w → s.place.address ≡ w.state.place.address
    → storable row s.registers.status ≡ s.registers.status → SoundPage row s.registers.locked s.command.instruction
    → SoundCycle row s.cycle.kind s.cycle.next s.place.start s.place.left
    → Unsettled row (with_state (deselected s) w)
deselected-sound {row} {w} s h same stored page cycle =
    record {
      input = none-received s.input.last;
      inside = rw same h.inside;
      stored = stored;
      page = page;
      cycle = cycle;
      off = λ _. record { held = refl; bits = refl; bytes = refl; z = refl };
      low = λ on. clash (sym on);
      saw = λ on. clash (sym on);
      turned = λ _ none. absurd (none refl);
      marks = h.marks;
    }

-- S falls or rises.
module _ {row : Row} (v : Widths row) (w : World) (h : Unsettled row w) where
  select-sound : (b : Bool) → Unsettled row (unheld row (Event.Select b) w)
  unfolding react judged
  select-sound true =
      let s = w.state in
      let k = (facts s.command.instruction).starts in
      let begins = is_done row s && (changes k).runs in
      if-elim (λ (x : State). Unsettled row (with_state (with_pins (pins_after (Event.Select true) s.pins) x) w)) (s.selection.selected && not s.pins.s)
      (λ _. deselected-sound {w = w} (with_pins (pins_after (Event.Select true) s.pins) (judged row s)) h refl h.stored h.page
      (begun-sound v w h begins k s.input.last (λ e. and_right (is_done row s) (changes k).runs e) refl))
      (λ e. pins-sound (pins_after (Event.Select true) s.pins) h
      (λ on. sym (not-false s.pins.s (and-rest s.selection.selected (not s.pins.s) e on)) ∙ h.low on)
      h.saw)
  select-sound false =
      let s = w.state in
      if-elim (λ (x : State). Unsettled row (with_state (with_pins (pins_after (Event.Select false) s.pins) x) w)) s.pins.s
      (λ _.
      record {
        input = none-received 0;
        inside = omega (arith, page-below v);
        stored = h.stored;
        page = record { lockable = h.page.lockable; instruction = λ e. clash (sym e) };
        cycle = h.cycle;
        off = λ o. clash o;
        low = λ _. refl;
        saw = λ _ e. ap not e;
        turned = λ _ none. absurd (none refl);
        marks = h.marks;
      })
      (λ _. pins-sound (pins_after (Event.Select false) s.pins) h (λ _. refl) h.saw)

-- W goes low.
protect-sound : {row : Row} {w : World} → Unsettled row w → Unsettled row (unheld row (Event.Protect false) w)
unfolding react
protect-sound {row} {w} h =
    record {
      input = h.input;
      inside = h.inside;
      stored = h.stored;
      page = h.page;
      cycle = h.cycle;
      off = λ o. let f = h.off o in record { held = f.held; bits = f.bits; bytes = f.bytes; z = f.z };
      low = h.low;
      saw = λ on _. or_left w.state.selection.selected w.state.selection.seen on;
      turned = h.turned;
      marks = h.marks;
    }

-- Time passes.
module _ (row : Row) (w : World) (n : ℕ) where
  ends : Bool
  ends = busy w.state && leb w.state.place.left n

  wait-sound : Unsettled row w → Unsettled row (unheld row (Event.Wait n) w)
  unfolding react waited_state waited ends
  wait-sound h =
      let s = w.state in
      record {
        input = h.input;
        inside = h.inside;
        stored = if-elim (λ (v : ℕ). storable row v ≡ v) (ends && (changes s.cycle.kind).status) (λ _. h.cycle.only) (λ _. h.stored);
        page =
            record {
              lockable =
                  or_elim s.registers.locked (ends && (changes s.cycle.kind).lock) h.page.lockable
                  (λ e. h.cycle.has_page (or_right (changes s.cycle.kind).identification (changes s.cycle.kind).lock (and_right ends (changes s.cycle.kind).lock e)));
              instruction = h.page.instruction;
            };
        cycle = left-sound w n ends (busy s) s.cycle.kind refl refl h.cycle;
        off = h.off;
        low = h.low;
        saw = h.saw;
        turned = if-elim (λ (k : Kind). (changes k).runs ≡ true → (s.input.bytes ≡ 0 → ⊥) → (facts s.command.instruction).taken ≡ false → s.command.away ≡ true) ends
            (λ _ e. clash (sym e)) (λ _ e. h.turned e);
        marks = h.marks;
      }

  wait-lent : Lent row w → Lent row (unheld row (Event.Wait n) w)
  unfolding react waited_state waited ends
  wait-lent l =
      let s = w.state in
      record {
        cells =
            if-elim (λ (m : List ℕ). length m ≡ row.cells) (ends && (changes s.cycle.kind).cells)
            (λ _. written-long row.page row.page w.latch s.place.start w.cells ∙ l.cells)
            (λ _. l.cells);
        identification =
            if-elim (λ (m : List ℕ). length m ≡ row.identification) (ends && (changes s.cycle.kind).identification)
            (λ _. written-long row.page row.page w.latch 0 w.identification ∙ l.identification)
            (λ _. l.identification);
        latch = l.latch;
        counts = if-elim (λ (m : List ℕ). length m ≡ page_count row) (ends && (changes s.cycle.kind).cells) (λ _. length-set w.counts _ _ ∙ l.counts) (λ _. l.counts);
      }

unheld-sound : {row : Row} → Widths row → (e : Event) (w : World) → Unsettled row w → Lent row w → Unsettled row (unheld row e w)
unfolding react
unheld-sound v (Event.Clock true) w h l = rise-sound v w h l
unheld-sound v (Event.Clock false) w h l = fall-sound v w h l
unheld-sound v (Event.Data b) w h l = pins-sound (pins_after (Event.Data b) w.state.pins) h h.low h.saw
unheld-sound v (Event.Select b) w h l = select-sound v w h b
unheld-sound v (Event.Hold b) w h l = pins-sound (pins_after (Event.Hold b) w.state.pins) h h.low h.saw
unheld-sound v (Event.Protect true) w h l = pins-sound (pins_after (Event.Protect true) w.state.pins) h h.low (λ _ e. clash e)
unheld-sound v (Event.Protect false) w h l = protect-sound h
unheld-sound v (Event.Wait n) w h l = wait-sound _ w n h
unheld-sound v Event.Power w h l = deselected-sound {w = w} (powered w.state) h refl h.stored h.page h.cycle

pub kept-lent : {row : Row} {w : World} (s : State) → Lent row w → Lent row (with_state s w)
kept-lent s l = record { cells = l.cells; identification = l.identification; latch = l.latch; counts = l.counts }

unheld-lent : {row : Row} → Widths row → (e : Event) (w : World) → Unsettled row w → Lent row w → Lent row (unheld row e w)
unfolding react fallen
unheld-lent v (Event.Clock true) w h l = rise-lent v w h l
unheld-lent v (Event.Clock false) w h l = kept-lent _ l
unheld-lent v (Event.Data b) w h l = kept-lent _ l
unheld-lent v (Event.Select true) w h l = kept-lent _ l
unheld-lent v (Event.Select false) w h l = kept-lent _ l
unheld-lent v (Event.Hold b) w h l = kept-lent _ l
unheld-lent v (Event.Protect true) w h l = kept-lent _ l
unheld-lent v (Event.Protect false) w h l = kept-lent _ l
unheld-lent v (Event.Wait n) w h l = wait-lent _ w n l
unheld-lent v Event.Power w h l = kept-lent _ l

pub preserved : Preserved
unfolding step
preserved row v e w h l =
    (settled-sound (unheld-sound v e w h.unsettled l), kept-lent _ (unheld-lent v e w h.unsettled l))

-- Whatever an event does or is refused with, a sound world stays sound; and so through a run.
module _ {row : Row} (v : Widths row) where
  pub next-sound : (e : Event) (w : World) → Sound row w → Lent row w → Sound row (next row e w) × Lent row (next row e w)
  unfolding next
  next-sound e w k l = if-elim (λ (x : World). Sound row x × Lent row x) (eqb (refusal row e w) 0) (λ _. preserved row v e w k l) (λ _. (k, l))

  pub after-sound : (es : List Event) (w : World) → Sound row w → Lent row w → Sound row (after row es w) × Lent row (after row es w)
  after-sound [] w k l = (k, l)
  after-sound (e ∷ es) w k l = let n = next-sound e w k l in after-sound es (next row e w) n.0 n.1
