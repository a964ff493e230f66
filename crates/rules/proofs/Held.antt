-- The theorems `held-write-starts` and `held-others-dropped`.
use mathlib.Core.Path.{◌≡◌, refl, sym, ap, ◌∙◌}
use mathlib.Core.Bool.{Bool, true, false, not, ◌&&◌, and-false}
use borrow.Author.Tests.{not-true, not-false}
use Rattle.rules.specs.World.{Row, Instruction, Kind, Event, State, World, with_pins, with_state}
use Rattle.rules.specs.Instruction.{facts, changes, is_write}
use Rattle.rules.specs.Judge.{is_whole, is_complete, is_dropped, is_done, start_of, judged}
use Rattle.rules.specs.Event.{pins_after, deselected, react, step, next}
use Rattle.rules.specs.Held.{Writes, write, wrid, lid, released, HeldWriteStarts, HeldOthersDropped}
use Rattle.rules.proofs.Choice.{clash, and_left, and_right, and-rest}
use Rattle.rules.proofs.Judged.{allows-alike, judged-none, rises}

-- The rules find the writes by two columns of the instruction table; by name they are these three.
is-write : {i : Instruction} → Writes i → is_write i ≡ true
is-write write = refl
is-write wrid = refl
is-write lid = refl

runs : {i : Instruction} → Writes i → (changes (facts i).starts).runs ≡ true
runs write = refl
runs wrid = refl
runs lid = refl

writes : (i : Instruction) → is_write i ≡ true → Writes i
writes Instruction.Write e = write
writes Instruction.Wrid e = wrid
writes Instruction.Lid e = lid
writes Instruction.Wren e = clash (sym e)
writes Instruction.Wrdi e = clash (sym e)
writes Instruction.Rdsr e = clash (sym e)
writes Instruction.Wrsr e = clash (sym e)
writes Instruction.Read e = clash (sym e)
writes Instruction.Rdid e = clash (sym e)
writes Instruction.Rdls e = clash (sym e)
writes Instruction.Unknown e = clash (sym e)

-- In hold, where the row triggers, and out of hold a write is done exactly if it is complete.
module _ (row : Row) (w : World) where
  done-released : (b : Bool) → is_done row (released b w).state ≡ is_complete row w.state
  unfolding is_done is_whole
  done-released b = rw (allows-alike row (released b w).state w.state refl refl refl refl (facts w.state.command.instruction).starts)

  done_held : row.triggers ≡ true → Writes w.state.command.instruction → is_done row w.state ≡ is_complete row w.state
  unfolding is_done
  done_held t i = rw (t, is-write i, and-false w.state.selection.held)

  -- Nothing else in hold is done.
  undone-held : w.state.selection.held ≡ true → (row.triggers ≡ true → Writes w.state.command.instruction → is_complete row w.state ≡ true → ⊥)
      → is_done row w.state ≡ false
  unfolding is_done
  undone-held held f = go (is_done row w.state) refl
    where
      kept : Bool
      kept = not (is_dropped row w.state)

      complete : Bool
      complete = is_complete row w.state

      named : Bool
      named = is_write w.state.command.instruction

      go : (d : Bool) → (kept && complete) ≡ d → d ≡ false
      go true e =
          let triggered : (row.triggers && named) ≡ true =
          not-false (row.triggers && named)
          (and-rest w.state.selection.held (not (row.triggers && named)) (not-true (is_dropped row w.state) (and_left kept complete e)) held) in
          absurd
          (f (and_left row.triggers named triggered) (writes w.state.command.instruction (and_right row.triggers named triggered))
          (and_right kept complete e))
      go false e = refl

  start-released : (b : Bool) (k : Kind) → start_of row (released b w).state k ≡ start_of row w.state k
  start-released b Kind.None = refl
  start-released b Kind.Array = refl
  start-released b Kind.Identification = refl
  start-released b Kind.Status = refl
  start-released b Kind.Lock = refl

  judged-released : row.triggers ≡ true → Writes w.state.command.instruction → (b : Bool)
      → deselected (judged row w.state) ≡ with_pins w.state.pins (deselected (judged row (released b w).state))
  unfolding judged
  judged-released t i b = rw (done_held t i, done-released b, start-released b (facts w.state.command.instruction).starts)

-- Out of a selection an event of HOLD sets its pin and does no more.
as-released : (row : Row) (w : World) → row.triggers ≡ true → w.state.selection.selected ≡ true → w.state.pins.s ≡ false
    → Writes w.state.command.instruction → (b : Bool)
    → next row (Event.Select true) w ≡ next row (Event.Hold w.state.pins.hold) (next row (Event.Select true) (released b w))
unfolding next step react
as-released row w t on low i b =
    let p = pins_after (Event.Select true) w.state.pins in
    rises row w on low ∙ ap (λ (s : State). with_state (with_pins p s) w) (judged-released row w t i b)
    ∙ ap (next row (Event.Hold w.state.pins.hold)) (sym (rises row (released b w) on low))

pub held-write-starts : HeldWriteStarts
unfolding judged
held-write-starts row w t on low i = (as-released row w t on low i, λ c. rw (rises row w on low, done_held row w t i, c, runs i) (refl, refl))

pub held-others-dropped : HeldOthersDropped
held-others-dropped row w on low held f =
    let p = pins_after (Event.Select true) w.state.pins in
    rises row w on low ∙ ap (λ (s : State). with_state (with_pins p (deselected s)) w) (judged-none row w.state (undone-held row w held f))
