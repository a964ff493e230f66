-- Two worlds that no one can tell apart: equal but for the latch where nothing will use it and, while deselected, what the last selection left.
use Rattle.std.specs.Prelude.{if◌then◌else◌}
use Prim.Native.Nat.{ℕ, ◌+◌, ◌*◌}
use mathlib.Core.Path.{◌≡◌, refl, sym, ap, ◌∙◌, subst}
use mathlib.Core.Bool.{Bool, true, false, not, ◌&&◌, ◌||◌}
use mathlib.Core.List.{List}
use native.Mathlib.Nat.{mod-lt}
use native.Mathlib.Omega.{arith}
use lib.ListN.{length}
use lib.Dec.{eqb, leb}
use borrow.Author.Tests.{not-true}
use Rattle.rules.specs.World.{Row, Instruction, Kind, Level, Event, Command, State, World, number, with_pins, with_selection, with_state, with_latch}
use Rattle.rules.specs.Device.{Widths}
use Rattle.rules.specs.Instruction.{facts, changes, busy, holds_latch, latches, decode, turned_away, longer, lock_bit}
use Rattle.rules.specs.Receive.{is_code, is_last, is_latched, command_after, latch_after, risen, risen_latch}
use Rattle.rules.specs.Send.{fallen}
use Rattle.rules.specs.Judge.{is_complete, is_dropped, is_done, judged}
use Rattle.rules.specs.Cycle.{written, recounted, waited_state, waited}
use Rattle.rules.specs.Event.{pins_after, selected, deselected, decodes, answer, refusal, react, settled, step, next}
use Rattle.rules.specs.Sound.{Lent}
use Rattle.rules.specs.Selections.{contents, visible}
use Rattle.rules.proofs.Choice.{if-elim, if-both, clash, and_left, and_right, and_both, or_left, or_right, or-first, or-both}
use Rattle.rules.proofs.Widths.{page-positive}
use Rattle.rules.proofs.Latch.{Agree, written-agree, cleared-agree, cleared-length, marked-agree}
use Rattle.rules.proofs.Received.{lock-form, marked-long}
use Rattle.rules.proofs.Preserved.{unheld, pinned}

-- What a selection leaves behind: no rule reads it before the next selection makes it anew.
pub record Left : Type 0 where
  pub address : ℕ
  pub seen : Bool
  pub last : ℕ
  pub command : Command
  pub sending : ℕ

-- A deselected state with such things left.
abbrev pub idle : Left → State → State
idle x s =
    with_selection x.address (record { selected = false; held = false; seen = x.seen }) (record { bits = 0; value = 0; bytes = 0; last = x.last }) x.command
    (record { sending = x.sending; q = Level.Z }) s

-- Whether the command, or the running cycle, uses the latch.
abbrev pub command_uses : Command → Bool
command_uses c = latches c.instruction && not c.away

abbrev pub uses : State → Bool
uses s = holds_latch s.cycle.kind || command_uses s.command

pub data Same (row : Row) : World → World → Type 0 where
  same : (w : World) (l : List ℕ) → length l ≡ length w.latch → (uses w.state ≡ true → Agree row w.latch l) → Same row w (with_latch l w)
  off : (w : World) (l : List ℕ) (x y : Left) → length l ≡ length w.latch → (holds_latch w.state.cycle.kind ≡ true → Agree row w.latch l)
      → Same row (with_state (idle x w.state) w) (with_latch l (with_state (idle y w.state) w))

-- C rises.
module _ {row : Row} (v : Widths row) (w : World) (long : length w.latch ≡ row.page + row.page) (l : List ℕ) (n : length l ≡ length w.latch) (b : ℕ) where
  latch-length : length (latch_after row b w.state l) ≡ length (latch_after row b w.state w.latch)
  unfolding latch_after
  latch-length =
      let s = w.state in
      let R : List ℕ → List ℕ → Type 0 = λ (x y : List ℕ). length y ≡ length x in
      if-both R (is_code s) (λ _. if-both R (latches (decode row b) && not (turned_away s (decode row b))) (λ _. cleared-length row w.latch l n) (λ _. n))
      (λ _. if-both R (is_latched row s) (λ _. marked-long row l s.place.address b ∙ n ∙ sym (marked-long row w.latch s.place.address b)) (λ _. n))

  -- The code clears both latches, or does not use them.
  code_agree : (uses w.state ≡ true → Agree row w.latch l) → is_code w.state ≡ true
      → (holds_latch w.state.cycle.kind || command_uses (command_after row b w.state)) ≡ true
      → Agree row (latch_after row b w.state w.latch) (latch_after row b w.state l)
  unfolding latch_after
  code_agree h e =
      let s = w.state in
      let c = latches (decode row b) && not (turned_away s (decode row b)) in
      rw e (λ u. if-both (Agree row) c (λ _. cleared-agree row w.latch l (omega arith) n) (λ f. h (or_left _ (command_uses s.command) (or-first (holds_latch s.cycle.kind) c u f))))

  -- A later byte is marked in both, or is not latched; and the lock bit makes no command that uses the latch.
  byte-agree : (uses w.state ≡ true → Agree row w.latch l) → is_code w.state ≡ false
      → (holds_latch w.state.cycle.kind || command_uses (command_after row b w.state)) ≡ true
      → Agree row (latch_after row b w.state w.latch) (latch_after row b w.state l)
  unfolding latch_after
  byte-agree h e =
      let s = w.state in
      let i = s.command.instruction in
      let a = s.place.address in
      let locks = latches (facts i).lock in
      let here = not s.command.away in
      rw e
      (λ u.
      let before : uses s ≡ true =
      or-both (holds_latch s.cycle.kind) _ (holds_latch s.cycle.kind) (command_uses s.command) (λ e. e)
      (if-elim (λ (j : Instruction). (latches j && here) ≡ true → command_uses s.command ≡ true) (is_last row s && lock_bit row (longer row a b))
      (λ _ t. and_both (latches i) here ((lock-form i).1 (and_left locks here t)) (and_right locks here t))
      (λ _ t. t))
      u in
      if-both (Agree row) (is_latched row s) (λ _. marked-agree row w.latch l a b (omega arith) n (mod-lt a (page-positive v)) (h before)) (λ _. h before))

  latch-agree : (uses w.state ≡ true → Agree row w.latch l)
      → (holds_latch w.state.cycle.kind || command_uses (command_after row b w.state)) ≡ true
      → Agree row (latch_after row b w.state w.latch) (latch_after row b w.state l)
  latch-agree h = go (is_code w.state) refl
    where
      go : (t : Bool) → is_code w.state ≡ t → (holds_latch w.state.cycle.kind || command_uses (command_after row b w.state)) ≡ true
          → Agree row (latch_after row b w.state w.latch) (latch_after row b w.state l)
      go true e = code_agree h e
      go false e = byte-agree h e

-- Each event, but for the hold rule.
rise-same : {row : Row} {w t : World} → Widths row → Lent row w → Same row w t → Same row (unheld row (Event.Clock true) w) (unheld row (Event.Clock true) t)
unfolding react risen risen_latch
rise-same {row} v k (same w l n h) =
    let s = w.state in
    let b = s.input.value * 2 + number s.pins.d in
    let whole = decodes s && not s.pins.c && eqb s.input.bits 7 in
    same (unheld row (Event.Clock true) w) (if whole then latch_after row b w.state l else l)
    (if-both (λ (x y : List ℕ). length y ≡ length x) whole (λ _. latch-length v w k.latch l n b) (λ _. n))
    (go whole)
  where
    s' : State
    s' = w.state

    b' : ℕ
    b' = s'.input.value * 2 + number s'.pins.d

    go : (t : Bool) → (holds_latch s'.cycle.kind || command_uses (if t then command_after row b' s' else s'.command)) ≡ true
        → Agree row (if t then latch_after row b' w.state w.latch else w.latch) (if t then latch_after row b' w.state l else l)
    go true u = latch-agree v w k.latch l n b' h u
    go false u = h u
rise-same v k (off w l x y n h) = off (pinned (Event.Clock true) w) l x y n h

fall-same : {row : Row} {w t : World} → Same row w t → Same row (unheld row (Event.Clock false) w) (unheld row (Event.Clock false) t)
unfolding react fallen
fall-same {row} (same w l n h) = same (unheld row (Event.Clock false) w) l n h
fall-same (off w l x y n h) = off (pinned (Event.Clock false) w) l x y n h

-- S rises: a cycle that now runs and uses the latch was started by a command that used it.
module _ (row : Row) (s : State) where
  begun-uses : (begins : Bool) → (begins ≡ true → s.command.away ≡ false)
      → (holds_latch (if begins then (facts s.command.instruction).starts else s.cycle.kind) || command_uses s.command) ≡ true → uses s ≡ true
  begun-uses false f u = u
  begun-uses true f u = or_right (holds_latch s.cycle.kind) (command_uses s.command) (or_same (latches s.command.instruction) (not s.command.away) (ap not (f refl)) u)
    where
      or_same : (a b : Bool) → b ≡ true → (a || a && b) ≡ true → (a && b) ≡ true
      or_same true b e f = e
      or_same false b e f = f

  risen-uses : (x : Bool) → uses (if x then deselected (judged row s) else s) ≡ true → uses s ≡ true
  unfolding judged is_done
  risen-uses true =
      let done = not (is_dropped row s) && is_complete row s in
      let runs = (changes (facts s.command.instruction).starts).runs in
      begun-uses (done && runs) (λ e. not-true s.command.away (and_left _ _ (and_left _ _ (and_right (not (is_dropped row s)) (is_complete row s) (and_left done runs e)))))
  risen-uses false = λ u. u

select-same : {row : Row} {w t : World} (b : Bool) → Same row w t → Same row (unheld row (Event.Select b) w) (unheld row (Event.Select b) t)
unfolding react
select-same {row} true (same w l n h) =
    same (unheld row (Event.Select true) w) l n (λ u. h (risen-uses row w.state (w.state.selection.selected && not w.state.pins.s) u))
select-same {row} true (off w l x y n h) = off (pinned (Event.Select true) w) l x y n h
select-same {row} false (same w l n h) =
    let holds = holds_latch w.state.cycle.kind in
    same (unheld row (Event.Select false) w) l n
    (λ u. h (if-elim (λ (s : State). uses s ≡ true → uses w.state ≡ true) w.state.pins.s
    (λ _ e. or_left holds (command_uses w.state.command) (or-first holds false e refl))
    (λ _ e. e) u))
select-same {row} false (off w l x y n h) =
    let p = pins_after (Event.Select false) w.state.pins in
    if-both (λ (a b : State). Same row (with_state (with_pins p a) w) (with_state (with_pins p b) (with_latch l w))) w.state.pins.s
    (λ _. same (with_state (with_pins p (selected w.state)) w) l n (λ u. h (or-first (holds_latch w.state.cycle.kind) false u refl)))
    (λ _. off (pinned (Event.Select false) w) l x y n h)

-- Time passes. A cycle that still holds the latch held it before.
pub waited-holds : (row : Row) (w : World) (n : ℕ) → holds_latch (unheld row (Event.Wait n) w).state.cycle.kind ≡ true → holds_latch w.state.cycle.kind ≡ true
unfolding react waited_state waited
waited-holds row w n =
    let s = w.state in
    if-elim (λ (k : Kind). holds_latch k ≡ true → holds_latch s.cycle.kind ≡ true) (busy s && leb s.place.left n) (λ _ e. clash (sym e)) (λ _ e. e)

module _ (row : Row) (w : World) (l : List ℕ) (n : ℕ) (h : holds_latch w.state.cycle.kind ≡ true → Agree row w.latch l) where
  ended : Bool
  ended = busy w.state && leb w.state.place.left n

  -- What is made of the bytes written, where they are.
  written_same : (b : Bool) (a : ℕ) (bytes kept : List ℕ) (made : List ℕ → List ℕ) → (b ≡ true → holds_latch w.state.cycle.kind ≡ true)
      → (if ended && b then made (written row.page row.page l a bytes) else kept) ≡ (if ended && b then made (written row.page row.page w.latch a bytes) else kept)
  written_same b a bytes kept made f =
      if-both (λ (x y : List ℕ). x ≡ y) (ended && b)
      (λ e. ap made (sym (written-agree row w.latch l (h (f (and_right ended b e))) row.page (omega arith) a bytes))) (λ _. refl)

  -- A latch that will write the same makes no difference but for itself.
  pub waited-latch : unheld row (Event.Wait n) (with_latch l w) ≡ with_latch l (unheld row (Event.Wait n) w)
  unfolding react waited_state waited ended
  waited-latch =
      let k = changes w.state.cycle.kind in
      let start = w.state.place.start in
      rw (
        written_same k.cells start w.cells w.cells (λ (bytes : List ℕ). bytes) (or_left k.cells k.identification),
        written_same k.identification 0 w.identification w.identification (λ (bytes : List ℕ). bytes) (or_right k.cells k.identification),
        written_same k.cells start w.cells w.counts (λ (bytes : List ℕ). recounted row start bytes w.counts) (or_left k.cells k.identification),
      )

wait-same : {row : Row} {w t : World} (n : ℕ) → Same row w t → Same row (unheld row (Event.Wait n) w) (unheld row (Event.Wait n) t)
unfolding react waited_state waited
wait-same {row} n (same w l m h) =
    let s = w.state in
    let x = unheld row (Event.Wait n) w in
    subst (Same row x) (sym (waited-latch row w l n (λ e. h (or_left (holds_latch s.cycle.kind) (command_uses s.command) e))))
    (same x l m (λ u. h (if-elim (λ (k : Kind). (holds_latch k || command_uses s.command) ≡ true → uses s ≡ true) (busy s && leb s.place.left n)
    (λ _ e. or_right (holds_latch s.cycle.kind) (command_uses s.command) e) (λ _ e. e) u)))
wait-same {row} n (off w l x y m h) =
    let z = unheld row (Event.Wait n) w in
    subst (Same row (with_state (idle x z.state) z)) (sym (waited-latch row (with_state (idle y w.state) w) l n h))
    (off z l x y m (λ u. h (waited-holds row w n u)))

unheld-same : {row : Row} {w t : World} (e : Event) → Widths row → Lent row w → Same row w t → Same row (unheld row e w) (unheld row e t)
unfolding react
unheld-same (Event.Clock true) v k g = rise-same v k g
unheld-same (Event.Clock false) v k g = fall-same g
unheld-same (Event.Data b) v k (same w l n h) = same (pinned (Event.Data b) w) l n h
unheld-same (Event.Data b) v k (off w l x y n h) = off (pinned (Event.Data b) w) l x y n h
unheld-same (Event.Select b) v k g = select-same b g
unheld-same (Event.Hold b) v k (same w l n h) = same (pinned (Event.Hold b) w) l n h
unheld-same (Event.Hold b) v k (off w l x y n h) = off (pinned (Event.Hold b) w) l x y n h
unheld-same (Event.Protect true) v k (same w l n h) = same (pinned (Event.Protect true) w) l n h
unheld-same (Event.Protect true) v k (off w l x y n h) = off (pinned (Event.Protect true) w) l x y n h
unheld-same {row} (Event.Protect false) v k (same w l n h) = same (unheld row (Event.Protect false) w) l n h
unheld-same (Event.Protect false) v k (off w l x y n h) = off (pinned (Event.Protect false) w) l x y n h
unheld-same (Event.Wait n) v k g = wait-same n g
unheld-same {row} Event.Power v k (same w l n h) = same (unheld row Event.Power w) l n h
unheld-same {row} Event.Power v k (off w l x y n h) = off (unheld row Event.Power w) l x y n h

settled_same : {row : Row} {w t : World} → Same row w t → Same row (with_state (settled w.state) w) (with_state (settled t.state) t)
settled_same (same w l n h) = same (with_state (settled w.state) w) l n h
settled_same (off w l x y n h) = off w l x y n h

pub step_same : {row : Row} {w t : World} (e : Event) → Widths row → Lent row w → Same row w t → Same row (step row e w) (step row e t)
unfolding step
step_same e v k g = settled_same (unheld-same e v k g)

-- Nobody can tell them apart by an event, and they stay so.
pub contents-same : {row : Row} {w t : World} → Same row w t → contents w ≡ contents t
contents-same (same w l n h) = refl
contents-same (off w l x y n h) = refl

answer-same : {row : Row} {w t : World} → Same row w t → answer w.state ≡ answer t.state
answer-same (same w l n h) = refl
answer-same (off w l x y n h) = refl

pub refusal-same : {row : Row} {w t : World} (e : Event) → Same row w t → refusal row e w ≡ refusal row e t
refusal-same (Event.Clock b) g = refl
refusal-same (Event.Data b) g = refl
refusal-same (Event.Select b) g = refl
refusal-same (Event.Hold b) g = refl
refusal-same (Event.Protect b) g = refl
refusal-same (Event.Wait n) (same w l m h) = refl
refusal-same (Event.Wait n) (off w l x y m h) = refl
refusal-same Event.Power (same w l n h) = refl
refusal-same Event.Power (off w l x y n h) = refl

pub next-same : {row : Row} {w t : World} (e : Event) → Widths row → Lent row w → Same row w t → Same row (next row e w) (next row e t)
unfolding next
next-same {row} {w} {t} e v k g =
    rw (← refusal-same e g) (if-both (Same row) (eqb (refusal row e w) 0) (λ _. step_same e v k g) (λ _. g))

pub visible-same : {row : Row} {w t : World} (e : Event) → Widths row → Lent row w → Same row w t → visible row e w ≡ visible row e t
visible-same {row} {w} {t} e v k g =
    let m = next-same e v k g in
    rw (refusal-same e g, answer-same m, contents-same m)
