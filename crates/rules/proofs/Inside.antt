-- Inside a selection, beside the twin that has none: what a broken selection changes that its twin has not.
use Rattle.std.specs.Prelude.{if◌then◌else◌}
use Prim.Native.Nat.{ℕ, suc, ◌+◌, ◌*◌, ◌%◌}
use mathlib.Core.Path.{◌≡◌, refl, sym, ap, ◌∙◌, subst}
use mathlib.Core.Bool.{Bool, true, false, not, ◌&&◌, and-false}
use mathlib.Core.List.{List}
use native.Mathlib.Omega.{arith}
use lib.ListN.{length}
use lib.Dec.{eqb, ltb}
use borrow.Author.Tests.{eqb-true, eqb-false}
use Rattle.rules.specs.World.{Row, Instruction, Kind, Event, Input, World, number, with_pins, with_state, with_latch}
use Rattle.rules.specs.Device.{Widths}
use Rattle.rules.specs.Instruction.{facts, changes, busy, holds_latch, latches, decode, turned_away}
use Rattle.rules.specs.Receive.{is_code, is_latched, latch_after, input_after, risen, risen_latch}
use Rattle.rules.specs.Send.{fallen}
use Rattle.rules.specs.Cycle.{waited_state, waited}
use Rattle.rules.specs.Event.{pins_after, decodes, refusal, react, settled, step, next, after}
use Rattle.rules.specs.Sound.{Unsettled, Sound, Lent}
use Rattle.rules.specs.Selections.{rises, Inside, end, clock, input, low, hold, protect, wait}
use Rattle.rules.specs.Recorded.{fits, runnable}
use Rattle.rules.proofs.Choice.{if-elim, if-both, if_no, clash, and_left, and_right, and_both, and_then}
use Rattle.rules.proofs.Latch.{Agree}
use Rattle.rules.proofs.Received.{lock-form, latch-long}
use Rattle.rules.proofs.Preserved.{unheld, pinned, next-sound}
use Rattle.rules.proofs.Same.{Left, idle, waited-latch, waited-holds}

-- The count of decoded rises tells the bits received, and none means no byte.
pub record Counted (n : ℕ) (i : Input) : Type 0 where
  pub bits : n % 8 ≡ i.bits
  pub bytes : n ≡ 0 → i.bytes ≡ 0

abbrev twin_of : List ℕ → Left → World → World
twin_of l y w = with_latch l (with_state (idle y (with_pins (pins_after (Event.Select true) w.state.pins) w.state)) w)

pub data In (row : Row) (n : ℕ) : World → World → Type 0 where
  twin : (w : World) (l : List ℕ) (y : Left) → length l ≡ length w.latch → w.state.selection.selected ≡ true → Counted n w.state.input
      → (holds_latch w.state.cycle.kind ≡ true → Agree row w.latch l) → In row n w (twin_of l y w)

-- While a cycle holds the latch, no byte comes to it.
module _ {row : Row} (w : World) (k : Unsettled row w) (run : busy w.state ≡ true) where
  -- A code that uses the latch is turned away.
  turned : (i : Instruction) → latches i ≡ true → turned_away w.state i ≡ true
  turned i h = and_both (busy w.state) (not (facts i).taken) run (ap not ((lock-form i).2 h))

  unchanged : (b : ℕ) → latch_after row b w.state w.latch ≡ w.latch
  unfolding latch_after
  unchanged b =
      let s = w.state in
      let i = decode row b in
      let j = s.command.instruction in
      let past = ltb row.width s.input.bytes in
      let here = not s.command.away in
      let P : List ℕ → Type 0 = λ (m : List ℕ). m ≡ w.latch in
      if-elim P (is_code s)
      (λ _. if-elim P (latches i && not (turned_away s i))
      (λ t. clash (sym (and_right (latches i) (not (turned_away s i)) t) ∙ ap not (turned i (and_left (latches i) (not (turned_away s i)) t))))
      (λ _. refl))
      (λ e. if-elim P (is_latched row s)
      (λ t.
      let before = and_left (past && latches j) here t in
      clash (sym (and_right (past && latches j) here t) ∙ ap not (k.turned run (eqb-false s.input.bytes 0 e) ((lock-form j).2 (and_right past (latches j) before)))))
      (λ _. refl))

kind-runs : (k : Kind) → holds_latch k ≡ true → (changes k).runs ≡ true
kind-runs Kind.None e = clash (sym e)
kind-runs Kind.Array e = refl
kind-runs Kind.Identification e = refl
kind-runs Kind.Status e = refl
kind-runs Kind.Lock e = refl

counted-more : (n v : ℕ) (i : Input) → Counted n i → Counted (suc n) (input_after v i)
counted-more n v i c =
    if-elim (Counted (suc n)) (eqb i.bits 7)
    (λ e. let f = eqb-true i.bits 7 e in record { bits = omega (arith, c.bits); bytes = λ z. absurd (omega arith) })
    (λ e. let f : n % 8 ≡ 7 → ⊥ = λ q. eqb-false i.bits 7 e (sym c.bits ∙ q) in record { bits = omega (arith, c.bits, f); bytes = λ z. absurd (omega arith) })

-- One event inside.
module _ {row : Row} (v : Widths row) (w : World) (k : Unsettled row w) (long : length w.latch ≡ row.page + row.page) (l : List ℕ) (y : Left) (n : ℕ)
    (m : length l ≡ length w.latch) (on : w.state.selection.selected ≡ true) (c : Counted n w.state.input) (h : holds_latch w.state.cycle.kind ≡ true → Agree row w.latch l) where
  rise-in : (d : Bool) → In row (if d && true then suc n else n)
      (with_state (with_pins (pins_after (Event.Clock true) w.state.pins) (risen row d w.state)) (with_latch (risen_latch row d w.state w.latch) w)) (pinned (Event.Clock true) (twin_of l y w))
  unfolding risen risen_latch
  rise-in true =
      let s = w.state in
      let b = s.input.value * 2 + number s.pins.d in
      twin (with_state (with_pins (pins_after (Event.Clock true) s.pins) (risen row true s)) (with_latch (risen_latch row true s w.latch) w)) l y
      (if-elim (λ (q : List ℕ). length l ≡ length q) (eqb s.input.bits 7) (λ _. m ∙ sym (latch-long v b w long)) (λ _. m))
      on
      (counted-more n b s.input c)
      (λ u. if-elim (λ (q : List ℕ). Agree row q l) (eqb s.input.bits 7) (λ _. rw (unchanged w k (kind-runs s.cycle.kind u) b) (h u)) (λ _. h u))
  rise-in false = twin (pinned (Event.Clock true) w) l y m on c h

  fall-in : In row n (unheld row (Event.Clock false) w) (unheld row (Event.Clock false) (twin_of l y w))
  unfolding react fallen
  fall-in = twin (unheld row (Event.Clock false) w) l y m on c h

  wait-in : (q : ℕ) → In row n (unheld row (Event.Wait q) w) (unheld row (Event.Wait q) (twin_of l y w))
  unfolding react waited_state waited
  wait-in q =
      let x = unheld row (Event.Wait q) w in
      subst (In row n x) (sym (waited-latch row (with_state (idle y (with_pins (pins_after (Event.Select true) w.state.pins) w.state)) w) l q h))
      (twin x l y m on c (λ u. h (waited-holds row w q u)))

settled-in : {row : Row} {n : ℕ} {w t : World} → In row n w t → In row n (with_state (settled w.state) w) (with_state (settled t.state) t)
settled-in (twin w l y m on c h) = twin (with_state (settled w.state) w) l y m on c h

-- An event that is no rise of C counts none.
no-rise : (a c : Bool) → (a && not c && c) ≡ false
no-rise true true = refl
no-rise true false = refl
no-rise false c = refl

uncounted : {row : Row} {n : ℕ} {t : World} (w x : World) → In row n x t → In row (if decodes w.state && not w.state.pins.c && w.state.pins.c then suc n else n) x t
uncounted {row} {n} {t} w x g =
    subst (λ (m : ℕ). In row m x t) (sym (if_no (decodes w.state && not w.state.pins.c && w.state.pins.c) (suc n) n (no-rise (decodes w.state) w.state.pins.c))) g

module _ {row : Row} (v : Widths row) where
  clock-in : {n : ℕ} {w t : World} (b : Bool) → Unsettled row w → Lent row w → In row n w t
      → In row (if decodes w.state && not w.state.pins.c && b then suc n else n) (next row (Event.Clock b) w) (next row (Event.Clock b) t)
  unfolding next step react risen risen_latch
  clock-in {n} true k e (twin w l y m on c h) = settled-in (rise-in v w k e.latch l y n m on c h (decodes w.state && not w.state.pins.c))
  clock-in {n} false k e (twin w l y m on c h) =
      subst (λ (q : ℕ). In row q (next row (Event.Clock false) w) (next row (Event.Clock false) (twin_of l y w)))
      (sym (if_no (decodes w.state && not w.state.pins.c && false) (suc n) n (and-false (decodes w.state && not w.state.pins.c))))
      (settled-in (fall-in v w k e.latch l y n m on c h))

  -- S set low again is no edge.
  low-in : {n : ℕ} {w t : World} → Unsettled row w → In row n w t → In row n (next row (Event.Select false) w) t
  unfolding next step react
  low-in {n} k (twin w l y m on c h) =
      rw (k.low on) (twin (with_state (settled (with_pins (pins_after (Event.Select false) w.state.pins) w.state)) w) l y m on c h)

  -- All events inside. What is counted is the rises, the world stays sound, and where none is refused none of those kept is refused either.
  pub run_in : {n : ℕ} {w t : World} {es ks : List Event} → Inside es ks → Sound row w → Lent row w → In row n w t
      → Sound row (after row es w) × Lent row (after row es w) × In row (rises row es w n) (after row es w) (after row ks t)
      × (runnable row es w ≡ true → runnable row ks t ≡ true)
  unfolding next step react
  run_in end k e g = (k, e, g, λ r. r)
  run_in {n} {w} (clock b i) k e g =
      let p = next-sound v (Event.Clock b) w k e in
      run_in {n = if decodes w.state && not w.state.pins.c && b then suc n else n} i p.0 p.1 (clock-in b k.unsettled e g)
  run_in {n} (input b i) k e (twin w l y m on c h) =
      let p = next-sound v (Event.Data b) w k e in
      run_in i p.0 p.1 (uncounted w (next row (Event.Data b) w) (settled-in (twin (pinned (Event.Data b) w) l y m on c h)))
  run_in {n} {w} (low i) k e g =
      let p = next-sound v (Event.Select false) w k e in
      run_in i p.0 p.1 (uncounted w (next row (Event.Select false) w) (low-in k.unsettled g))
  run_in {n} (hold b i) k e (twin w l y m on c h) =
      let p = next-sound v (Event.Hold b) w k e in
      run_in i p.0 p.1 (uncounted w (next row (Event.Hold b) w) (settled-in (twin (pinned (Event.Hold b) w) l y m on c h)))
  run_in {n} (protect true i) k e (twin w l y m on c h) =
      let p = next-sound v (Event.Protect true) w k e in
      run_in i p.0 p.1 (uncounted w (next row (Event.Protect true) w) (settled-in (twin (pinned (Event.Protect true) w) l y m on c h)))
  run_in {n} (protect false i) k e (twin w l y m on c h) =
      let p = next-sound v (Event.Protect false) w k e in
      run_in i p.0 p.1 (uncounted w (next row (Event.Protect false) w) (settled-in (twin (unheld row (Event.Protect false) w) l y m on c h)))
  run_in {n} (wait {es = es} {ks = ks} q i) k e (twin w l y m on c h) =
      let late = Event.Wait q in
      let p = next-sound v late w k e in
      let r = run_in i p.0 p.1 (uncounted w (next row late w)
      (if-both (In row n) (eqb (refusal row late w) 0)
      (λ _. settled-in (wait-in v w k.unsettled e.latch l y n m on c h q))
      (λ _. twin w l y m on c h))) in
      (r.0, r.1, r.2, and_then (fits late && eqb (refusal row late w) 0) (runnable row es (next row late w)) (runnable row ks (next row late (twin_of l y w))) r.3)
