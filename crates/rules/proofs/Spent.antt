-- What a cycle that is over leaves behind: its page start and its new status bits. No rule reads them before the next cycle makes them anew.
use Rattle.std.specs.Prelude.{if◌then◌else◌}
use Prim.Native.Nat.{ℕ}
use mathlib.Core.Path.{◌≡◌, refl, sym, ap, ap₂, ◌∙◌}
use mathlib.Core.Bool.{Bool, true, false, not, ◌&&◌}
use mathlib.Core.List.{List, [], ◌∷◌}
use lib.Dec.{eqb}
use Rattle.rules.specs.declared.Filler.{Filler}
use Rattle.rules.specs.World.{Row, Kind, Source, Event, State, World, with_pins, with_state}
use Rattle.rules.specs.Instruction.{facts, changes}
use Rattle.rules.specs.Send.{byte_of, shown_address, output_after, fallen}
use Rattle.rules.specs.Judge.{storable, is_whole, is_dropped, is_done, start_of, judged}
use Rattle.rules.specs.Cycle.{ends, written, is_miscounted, recounted, waited_state, waited}
use Rattle.rules.specs.Event.{pins_after, selected, deselected, answer, refusal, react, settled, step, next}
use Rattle.rules.specs.Selections.{Visible, contents, visible, sights}
use Rattle.rules.proofs.Choice.{if-elim, if-both, clash}
use Rattle.rules.proofs.Judged.{allows-alike}
use Rattle.rules.proofs.Opened.{opened}

-- A world with another page start, other new bits and another filler.
abbrev pub worn : ℕ → ℕ → Filler → State → State
worn start new f s =
    record {
      place = record { address = s.place.address; start = start; left = s.place.left };
      pins = s.pins;
      selection = s.selection;
      input = s.input;
      command = s.command;
      output = s.output;
      registers = s.registers;
      cycle = record { kind = s.cycle.kind; next = new };
      filler = f;
    }

-- Two worlds that differ in these alone, where a running cycle does not use them.
pub data Spent : World → World → Type 0 where
  spent : (w : World) (start new : ℕ) (f : Filler) → ((changes w.state.cycle.kind).cells ≡ true → start ≡ w.state.place.start)
      → ((changes w.state.cycle.kind).status ≡ true → new ≡ w.state.cycle.next) → Spent w (with_state (worn start new f w.state) w)

-- A choice that is made, and a question that is asked, only where both are equal.
choice : {A : Type 0} (e c : Bool) (x y z : A) → (c ≡ true → x ≡ y) → (if e && c then x else z) ≡ (if e && c then y else z)
choice true true x y z h = h refl
choice true false x y z h = refl
choice false c x y z h = refl

asked : (e c x y : Bool) → (c ≡ true → x ≡ y) → (e && c && x) ≡ (e && c && y)
asked true true x y h = h refl
asked true false x y h = refl
asked false c x y h = refl

-- S's rise: a cycle that begins makes anew what it uses.
begun-start : (row : Row) (s : State) (start new : ℕ) (f : Filler) (k : Kind) → (changes k).cells ≡ true → start_of row (worn start new f s) k ≡ start_of row s k
begun-start row s start new f Kind.None e = clash (sym e)
begun-start row s start new f Kind.Array e = refl
begun-start row s start new f Kind.Identification e = clash (sym e)
begun-start row s start new f Kind.Status e = clash (sym e)
begun-start row s start new f Kind.Lock e = clash (sym e)

-- What S's rise decides, and the byte that is sent, do not hang on them either.
done-worn : (row : Row) (s : State) (start new : ℕ) (f : Filler) → is_done row (worn start new f s) ≡ is_done row s
unfolding is_done is_whole
done-worn row s start new f =
    ap (λ (b : Bool). not (is_dropped row s) && (not s.command.away && is_whole s && b))
    (allows-alike row (worn start new f s) s refl refl refl refl (facts s.command.instruction).starts)

byte-worn : (s : State) (start new : ℕ) (f : Filler) (cells identification : List ℕ) (x : Source) (a : ℕ) → byte_of (worn start new f s) cells identification x a ≡ byte_of s cells identification x a
byte-worn s start new f cells identification Source.Silent a = refl
byte-worn s start new f cells identification Source.Status a = refl
byte-worn s start new f cells identification Source.Cells a = refl
byte-worn s start new f cells identification Source.Identification a = refl
byte-worn s start new f cells identification Source.Lock a = refl

output-worn : (row : Row) (s : State) (start new : ℕ) (f : Filler) (cells identification : List ℕ) (a : ℕ)
    → output_after row (worn start new f s) cells identification a ≡ output_after row s cells identification a
unfolding output_after
output-worn row s start new f cells identification a = rw (byte-worn s start new f cells identification (facts s.command.instruction).sends a)

-- Each event, but for refusals.
module _ (row : Row) (w : World) (start new : ℕ) (f : Filler) (h : (changes w.state.cycle.kind).cells ≡ true → start ≡ w.state.place.start)
    (g : (changes w.state.cycle.kind).status ≡ true → new ≡ w.state.cycle.next) where
  rise-spent : Spent (step row (Event.Clock true) w) (step row (Event.Clock true) (with_state (worn start new f w.state) w))
  unfolding opened
  rise-spent = spent (step row (Event.Clock true) w) start new f h g

  fall-spent : Spent (step row (Event.Clock false) w) (step row (Event.Clock false) (with_state (worn start new f w.state) w))
  unfolding step react fallen shown_address
  fall-spent =
      rw (output-worn row w.state start new f w.cells w.identification (shown_address row w.state))
      (spent (step row (Event.Clock false) w) start new f h g)

  select-spent : Spent (step row (Event.Select false) w) (step row (Event.Select false) (with_state (worn start new f w.state) w))
  unfolding step react
  select-spent =
      let s = w.state in
      let low : State → World = λ (x : State). with_state (settled (with_pins (pins_after (Event.Select false) s.pins) x)) w in
      if-both (λ (x y : State). Spent (low x) (low y)) s.pins.s (λ _. spent (low (selected s)) start new f h g) (λ _. spent (low s) start new f h g)

  start-so : (b : Bool) (k : Kind) → (changes (if b then k else w.state.cycle.kind)).cells ≡ true
      → (if b then start_of row (worn start new f w.state) k else start) ≡ (if b then start_of row w.state k else w.state.place.start)
  start-so true k e = begun-start row w.state start new f k e
  start-so false k e = h e

  next-so : (b : Bool) (k : Kind) (bits : ℕ) → (changes (if b then k else w.state.cycle.kind)).status ≡ true
      → (if b && (changes k).status then bits else new) ≡ (if b && (changes k).status then bits else w.state.cycle.next)
  next-so true k bits e = if-both (λ (x y : ℕ). x ≡ y) (changes k).status (λ _. refl) (λ n. clash (sym e ∙ n))
  next-so false k bits e = g e

  deselect-spent : Spent (step row (Event.Select true) w) (step row (Event.Select true) (with_state (worn start new f w.state) w))
  unfolding step react judged
  deselect-spent =
      let s = w.state in
      let k = (facts s.command.instruction).starts in
      let begins = is_done row s && (changes k).runs in
      let high : State → World = λ (x : State). with_state (settled (with_pins (pins_after (Event.Select true) s.pins) x)) w in
      rw (done-worn row s start new f)
      (if-both (λ (x y : State). Spent (high x) (high y)) (s.selection.selected && not s.pins.s)
      (λ _. spent (high (deselected (judged row s))) (if begins then start_of row (worn start new f s) k else start)
      (if begins && (changes k).status then storable row s.input.last else new) f (start-so begins k) (next-so begins k (storable row s.input.last)))
      (λ _. spent (high s) start new f h g))

  wait-spent : (n : ℕ) → Spent (step row (Event.Wait n) w) (step row (Event.Wait n) (with_state (worn start new f w.state) w))
  unfolding step react waited waited_state
  wait-spent n =
      let s = w.state in
      let change = changes s.cycle.kind in
      let bytes : ℕ → List ℕ = λ (a : ℕ). written row.page row.page w.latch a w.cells in
      let recount : ℕ → List ℕ = λ (a : ℕ). recounted row a (bytes a) w.counts in
      rw (
        choice (ends n s) change.status new s.cycle.next s.registers.status g,
        choice (ends n s) change.cells (bytes start) (bytes s.place.start) w.cells (λ e. ap bytes (h e)),
        choice (ends n s) change.cells (recount start) (recount s.place.start) w.counts (λ e. ap recount (h e)),
      )
      (spent (step row (Event.Wait n) w) start new f
      (if-elim (λ (k : Kind). (changes k).cells ≡ true → start ≡ s.place.start) (ends n s) (λ _ e. clash (sym e)) (λ _. h))
      (if-elim (λ (k : Kind). (changes k).status ≡ true → new ≡ s.cycle.next) (ends n s) (λ _ e. clash (sym e)) (λ _. g)))

  step-spent : (e : Event) → Spent (step row e w) (step row e (with_state (worn start new f w.state) w))
  unfolding step react
  step-spent (Event.Clock true) = rise-spent
  step-spent (Event.Clock false) = fall-spent
  step-spent (Event.Data b) = spent (step row (Event.Data b) w) start new f h g
  step-spent (Event.Select true) = deselect-spent
  step-spent (Event.Select false) = select-spent
  step-spent (Event.Hold b) = spent (step row (Event.Hold b) w) start new f h g
  step-spent (Event.Protect true) = spent (step row (Event.Protect true) w) start new f h g
  step-spent (Event.Protect false) = spent (step row (Event.Protect false) w) start new f h g
  step-spent (Event.Wait n) = wait-spent n
  step-spent Event.Power = spent (step row Event.Power w) start new f h g

refusal-spent : {w t : World} (row : Row) (e : Event) → Spent w t → refusal row e w ≡ refusal row e t
refusal-spent row (Event.Clock b) g = refl
refusal-spent row (Event.Data b) g = refl
refusal-spent row (Event.Select b) g = refl
refusal-spent row (Event.Hold b) g = refl
refusal-spent row (Event.Protect b) g = refl
refusal-spent row (Event.Wait n) (spent w start new f h g) =
    let s = w.state in
    let wrong : ℕ → Bool = λ (a : ℕ). is_miscounted row a w.cells w.counts in
    ap (λ (b : Bool). if b then 15 else 0) (asked (ends n s) (changes s.cycle.kind).cells (wrong s.place.start) (wrong start) (λ e. ap wrong (sym (h e))))
refusal-spent row Event.Power (spent w start new f h g) = refl

next-spent : {w t : World} (row : Row) (e : Event) → Spent w t → Spent (next row e w) (next row e t)
unfolding next
next-spent row e (spent w start new f h g) =
    let g' = spent w start new f h g in
    rw (← refusal-spent row e g') (if-both Spent (eqb (refusal row e w) 0) (λ _. step-spent row w start new f h g e) (λ _. g'))

-- What is seen.
answer-spent : {w t : World} → Spent w t → answer w.state ≡ answer t.state
answer-spent (spent w start new f h g) = refl

pub contents-spent : {w t : World} → Spent w t → contents w ≡ contents t
contents-spent (spent w start new f h g) = refl

visible-spent : {w t : World} (row : Row) (e : Event) → Spent w t → visible row e w ≡ visible row e t
visible-spent row e g = let m = next-spent row e g in rw (refusal-spent row e g, answer-spent m, contents-spent m)

pub sights-spent : {w t : World} (row : Row) (es : List Event) → Spent w t → sights row es w ≡ sights row es t
sights-spent row [] g = refl
sights-spent {w = w} {t = t} row (e ∷ es) g = ap₂ {A = Visible} {B = List Visible} {C = List Visible} ◌∷◌ (visible-spent row e g) (sights-spent {w = next row e w} {t = next row e t} row es (next-spent row e g))
