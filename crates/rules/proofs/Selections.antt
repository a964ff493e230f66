-- The theorem `demand-3`: any number of broken selections may be taken out.
use Prim.Native.Nat.{ℕ, ◌+◌}
use mathlib.Core.Path.{◌≡◌, refl, sym, ap, ap₂, ◌∙◌, subst, subst₂}
use mathlib.Core.Bool.{Bool, true, false, not, ◌&&◌, and-false, and_assoc}
use mathlib.Core.List.{List, [], ◌∷◌, ◌++◌}
use native.Mathlib.Omega.{arith}
use lib.ListN.{length}
use lib.Dec.{eqb}
use borrow.Author.Tests.{eqb-true, ne_eqb, le-ltb}
use Rattle.rules.specs.World.{Row, Kind, Level, Event, State, World, with_pins, with_selection, with_state, with_latch}
use Rattle.rules.specs.Device.{Widths}
use Rattle.rules.specs.Instruction.{facts, holds_latch}
use Rattle.rules.specs.Judge.{allows, is_whole, is_dropped, is_done, judged}
use Rattle.rules.specs.Event.{pins_after, selected, deselected, refusal, react, settled, step, next, after}
use Rattle.rules.specs.Sound.{Unsettled, Sound, Lent}
use Rattle.rules.specs.Selections.{Visible, sights, Broken, Cut, done, keep, drop, heard, heard_left, Demand3}
use Rattle.rules.specs.Recorded.{fits, runnable}
use Rattle.rules.proofs.Choice.{if_yes, and_left, and_right, and_both, and_then, or_left}
use Rattle.rules.proofs.Judged.{judged-none, rises}
use Rattle.rules.proofs.Latch.{Agree}
use Rattle.rules.proofs.Preserved.{pinned, next-sound, after-sound}
use Rattle.rules.proofs.Same.{Left, idle, command_uses, Same, same, off, contents-same, refusal-same, next-same, visible-same}
use Rattle.rules.proofs.Inside.{In, twin, run_in}

-- Nothing is done at the end of a broken selection: with whole bytes there is no byte at all.
module _ (row : Row) (s : State) where
  allows-none : s.input.bytes ≡ 0 → (k : Kind) → allows row s k ≡ false
  unfolding allows
  allows-none e Kind.None = rw e
  allows-none e Kind.Status = rw e
  allows-none e Kind.Array = rw (e, le-ltb (1 + row.width) 0 (omega arith))
  allows-none e Kind.Identification = rw (e, le-ltb (1 + row.width) 0 (omega arith))
  allows-none e Kind.Lock = rw (e, le-zero)
    where
      le-zero : eqb 0 (2 + row.width) ≡ false
      le-zero = ne_eqb 0 (2 + row.width) (λ q. omega arith)

  whole-bits : is_whole s ≡ true → s.input.bits ≡ 0
  unfolding is_whole
  whole-bits e = eqb-true s.input.bits 0 e

  undone : (s.input.bits ≡ 0 → s.input.bytes ≡ 0) → is_done row s ≡ false
  unfolding is_done
  undone f = go (is_whole s) refl
    where
      kept : Bool
      kept = not (is_dropped row s)

      let-in : Bool
      let-in = not s.command.away

      go : (t : Bool) → is_whole s ≡ t → (kept && (let-in && t && allows row s (facts s.command.instruction).starts)) ≡ false
      go true e = rw (allows-none (f (whole-bits e)) (facts s.command.instruction).starts, and-false (let-in && true)) (and-false kept)
      go false e = rw (and-false let-in) (and-false kept)

-- What a state leaves behind once it is deselected.
abbrev left_of : State → Left
left_of s = record { address = s.place.address; seen = s.selection.seen; last = s.input.last; command = s.command; sending = s.output.sending }

-- The end of the selection.
end-in : {row : Row} {n : ℕ} {w t : World} → Unsettled row w → Broken n → In row n w t → Same row (next row (Event.Select true) w) t
end-in {row} {n} k b (twin w l y m on c h) =
    let s = w.state in
    let p = pins_after (Event.Select true) s.pins in
    let none : judged row s ≡ s = judged-none row s (undone row s (λ e. c.bytes (b (c.bits ∙ e)))) in
    let ends = rises row w on (k.low on) ∙ ap (λ (x : State). with_state (with_pins p (deselected x)) w) none in
    subst (λ (x : World). Same row x (with_latch l (with_state (idle y (with_pins p s)) w))) (sym ends) (off (pinned (Event.Select true) w) l (left_of s) y m h)

-- A sound state that is deselected is an idle one.
module _ (s : State) where
  rebuilt : Bool → Bool → ℕ → ℕ → ℕ → Level → State
  rebuilt on held bits value bytes q =
      with_selection s.place.address (record { selected = on; held = held; seen = s.selection.seen }) (record { bits = bits; value = value; bytes = bytes; last = s.input.last })
      s.command (record { sending = s.output.sending; q = q }) s

  rest : (rebuilt false false 0 0 0 Level.Z ≡ rebuilt s.selection.selected s.selection.held s.input.bits s.input.value s.input.bytes s.output.q) → idle (left_of s) s ≡ s
  unfolding rebuilt
  rest e = e

resting : {row : Row} {w : World} → Unsettled row w → w.state.selection.selected ≡ false → idle (left_of w.state) w.state ≡ w.state
resting {row} {w} k o =
    let s = w.state in
    let f = k.off o in
    let z : s.input.value ≡ 0 = omega (arith, f.bits, rw f.bits at k.input.small) in
    rest s (cc (o, f.held, f.bits, z, f.bytes, f.z))

-- Beside a deselected world stands one that differs by what was left and, where no cycle holds it, by the latch.
record Beside (row : Row) (w t : World) : Type 0 where
  latch : List ℕ
  left : Left
  is : t ≡ with_latch latch (with_state (idle left w.state) w)
  long : length latch ≡ length w.latch
  agree : holds_latch w.state.cycle.kind ≡ true → Agree row w.latch latch

beside : {row : Row} {w t : World} → Unsettled row w → w.state.selection.selected ≡ false → Same row w t → Beside row w t
beside {row} k o (same w l n h) =
    record {
      latch = l;
      left = left_of w.state;
      is = ap (λ (s : State). with_latch l (with_state s w)) (sym (resting k o));
      long = n;
      agree = λ e. h (or_left (holds_latch w.state.cycle.kind) (command_uses w.state.command) e);
    }
beside k o (off w l x y n h) = record { latch = l; left = y; is = refl; long = n; agree = h }

-- The beginning of the selection.
start-in : {row : Row} {w t : World} → Unsettled row w → w.state.selection.selected ≡ false → w.state.pins.s ≡ true → Same row w t → In row 0 (next row (Event.Select false) w) t
unfolding next step react
start-in {row} {w} {t} k o p g =
    let s = w.state in
    let d = beside k o g in
    let low = pins_after (Event.Select false) s.pins in
    let with-s : Bool → State = λ (b : Bool). with_pins (record { c = s.pins.c; d = s.pins.d; s = b; hold = s.pins.hold; w = s.pins.w }) s in
    let raised : with_pins (pins_after (Event.Select true) s.pins) s ≡ s = ap with-s (sym p) in
    subst (λ (x : State). In row 0 (with_state (settled (with_pins low x)) w) t) (sym (if_yes s.pins.s (selected s) s p))
    (subst (In row 0 (with_state (settled (with_pins low (selected s))) w)) (ap (λ (x : State). with_latch d.latch (with_state (idle d.left x) w)) raised ∙ sym d.is)
    (twin (with_state (settled (with_pins low (selected s))) w) d.latch d.left d.long refl (record { bits = refl; bytes = λ _. refl }) d.agree))

-- Runs.
after-append : (row : Row) (es fs : List Event) (w : World) → after row (es ++ fs) w ≡ after row fs (after row es w)
after-append row [] fs w = refl
after-append row (e ∷ es) fs w = after-append row es fs (next row e w)

runnable-append : (row : Row) (es fs : List Event) (w : World) → runnable row (es ++ fs) w ≡ (runnable row es w && runnable row fs (after row es w))
runnable-append row [] fs w = refl
runnable-append row (e ∷ es) fs w =
    let first = fits e && eqb (refusal row e w) 0 in
    ap (λ (b : Bool). first && b) (runnable-append row es fs (next row e w)) ∙ sym (and_assoc first (runnable row es (next row e w)) (runnable row fs (after row (e ∷ es) w)))

-- What is left of a run leads to a world like the run's, the same is heard outside, and nothing of it is refused where nothing of the run is.
module _ {row : Row} (v : Widths row) where
  pub cut-same : {w t : World} {es ks : List Event} → Sound row w → Lent row w → Same row w t → (c : Cut row w es ks)
      → Same row (after row es w) (after row ks t) × (heard c ≡ heard_left c t) × (runnable row es w ≡ true → runnable row ks t ≡ true)
  unfolding heard heard_left
  cut-same k l g done = (g, refl, λ u. u)
  cut-same {w} {t} k l g (keep {es = es} {ks = ks} e c) =
      let n = next-sound v e w k l in
      let r = cut-same n.0 n.1 (next-same e v l g) c in
      let runs : ℕ → World → List Event → Bool = λ (m : ℕ) (x : World) (fs : List Event). fits e && eqb m 0 && runnable row fs (next row e x) in (
        r.0,
        ap₂ {A = Visible} {B = List Visible} {C = List Visible} ◌∷◌ (visible-same e v l g) r.1,
        λ u. subst (λ (m : ℕ). runs m t ks ≡ true) (refusal-same e g)
            (and_then (fits e && eqb (refusal row e w) 0) (runnable row es (next row e w)) (runnable row ks (next row e t)) r.2 u),
      )
  cut-same {w} {t} k l g (drop {es = es} {ks = ks} {inner = inner} {kept = kept} o p i b c) =
      let n = next-sound v (Event.Select false) w k l in
      let d = run_in v i n.0 n.1 (start-in k.unsettled o p g) in
      let m = next-sound v (Event.Select true) (after row inner (next row (Event.Select false) w)) d.0 d.1 in
      let r = cut-same m.0 m.1 (end-in d.0.unsettled b d.2) c in
      let begun = next row (Event.Select false) w in
      let over = next row (Event.Select true) (after row inner begun) in (
        subst₂ (Same row) (sym (after-append row inner (Event.Select true ∷ es) begun)) (sym (after-append row kept ks t)) r.0,
        r.1,
        λ u.
            let both : (runnable row inner begun && runnable row es over) ≡ true = sym (runnable-append row inner (Event.Select true ∷ es) begun) ∙ u in
            runnable-append row kept ks t
            ∙ and_both (runnable row kept t) (runnable row ks (after row kept t)) (d.3 (and_left (runnable row inner begun) (runnable row es over) both))
            (r.2 (and_right (runnable row inner begun) (runnable row es over) both)),
      )

  pub sights-same : {w t : World} (es : List Event) → Sound row w → Lent row w → Same row w t → sights row es w ≡ sights row es t
  sights-same [] k l g = refl
  sights-same {w} {t} (e ∷ es) k l g =
      let n = next-sound v e w k l in
      ap₂ {A = Visible} {B = List Visible} {C = List Visible} ◌∷◌ (visible-same e v l g) (sights-same {w = next row e w} {t = next row e t} es n.0 n.1 (next-same e v l g))

pub same_self : {row : Row} (w : World) → Same row w w
same_self w = same w w.latch refl (λ _ i _. (refl, λ _. refl))

pub demand-3 : Demand3
demand-3 row v w k l es ks c =
    let r = cut-same v k l (same_self w) c in
    let n = after-sound v es w k l in
    (r.1, contents-same r.0, λ later. sights-same v later n.0 n.1 r.0)
