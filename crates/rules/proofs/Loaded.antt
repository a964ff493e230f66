-- The theorems `given_back` and `as-after-power`: what is stored, out and in again.
use Rattle.std.specs.Prelude.{if◌then◌else◌}
use Prim.Native.Nat.{ℕ, zero, suc, ◌+◌, ◌≤◌}
use mathlib.Core.Path.{◌≡◌, refl, sym, ap, ◌∙◌, subst}
use mathlib.Core.Bool.{Bool, true, false, not}
use mathlib.Core.List.{List, []}
use native.Mathlib.Omega.{arith}
use lib.ListN.{get_or}
use lib.Dec.{eqb, ltb}
use borrow.Author.Tests.{eq-eqb, ltb-false, eqb-true, not-false}
use Rattle.rules.specs.World.{Row, Kind, Level, Pins, Stored, World, Event, number, world_of, with_state}
use Rattle.rules.specs.Device.{Widths, is_device, row_of, has_identification, prepared_state, prepared}
use Rattle.rules.specs.Instruction.{changes, busy}
use Rattle.rules.specs.Judge.{storable}
use Rattle.rules.specs.Event.{react, step, next}
use Rattle.rules.specs.Sound.{Sound, Lent}
use Rattle.rules.specs.Call.{world_refusal, stored_in, powered_with, Loaded, loaded_as, load_outcome}
use Rattle.rules.specs.Selections.{contents, sights}
use Rattle.rules.specs.Loaded as spec
use Rattle.rules.proofs.Choice.{if-elim, clash, number_small, number-back}
use Rattle.rules.proofs.Incident.{prepared-sound}
use Rattle.rules.proofs.Widths.{of-device}
use Rattle.rules.proofs.Preserved.{kept-lent}
use Rattle.rules.proofs.Same.{Same, off, contents-same}
use Rattle.rules.proofs.Selections.{sights-same}
use Rattle.rules.proofs.Spent.{Spent, spent, contents-spent, sights-spent}
use Rattle.rules.proofs.Program.{world-taken, world-facts}

-- What loading takes: a lock of 0, or of 1 where there is a page to lock.
lock-back : (there : Bool) (n : ℕ) → ltb (number there) n ≡ false → number (eqb n 1) ≡ n
lock-back there zero e = refl
lock-back there (suc zero) e = refl
lock-back there (suc (suc n)) e = absurd (omega (arith, ltb-false (number there) (suc (suc n)) e, number_small there))

lock-there : (there : Bool) (n : ℕ) → ltb (number there) n ≡ false → eqb n 1 ≡ true → there ≡ true
lock-there true n e f = refl
lock-there false n e f = absurd (omega (arith, ltb-false 0 n e, eqb-true n 1 f))

pub given_back : spec.GivenBack
unfolding load_outcome
given_back device x =
    let P : ℕ → Type 0 = λ (n : ℕ). n ≡ 0 → stored_in (if eqb n 0 then powered_with x else prepared_state) ≡ x in
    if-elim P (not (is_device device)) (λ _ e. absurd (omega arith))
    (λ _. if-elim P (not (eqb (storable (row_of device) x.status) x.status)) (λ _ e. absurd (omega arith))
    (λ _. if-elim P (ltb (number (has_identification (row_of device))) x.lock) (λ _ e. absurd (omega arith))
    (λ e _. ap (λ (n : ℕ). record { status = x.status; lock = n }) (lock-back (has_identification (row_of device)) x.lock e))))

-- A lock of a device that can be locked is taken.
lock-taken : (there locked : Bool) → (locked ≡ true → there ≡ true) → ltb (number there) (number locked) ≡ false
lock-taken true true f = refl
lock-taken true false f = refl
lock-taken false true f = clash (sym (f refl))
lock-taken false false f = refl

-- What loading took can be stored: bits that the device has, a lock where there is a page to lock. And the state is the one after power.
pub record Loadable (row : Row) (x : Stored) : Type 0 where
  pub bits : storable row x.status ≡ x.status
  pub lockable : eqb x.lock 1 ≡ true → has_identification row ≡ true

pub load-taken : (device : ℕ) (x : Stored) → (load_outcome device x).number ≡ 0 → Loadable (row_of device) x × ((load_outcome device x).state ≡ powered_with x)
unfolding load_outcome
load-taken device x =
    let own = eqb (storable (row_of device) x.status) x.status in
    let there = has_identification (row_of device) in
    let P : ℕ → Type 0 = λ (n : ℕ). n ≡ 0 → Loadable (row_of device) x × ((if eqb n 0 then powered_with x else prepared_state) ≡ powered_with x) in
    if-elim P (not (is_device device)) (λ _ e. absurd (omega arith))
    (λ _. if-elim P (not own) (λ _ e. absurd (omega arith))
    (λ o. if-elim P (ltb (number there) x.lock) (λ _ e. absurd (omega arith))
    (λ few _. (
      record { bits = eqb-true (storable (row_of device) x.status) x.status (not-false own o); lockable = lock-there there x.lock few },
      refl,
    ))))

-- That state is sound in any buffers whose marks are 0 and 1.
pub loaded-sound : {row : Row} → Widths row → (x : Stored) (cells identification latch counts : List ℕ) → ((i : ℕ) → get_or latch (row.page + i) 0 ≤ 1) → Loadable row x
    → Sound row (world_of (powered_with x) cells identification latch counts)
unfolding prepared
loaded-sound {row} v x cells identification latch counts marks own =
    let p = (prepared-sound v).unsettled in
    record {
      unsettled =
          record {
            input = p.input;
            inside = p.inside;
            stored = own.bits;
            page = record { lockable = own.lockable; instruction = λ e. clash (sym e) };
            cycle = p.cycle;
            off = p.off;
            low = λ e. clash (sym e);
            saw = λ e. clash (sym e);
            turned = λ e. clash (sym e);
            marks = marks;
          };
      holds = λ e. clash (sym e);
    }

at_rest : (row : Row) (w : World) (x : Stored) → next row Event.Power (with_state (powered_with x) w) ≡ with_state (powered_with x) w
unfolding next step react
at_rest row w x = refl

-- A cycle that does not run is none.
no-cycle : (k : Kind) → (changes k).runs ≡ false → k ≡ Kind.None
no-cycle Kind.None e = refl
no-cycle Kind.Array e = clash e
no-cycle Kind.Identification e = clash e
no-cycle Kind.Status e = clash e
no-cycle Kind.Lock e = clash e

-- The chip after power and the loaded one: what the last cycle left is spent, and what the last selection left nobody reads.
module _ {row : Row} (v : Widths row) (w : World) (h : Sound row w) (l : Lent row w) (idle-now : busy w.state ≡ false) (rest : w.state.pins ≡ prepared_state.pins) where
  abbrev loaded : World
  loaded = with_state (powered_with (stored_in w.state)) w

  none : w.state.cycle.kind ≡ Kind.None
  none = no-cycle w.state.cycle.kind idle-now

  powers : next row Event.Power w ≡ step row Event.Power w
  unfolding next
  powers = rw idle-now refl

  -- A chip that is not selected, with what a selection left, at these levels and in this cycle.
  abbrev rested : ℕ → Pins → Kind → Bool → World
  rested left pins kind locked =
      let s = w.state in
      with_state
      (record {
        place = record { address = s.place.address; start = 0; left = left };
        pins = pins;
        selection = record { selected = false; held = false; seen = s.selection.seen };
        input = record { bits = 0; value = 0; bytes = 0; last = s.input.last };
        command = s.command;
        output = record { sending = s.output.sending; q = Level.Z };
        registers = record { status = s.registers.status; wel = false; locked = locked };
        cycle = record { kind = kind; next = 0 };
        filler = prepared_state.filler;
      }) w

  from-power : Spent (step row Event.Power w) (rested w.state.place.left w.state.pins w.state.cycle.kind w.state.registers.locked)
  unfolding step react
  from-power =
      spent (step row Event.Power w) 0 0 prepared_state.filler (λ e. clash (sym e ∙ ap (λ (k : Kind). (changes k).cells) none))
      (λ e. clash (sym e ∙ ap (λ (k : Kind). (changes k).status) none))

  settles : rested w.state.place.left w.state.pins w.state.cycle.kind w.state.registers.locked
      ≡ rested 0 prepared_state.pins Kind.None (eqb (number w.state.registers.locked) 1)
  settles =
      let r = w.state.registers in
      ap (λ (n : ℕ). rested n w.state.pins w.state.cycle.kind r.locked) (h.unsettled.cycle.rests idle-now)
      ∙ ap (λ (p : Pins). rested 0 p w.state.cycle.kind r.locked) rest
      ∙ ap (λ (k : Kind). rested 0 prepared_state.pins k r.locked) none
      ∙ ap (rested 0 prepared_state.pins Kind.None) (sym (number-back r.locked))

  from-loading : Same row loaded (rested 0 prepared_state.pins Kind.None (eqb (number w.state.registers.locked) 1))
  from-loading =
      let s = w.state in
      off loaded w.latch (record { address = 0; seen = false; last = 0; command = prepared_state.command; sending = 0 })
      (record { address = s.place.address; seen = s.selection.seen; last = s.input.last; command = s.command; sending = s.output.sending })
      refl (λ e. clash (sym e))

  indistinct : Sound row loaded → (later : List Event)
      → (contents (next row Event.Power w) ≡ contents loaded) × (sights row later (next row Event.Power w) ≡ sights row later loaded)
  indistinct k later = (
    ap contents powers ∙ contents-spent from-power ∙ ap contents settles ∙ sym (contents-same from-loading),
    ap (sights row later) powers ∙ sights-spent row later from-power ∙ ap (sights row later) settles
        ∙ sym (sights-same v later k (kept-lent _ l) from-loading),
  )

-- Loading what a world has stored is not refused, and gives the state after power.
module _ (device : ℕ) (w : World) (z : world_refusal device w ≡ 0) where
  facts : (is_device device ≡ true) × Sound (row_of device) w × Lent (row_of device) w
  facts = world-facts device w z

  loadable : Loadable (row_of device) (stored_in w.state)
  loadable =
      let h = facts.1.unsettled in
      record { bits = h.stored; lockable = λ e. h.page.lockable (sym (number-back w.state.registers.locked) ∙ e) }

  reloads : load_outcome device (stored_in w.state) ≡ loaded_as 0 (powered_with (stored_in w.state))
  unfolding load_outcome
  reloads =
      let r = w.state.registers in
      let own = eq-eqb (storable (row_of device) r.status) r.status loadable.bits in
      rw (facts.0, own, lock-taken (has_identification (row_of device)) r.locked facts.1.unsettled.page.lockable)

  powered-sound : Sound (row_of device) (with_state (powered_with (stored_in w.state)) w)
  powered-sound = loaded-sound (of-device device) (stored_in w.state) w.cells w.identification w.latch w.counts facts.1.unsettled.marks loadable

  reloaded-is : spec.reloaded device w ≡ with_state (powered_with (stored_in w.state)) w
  reloaded-is = ap (λ (o : Loaded). with_state o.state w) reloads

pub as-after-power : spec.LoadedAsAfterPower
as-after-power device w z =
    let is = reloaded-is device w z in
    let lent = (facts device w z).2 in
    record {
      unrefused = ap (λ (o : Loaded). o.number) (reloads device w z);
      taken = subst (λ (x : World). world_refusal device x ≡ 0) (sym is)
          (world-taken device (with_state (powered_with (stored_in w.state)) w) (facts device w z).0 (powered-sound device w z)
          (kept-lent _ lent));
      rests = subst (λ (x : World). next (row_of device) Event.Power x ≡ x) (sym is) (at_rest (row_of device) w (stored_in w.state));
      powered = λ idle-now rest.
          let both = indistinct (of-device device) w (facts device w z).1 lent idle-now rest (powered-sound device w z) in
          let same-as : World → Type 0 = spec.Indistinct device (next (row_of device) Event.Power w) in
          subst same-as (sym is) (record { holds = (both []).0; events = λ later. (both later).1 });
    }
