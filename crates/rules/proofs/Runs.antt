-- Laws on a record that is not refused, on one turn of a run, and on the whole of it.
use Prim.Native.Nat.{ℕ, zero, suc, ◌+◌, ◌-◌, ◌*◌, ◌≤◌, ◌<◌}
use mathlib.Core.Path.{◌≡◌, refl, sym, ap, ◌∙◌, subst}
use mathlib.Core.Bool.{Bool, true, false, not, ◌&&◌, ◌||◌}
use mathlib.Core.List.{List}
use native.Mathlib.Omega.{arith}
use lib.ListN.{set, length, length-set}
use lib.Dec.{eqb, leb, ltb}
use borrow.Author.Tests.{ne_eqb, lt-leb, eqb-true, eqb-false, leb-true, leb-false, ltb-false, not-false}
use Rattle.rules.specs.World.{Row, Event, World}
use Rattle.rules.specs.Device.{Widths}
use Rattle.rules.specs.Instruction.{changes, busy}
use Rattle.rules.specs.Cycle.{is_miscounted, ends}
use Rattle.rules.specs.Event.{step, answer, refusal}
use Rattle.rules.specs.Sound.{Sound, Lent}
use Rattle.rules.specs.Trace.{two, length_of, event_at, bad_pin, record_refusal, answer_byte, Progress, progress_of, turn, run}
use Rattle.rules.specs.Program.{Uncut}
use Rattle.rules.proofs.Choice.{if-elim, clash}
use Rattle.rules.proofs.Preserved.{preserved}

-- What is known of a record that is not refused.
pub record Ready (row : Row) (t : List ℕ) (at : ℕ) (full : Bool) (w : World) : Type 0 where
  pub head : 4 ≤ length t - at
  pub known : length_of (two t (at + 2)) ≡ 0 → ⊥
  pub size : two t at ≡ length_of (two t (at + 2))
  pub body : 2 + two t at ≤ length t - at
  pub pin : bad_pin t at (two t (at + 2)) ≡ false
  pub room : full ≡ false
  pub taken : refusal row (event_at t at) w ≡ 0

pub ready : {row : Row} {t : List ℕ} {at : ℕ} {full : Bool} {w : World} → record_refusal row t at full w ≡ 0 → Ready row t at full w
unfolding record_refusal
ready {row} {t} {at} {full} {w} =
    let left = length t - at in
    let kind = two t (at + 2) in
    let P : ℕ → Type 0 = λ (n : ℕ). n ≡ 0 → Ready row t at full w in
    if-elim P (ltb left 4) (λ _ e. absurd (omega arith))
    (λ h4. if-elim P (eqb (length_of kind) 0) (λ _ e. absurd (omega arith))
    (λ hk. if-elim P (not (eqb (two t at) (length_of kind))) (λ _ e. absurd (omega arith))
    (λ hs. if-elim P (ltb left (2 + two t at)) (λ _ e. absurd (omega arith))
    (λ hb. if-elim P (bad_pin t at kind) (λ _ e. absurd (omega arith))
    (λ hp. if-elim P full (λ _ e. absurd (omega arith))
    (λ hf e.
    record {
      head = ltb-false left 4 h4;
      known = eqb-false (length_of kind) 0 hk;
      size = eqb-true (two t at) (length_of kind) (not-false (eqb (two t at) (length_of kind)) hs);
      body = ltb-false left (2 + two t at) hb;
      pin = hp;
      room = hf;
      taken = e;
    }))))))

-- 10 is given only where no answer byte is left: no event is refused with it.
never-ten : (row : Row) (e : Event) (w : World) → refusal row e w ≡ 10 → ⊥
never-ten row (Event.Clock b) w e = absurd (omega arith)
never-ten row (Event.Data b) w e = absurd (omega arith)
never-ten row (Event.Select b) w e = absurd (omega arith)
never-ten row (Event.Hold b) w e = absurd (omega arith)
never-ten row (Event.Protect b) w e = absurd (omega arith)
never-ten row (Event.Wait n) w e =
    let s = w.state in
    if-elim (λ (m : ℕ). m ≡ 10 → ⊥) (ends n s && (changes s.cycle.kind).cells && is_miscounted row s.place.start w.cells w.counts)
    (λ _ e. absurd (omega arith)) (λ _ e. absurd (omega arith)) e
never-ten row Event.Power w e = if-elim (λ (n : ℕ). n ≡ 10 → ⊥) (busy w.state) (λ _ e. absurd (omega arith)) (λ _ e. absurd (omega arith)) e

ten-full : (row : Row) (t : List ℕ) (at : ℕ) {full : Bool} (w : World) → record_refusal row t at full w ≡ 10 → full ≡ true
unfolding record_refusal
ten-full row t at {full} w =
    let left = length t - at in
    let kind = two t (at + 2) in
    let P : ℕ → Type 0 = λ (n : ℕ). n ≡ 10 → full ≡ true in
    if-elim P (ltb left 4) (λ _ e. absurd (omega arith))
    (λ h4. if-elim P (eqb (length_of kind) 0) (λ _ e. absurd (omega arith))
    (λ hk. if-elim P (not (eqb (two t at) (length_of kind))) (λ _ e. absurd (omega arith))
    (λ hs. if-elim P (ltb left (2 + two t at)) (λ _ e. absurd (omega arith))
    (λ hb. if-elim P (bad_pin t at kind) (λ _ e. absurd (omega arith))
    (λ hp. if-elim P full (λ hf _. hf)
    (λ hf e. absurd (never-ten row (event_at t at) w e)))))))

-- And a number past 10 only where the event itself is refused with it.
pub refused-late : (row : Row) (t : List ℕ) (at : ℕ) (full : Bool) (w : World) (n : ℕ) → 10 < n → record_refusal row t at full w ≡ n → refusal row (event_at t at) w ≡ n
unfolding record_refusal
refused-late row t at full w n late =
    let left = length t - at in
    let kind = two t (at + 2) in
    let P : ℕ → Type 0 = λ (m : ℕ). m ≡ n → refusal row (event_at t at) w ≡ n in
    if-elim P (ltb left 4) (λ _ e. absurd (omega arith))
    (λ _. if-elim P (eqb (length_of kind) 0) (λ _ e. absurd (omega arith))
    (λ _. if-elim P (not (eqb (two t at) (length_of kind))) (λ _ e. absurd (omega arith))
    (λ _. if-elim P (ltb left (2 + two t at)) (λ _ e. absurd (omega arith))
    (λ _. if-elim P (bad_pin t at kind) (λ _ e. absurd (omega arith))
    (λ _. if-elim P full (λ _ e. absurd (omega arith))
    (λ _ e. e))))))

-- The kinds there are have lengths 2 to 6.
pub length-small : (k : ℕ) → length_of k ≤ 6
length-small zero = omega arith
length-small (suc zero) = omega arith
length-small (suc (suc zero)) = omega arith
length-small (suc (suc (suc zero))) = omega arith
length-small (suc (suc (suc (suc k)))) = omega arith

length-least : (k : ℕ) → (length_of k ≡ 0 → ⊥) → 2 ≤ length_of k
length-least zero h = absurd (h refl)
length-least (suc zero) h = omega arith
length-least (suc (suc zero)) h = omega arith
length-least (suc (suc (suc zero))) h = omega arith
length-least (suc (suc (suc (suc k)))) h = absurd (h refl)

-- What the next record of a run is refused with.
abbrev pub refused_next : Row → List ℕ → Progress → ℕ
refused_next row t p = record_refusal row t p.taken (leb (length p.answers) p.done) p.world

-- One turn: of a run that is over, at a record that is refused, and at one that is done.
pub turn-over : (row : Row) (t : List ℕ) (p : Progress) → (not (eqb p.number 0) || leb (length t) p.taken) ≡ true → turn row t p ≡ p
unfolding turn
turn-over row t p e = rw e

module _ (row : Row) (t : List ℕ) {at : ℕ} (k : ℕ) (w : World) (a : List ℕ) (h : at < length t) where
  pub turn-refused : {n : ℕ} → n ≡ record_refusal row t at (leb (length a) k) w → (n ≡ 0 → ⊥) → progress_of n at k w a ≡ turn row t (progress_of 0 at k w a)
  unfolding turn
  turn-refused {n} e z = rw (lt-leb (length t) at h, ← e, ne_eqb n 0 z)

  pub turn-does : {size b : ℕ} {e : Event} {u : World} → record_refusal row t at (leb (length a) k) w ≡ 0 → size ≡ two t at → e ≡ event_at t at → u ≡ step row e w
      → b ≡ answer_byte (answer u.state) → progress_of 0 (at + 2 + size) (k + 1) u (set a k b) ≡ turn row t (progress_of 0 at k w a)
  unfolding turn
  turn-does r es ee eu eb = rw (lt-leb (length t) at h, r, es, eb, eu, ee)

-- A run that is over stays.
pub run-stays : (k : ℕ) (row : Row) (t : List ℕ) (p : Progress) → turn row t p ≡ p → run k row t p ≡ p
run-stays zero row t p e = refl
run-stays (suc k) row t p e = ap (run k row t) e ∙ run-stays k row t p e

pub run-turn : (limit n : ℕ) (row : Row) (t : List ℕ) (p : Progress) → n < limit → run (limit - n) row t p ≡ run (limit - (n + 1)) row t (turn row t p)
run-turn limit n row t p h = let e : limit - n ≡ suc (limit - (n + 1)) = omega arith in ap (λ (k : ℕ). run k row t p) e

-- One turn of any run, in the three ways that it can go.
module _ (row : Row) (t : List ℕ) (P : Progress → Progress → Type 0) (p : Progress) where
  pub by_turn : ((p.number ≡ 0 → p.taken < length t → ⊥) → turn row t p ≡ p → P p p)
      → ((r : ℕ) → p.number ≡ 0 → p.taken < length t → r ≡ refused_next row t p → (r ≡ 0 → ⊥) → P p (progress_of r p.taken p.done p.world p.answers))
      → ((u : World) (v : ℕ) → p.number ≡ 0 → p.taken < length t → refused_next row t p ≡ 0 → u ≡ step row (event_at t p.taken) p.world
      → P p (progress_of 0 (p.taken + 2 + two t p.taken) (p.done + 1) u (set p.answers p.done v)))
      → P p (turn row t p)
  by_turn over refused does = ends (eqb p.number 0) refl (leb (length t) p.taken) refl
    where
      stays : (p.number ≡ 0 → p.taken < length t → ⊥) → (not (eqb p.number 0) || leb (length t) p.taken) ≡ true → P p (turn row t p)
      stays n e = let o = turn-over row t p e in subst (P p) (sym o) (over n o)

      goes : p.number ≡ 0 → p.taken < length t → (r : ℕ) → refused_next row t p ≡ r → P p (turn row t p)
      goes z h zero e =
          let shape : p ≡ progress_of 0 p.taken p.done p.world p.answers = ap (λ (m : ℕ). progress_of m p.taken p.done p.world p.answers) z in
          let moved = turn-does row t p.done p.world p.answers h e refl refl refl refl in
          subst (P p) (moved ∙ ap (turn row t) (sym shape)) (does _ _ z h e refl)
      goes z h (suc r) e =
          let shape : p ≡ progress_of 0 p.taken p.done p.world p.answers = ap (λ (m : ℕ). progress_of m p.taken p.done p.world p.answers) z in
          let stopped = turn-refused row t p.done p.world p.answers h (sym e) (λ x. absurd (omega arith)) ∙ ap (turn row t) (sym shape) in
          subst (P p) stopped (refused (suc r) z h (sym e) (λ x. absurd (omega arith)))

      ends : (z : Bool) → eqb p.number 0 ≡ z → (b : Bool) → leb (length t) p.taken ≡ b → P p (turn row t p)
      ends false ez b eb = stays (λ z _. eqb-false p.number 0 ez z) (rw ez)
      ends true ez true eb = stays (λ _ h. absurd (omega (arith, leb-true (length t) p.taken eb))) (rw (ez, eb))
      ends true ez false eb = goes (eqb-true p.number 0 ez) (leb-false (length t) p.taken eb) _ refl

-- What holds after k turns of a run that has room for its answers.
pub record Course (row : Row) (t : List ℕ) (room k : ℕ) (p : Progress) : Type 0 where
  pub sound : Sound row p.world
  pub lent : Lent row p.world
  pub few : p.done * 4 ≤ p.taken
  pub inside : p.taken ≤ length t
  pub long : length p.answers ≡ room
  pub roomy : p.number ≡ 10 → ⊥
  pub counted : p.number ≡ 0 → p.taken < length t → p.done ≡ k

module _ (row : Row) (v : Widths row) (t : List ℕ) (room : ℕ) (enough : length t ≤ room) where
  module _ (k : ℕ) (p : Progress) (c : Course row t room k p) where
    over-course : (p.number ≡ 0 → p.taken < length t → ⊥) → Course row t room (suc k) p
    over-course o =
        record { sound = c.sound; lent = c.lent; few = c.few; inside = c.inside; long = c.long; roomy = c.roomy; counted = λ z h. absurd (o z h) }

    full : p.taken < length t → leb (length p.answers) p.done ≡ false
    full h = lt-leb (length p.answers) p.done (omega (arith, c.few, c.long, enough, h))

    refused-course : (r : ℕ) → p.taken < length t → r ≡ refused_next row t p → (r ≡ 0 → ⊥) → Course row t room (suc k) (progress_of r p.taken p.done p.world p.answers)
    refused-course r h e z =
        record {
          sound = c.sound;
          lent = c.lent;
          few = c.few;
          inside = c.inside;
          long = c.long;
          roomy = λ ten. clash (sym (ten-full row t p.taken p.world (sym e ∙ ten)) ∙ full h);
          counted = λ o _. absurd (z o);
        }

    does-course : (u : World) (b : ℕ) → p.number ≡ 0 → p.taken < length t → refused_next row t p ≡ 0 → u ≡ step row (event_at t p.taken) p.world
        → Course row t room (suc k) (progress_of 0 (p.taken + 2 + two t p.taken) (p.done + 1) u (set p.answers p.done b))
    does-course u b z h r eu =
        let f = ready r in
        let two-least : 2 ≤ two t p.taken = subst (λ (m : ℕ). 2 ≤ m) (sym f.size) (length-least (two t (p.taken + 2)) f.known) in
        let kept = preserved row v (event_at t p.taken) p.world c.sound c.lent in
        record {
          sound = subst (Sound row) (sym eu) kept.0;
          lent = subst (Lent row) (sym eu) kept.1;
          few = omega (arith, c.few, two-least);
          inside = omega (arith, f.body, h);
          long = length-set p.answers p.done b ∙ c.long;
          roomy = λ e. absurd (omega arith);
          counted = λ _ _. omega (arith, c.counted z h);
        }

  one-course : (k : ℕ) (p : Progress) → Course row t room k p → Course row t room (suc k) (turn row t p)
  one-course k p c =
      by_turn row t (λ (_ q : Progress). Course row t room (suc k) q) p (λ o _. over-course k p c o) (λ r _ h e z. refused-course k p c r h e z) (λ u b z h r e. does-course k p c u b z h r e)

  run-course : (k turns : ℕ) (p : Progress) → Course row t room k p → Course row t room (k + turns) (run turns row t p)
  run-course k zero p c = subst (λ (m : ℕ). Course row t room m p) (omega arith) c
  run-course k (suc turns) p c = subst (λ (m : ℕ). Course row t room m (run turns row t (turn row t p))) (omega arith) (run-course (suc k) turns (turn row t p) (one-course k p c))

  pub course : (w : World) (a : List ℕ) → Sound row w → Lent row w → length a ≡ room → (turns : ℕ) → Course row t room turns (run turns row t (progress_of 0 0 0 w a))
  course w a s l e turns =
      subst (λ (m : ℕ). Course row t room m (run turns row t (progress_of 0 0 0 w a))) (omega arith)
      (run-course 0 turns (progress_of 0 0 0 w a) (record { sound = s; lent = l; few = omega arith; inside = omega arith; long = e; roomy = λ z. absurd (omega arith); counted = λ _ _. refl }))

-- With as many turns as the trace has bytes a run comes to its end.
pub uncut : (row : Row) (t : List ℕ) (room turns : ℕ) (p : Progress) → length t ≤ turns → Course row t room turns p → Uncut t p
uncut row t room turns p enough c =
    record {
      room = c.roomy;
      whole = λ z. go (leb (length t) p.taken) refl z;
    }
  where
    go : (b : Bool) → leb (length t) p.taken ≡ b → p.number ≡ 0 → p.taken ≡ length t
    go true e z = omega (arith, leb-true (length t) p.taken e, c.inside)
    go false e z = let h = leb-false (length t) p.taken e in absurd (omega (arith, c.counted z h, h, c.few, enough, c.inside))
