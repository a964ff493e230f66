-- What holds at every turn of a run, and how one turn keeps it.
use Rattle.std.specs.Prelude.{if◌then◌else◌}
use Prim.Native.Nat.{ℕ, ◌+◌, ◌-◌, ◌≤◌, ◌<◌}
use mathlib.Core.Path.{◌≡◌, refl, sym, ap, ◌∙◌, subst}
use mathlib.Core.Bool.{Bool, true, false}
use mathlib.Core.List.{List}
use native.Mathlib.Omega.{arith}
use lib.ListN.{length, set, length-set}
use lib.Dec.{leb, ltb}
use borrow.Author.Tests.{ne_eqb, le-leb, lt-leb, ltb-true}
use Rattle.rules.specs.declared.Row.{Row}
use Rattle.rules.specs.declared.Event.{Event}
use Rattle.rules.specs.World.{number, World}
use Rattle.rules.specs.Device.{Widths}
use Rattle.rules.specs.Sound.{Sound, Lent}
use Rattle.rules.specs.Event.{step, next, answer, refusal}
use Rattle.rules.specs.Trace.{two, pin_event, event_at, record_refusal, answer_byte, Progress, progress_of, turn, run}
use Rattle.rules.proofs.Preserved.{preserved}
use Rattle.rules.proofs.Runs.{turn-refused, turn-does, run-stays, run-turn}
use Rattle.traces.specs.Form.{form_refusal}
use Rattle.traces.specs.Quick.{IsPin}
use Rattle.traces.proofs.Reading.{event-refused}
use Rattle.traces.proofs.Short.{pin-done}

-- The turn of a record that is done, with any spelling of the place behind it and of the count.
module _ (row : Row) (t : List ℕ) {at : ℕ} (n : ℕ) (w : World) (a : List ℕ) (h : at < length t) where
  pub turn-ends : {size b : ℕ} {e : Event} {u : World} → record_refusal row t at (leb (length a) n) w ≡ 0 → size ≡ two t at → e ≡ event_at t at → u ≡ step row e w
      → b ≡ answer_byte (answer u.state) → {next done : ℕ} → next ≡ at + 2 + size → done ≡ n + 1 → progress_of 0 next done u (set a n b) ≡ turn row t (progress_of 0 at n w a)
  turn-ends r es ee eu eb en ed = rw (en, ed) (turn-does row t n w a h r es ee eu eb)

-- The turn of a record that is good by its form, and whose event is tried: refused it stays where it was, with the world; done it goes on.
module _ (row : Row) (t : List ℕ) {at : ℕ} (n : ℕ) (w : World) (a : List ℕ) (h : at < length t) {r m : ℕ} {e : Event} {u : World}
    (er : r ≡ form_refusal t at (leb (length a) n)) (z : r ≡ 0) (ee : e ≡ event_at t at) (em : m ≡ refusal row e w) (eu : u ≡ next row e w) where
  pub turn-barred : (m ≡ 0 → ⊥) → progress_of m at n u a ≡ turn row t (progress_of 0 at n w a)
  unfolding next
  turn-barred k =
      let stays : u ≡ w = eu ∙ rw (← em, ne_eqb m 0 k) in
      ap (λ (x : World). progress_of m at n x a) stays ∙ turn-refused row t n w a h (event-refused row t at (leb (length a) n) w er z ee em) k

  pub turn-tried : m ≡ 0 → {size b : ℕ} → size ≡ two t at → b ≡ answer_byte (answer u.state) → {past done : ℕ} → past ≡ at + 2 + size → done ≡ n + 1
      → progress_of 0 past done u (set a n b) ≡ turn row t (progress_of 0 at n w a)
  unfolding next
  turn-tried k es eb en ed =
      let does : u ≡ step row e w = eu ∙ rw (← em, k) in
      turn-ends row t n w a h (sym (event-refused row t at (leb (length a) n) w er z ee em) ∙ k) es ee does eb en ed

pub record Kept (row : Row) (t : List ℕ) (limit : ℕ) (w₀ : World) (a₀ : List ℕ) (w : World) (a : List ℕ) (at n : ℕ) : Type 0 where
  pub sound : Sound row w
  pub lent : Lent row w
  pub long : length a ≡ length a₀
  pub below : n ≤ limit
  pub same : run limit row t (progress_of 0 0 0 w₀ a₀) ≡ run (limit - n) row t (progress_of 0 at n w a)

-- It holds of the count however that is spelled.
pub counted : {row : Row} {t : List ℕ} {limit : ℕ} {w₀ : World} {a₀ : List ℕ} {w : World} {a : List ℕ} {at n m : ℕ} → n ≡ m → Kept row t limit w₀ a₀ w a at n → Kept row t limit w₀ a₀ w a at m
counted {row} {t} {limit} {w₀} {a₀} {w} {a} {at} e k = subst (λ (c : ℕ). Kept row t limit w₀ a₀ w a at c) e k

module _ {row : Row} {t : List ℕ} {limit : ℕ} {w₀ : World} {a₀ : List ℕ} {w : World} {a : List ℕ} {at n : ℕ} (k : Kept row t limit w₀ a₀ w a at n) where
  pub ends-trace : length t ≤ at → progress_of 0 at n w a ≡ run limit row t (progress_of 0 0 0 w₀ a₀)
  unfolding turn
  ends-trace h = sym (k.same ∙ run-stays (limit - n) row t (progress_of 0 at n w a) (rw (le-leb (length t) at h)))

  pub ends-limit : limit ≤ n → progress_of 0 at n w a ≡ run limit row t (progress_of 0 0 0 w₀ a₀)
  ends-limit h = let e : limit - n ≡ 0 = omega (arith, h, k.below) in sym (k.same ∙ ap (λ (m : ℕ). run m row t (progress_of 0 at n w a)) e)

  pub ends-refused : {q : Progress} → n < limit → q ≡ turn row t (progress_of 0 at n w a) → (q.number ≡ 0 → ⊥) → q ≡ run limit row t (progress_of 0 0 0 w₀ a₀)
  unfolding turn
  ends-refused {q} h e z =
      sym (k.same ∙ run-turn limit n row t (progress_of 0 at n w a) h ∙ ap (run (limit - (n + 1)) row t) (sym e) ∙ run-stays (limit - (n + 1)) row t q (rw (ne_eqb q.number 0 z)))

  module _ (v : Widths row) (inside : at < length t) (more : n < limit) where
    -- The turn of a record that is not refused.
    abbrev moved : Progress
    moved = let u = step row (event_at t at) w in progress_of 0 (at + 2 + two t at) (n + 1) u (set a n (answer_byte (answer u.state)))

    does : (turn row t (progress_of 0 at n w a)).number ≡ 0 → record_refusal row t at (leb (length a) n) w ≡ 0
    unfolding turn
    does e = subst (λ (b : Bool). (if b then 0 else record_refusal row t at (leb (length a) n) w) ≡ 0) (lt-leb (length t) at inside) e

    is-moved : {q : Progress} → q ≡ turn row t (progress_of 0 at n w a) → q.number ≡ 0 → q ≡ moved
    is-moved e z =
        e ∙ sym (turn-does row t n w a inside (does (ap (λ (x : Progress). x.number) (sym e) ∙ z)) refl refl refl refl)

    pub one_more : {q : Progress} → q ≡ turn row t (progress_of 0 at n w a) → q.number ≡ 0 → q.done ≡ n + 1
    one_more e z = ap (λ (x : Progress). x.done) (is-moved e z)

    pub goes_on : {q : Progress} → q ≡ turn row t (progress_of 0 at n w a) → q.number ≡ 0 → Kept row t limit w₀ a₀ q.world q.answers q.taken q.done
    goes_on {q} e z =
        let m = is-moved e z in
        let p = preserved row v (event_at t at) w k.sound k.lent in
        let done : q.done ≡ n + 1 = one_more e z in
        let shape : q ≡ progress_of 0 q.taken q.done q.world q.answers = ap (λ (m : ℕ). progress_of m q.taken q.done q.world q.answers) z in
        record {
          sound = subst (λ (x : Progress). Sound row x.world) (sym m) p.0;
          lent = subst (λ (x : Progress). Lent row x.world) (sym m) p.1;
          long = ap (λ (x : Progress). length x.answers) m ∙ length-set a n _ ∙ k.long;
          below = omega arith;
          same =
              k.same ∙ run-turn limit n row t (progress_of 0 at n w a) more ∙ ap (run (limit - (n + 1)) row t) (sym e ∙ shape)
              ∙ ap (λ (m : ℕ). run (limit - m) row t (progress_of 0 q.taken q.done q.world q.answers)) (sym done);
        }

    -- A short way: a pin record with room, whose event does this.
    pub pin-on : {p b : ℕ} {e : Event} {u : World} → IsPin t at p → p ≤ 9 → pin_event p ≡ e → refusal row e w ≡ 0 → ltb n (length a) ≡ true → u ≡ step row e w → b ≡ answer_byte (answer u.state)
        → Kept row t limit w₀ a₀ u (set a n b) (at + 5) (n + 1)
    pin-on {p} {b} {e} {u} h le ep z room eu eb =
        let full : leb (length a) n ≡ false = lt-leb (length a) n (ltb-true n (length a) room) in
        let d = pin-done row w h le (rw ep z) in
        let r : record_refusal row t at (leb (length a) n) w ≡ 0 = rw full d.0 in
        let q : progress_of 0 (at + 2 + 3) (n + 1) u (set a n b) ≡ turn row t (progress_of 0 at n w a) = turn-does row t n w a inside r (sym h.size) (sym ep ∙ d.1) eu eb in
        subst (λ (m : ℕ). Kept row t limit w₀ a₀ u (set a n b) m (n + 1)) (omega arith) (goes_on q refl)

pub data-pin : (v : Bool) → pin_event (2 + number v) ≡ Event.Data v
data-pin true = refl
data-pin false = refl
