-- The theorem `pieces`: a trace may be run in pieces.
use Rattle.std.specs.Prelude.{if◌then◌else◌}
use Prim.Native.Nat.{ℕ, zero, suc, ◌+◌, ◌-◌, ◌≤◌, ◌<◌}
use mathlib.Core.Path.{◌≡◌, refl, sym, ap, ◌∙◌, subst}
use mathlib.Core.Bool.{Bool, true, false, not, ◌&&◌, ◌||◌}
use mathlib.Core.List.{List, [], ◌∷◌, ◌++◌}
use native.Mathlib.Omega.{arith}
use lib.ListN.{get_or, set, take, drop, length, get_or-append, length-append, length-drop, length-set, take-append-drop}
use lib.Seq.{get_or-drop, length-take-le}
use lib.Dec.{eqb, leb}
use borrow.Author.Tests.{eq-eqb, ne_eqb, le-leb, lt-leb, le-ltb, eqb-true, leb-true, leb-false}
use Rattle.rules.specs.World.{Row, Event, World}
use Rattle.rules.specs.Event.{step, answer}
use Rattle.rules.specs.Trace.{two, length_of, pin_event, event_at, bad_pin, record_refusal, answer_byte, Progress, progress_of, turn, run, Pieces}
use Rattle.rules.proofs.Choice.{if-elim, if-both}
use Rattle.rules.proofs.Runs.{Ready, ready, refused_next, turn-over, turn-does, run-stays, by_turn}

-- No turn takes a record back.
turn-done : (row : Row) (t : List ℕ) (p : Progress) → p.done ≤ (turn row t p).done
unfolding turn
turn-done row t p =
    let over = not (eqb p.number 0) || leb (length t) p.taken in
    let n = if over then p.number else refused_next row t p in
    if-elim (λ (k : ℕ). p.done ≤ k) (not over && eqb n 0) (λ _. omega arith) (λ _. omega arith)

run-done : (k : ℕ) (row : Row) (t : List ℕ) (p : Progress) → p.done ≤ (run k row t p).done
run-done zero row t p = omega arith
run-done (suc k) row t p = omega (arith, turn-done row t p, run-done k row t (turn row t p))

-- A record that is done in the first piece is done in the same way in the whole trace.
module _ {row : Row} (a b : List ℕ) {at : ℕ} {full : Bool} {w : World} (f : Ready row a at full w) where
  same_byte : (i : ℕ) → i < length a → get_or (a ++ b) i 0 ≡ get_or a i 0
  same_byte i h = get_or-append a b 0 i h

  same-two : (i : ℕ) → i + 1 < length a → two (a ++ b) i ≡ two a i
  same-two i h = rw (same_byte i (omega arith), same_byte (i + 1) h)

  same_size : two (a ++ b) at ≡ two a at
  same_size = same-two at (omega (arith, f.head))

  same_kind : two (a ++ b) (at + 2) ≡ two a (at + 2)
  same_kind = same-two (at + 2) (omega (arith, f.head))

  long : (n : ℕ) → two a (at + 2) ≡ n → at + 2 + length_of n ≤ length a
  long n e = omega (arith, f.body, f.head, f.size, ap length_of e)

  same-pin : bad_pin (a ++ b) at (two a (at + 2)) ≡ false
  same-pin = go (eqb (two a (at + 2)) 1) refl
    where
      go : (t : Bool) → eqb (two a (at + 2)) 1 ≡ t → bad_pin (a ++ b) at (two a (at + 2)) ≡ false
      go true e = rw (same_byte (at + 4) (omega (arith, long 1 (eqb-true (two a (at + 2)) 1 e)))) f.pin
      go false e = rw e

  same-event : event_at (a ++ b) at ≡ event_at a at
  unfolding event_at
  same-event =
      rw same_kind
      (if-both (λ (x y : Event). x ≡ y) (eqb (two a (at + 2)) 1)
      (λ e. ap pin_event (same_byte (at + 4) (omega (arith, long 1 (eqb-true (two a (at + 2)) 1 e)))))
      (λ _. if-both (λ (x y : Event). x ≡ y) (eqb (two a (at + 2)) 2)
      (λ e. let h = long 2 (eqb-true (two a (at + 2)) 2 e) in ap Event.Wait (rw (same-two (at + 4) (omega (arith, h)), same-two (at + 4 + 2) (omega (arith, h)))))
      (λ _. refl)))

  same-refusal : record_refusal row (a ++ b) at full w ≡ 0
  unfolding record_refusal
  same-refusal =
      let more : length (a ++ b) ≡ length a + length b = length-append a b in
      let left = length (a ++ b) - at in
      let right = length_of (two a (at + 2)) in
      let head = le-ltb left 4 (omega (arith, more, f.head)) in
      let body = le-ltb left (2 + two a at) (omega (arith, more, f.body)) in
      rw (same_kind, same_size, same-pin, head, ne_eqb right 0 f.known, eq-eqb (two a at) right f.size, body, f.room, same-event, f.taken)

-- A run stays within its trace and its answer bytes.
abbrev Within : List ℕ → Progress → Type 0
Within t p = (p.taken ≤ length t) × (p.done ≤ length p.answers)

turn-within : (row : Row) (t : List ℕ) (p : Progress) → Within t p → Within t (turn row t p)
turn-within row t p =
    by_turn row t (λ (p q : Progress). Within t p → Within t q) p (λ _ _ i. i) (λ r _ _ _ _ i. i)
    (λ u v z h r _ i.
    let f = ready r in
    (omega (arith, f.body, h), omega (arith, leb-false (length p.answers) p.done f.room, length-set p.answers p.done v)))

run-within : (k : ℕ) (row : Row) (t : List ℕ) (p : Progress) → Within t p → Within t (run k row t p)
run-within zero row t p h = h
run-within (suc k) row t p h = run-within k row t (turn row t p) (turn-within row t p h)

-- A run that a piece's end stopped, ready to go on.
abbrev resumed : Progress → Progress
resumed p = progress_of 0 p.taken p.done p.world p.answers

-- The whole trace's run comes by the place where the first piece's run stopped.
module _ (row : Row) (a b : List ℕ) (m : ℕ) where
  abbrev Passes : Progress → Progress → Type 0
  Passes p q = run (q.done - p.done + m) row (a ++ b) p ≡ run m row (a ++ b) (resumed q)

  stopped : (p q : Progress) → q.done ≡ p.done → p ≡ resumed q → Passes p q
  stopped p q e f = let none : q.done - p.done + m ≡ m = omega (arith, e) in ap (λ (j : ℕ). run j row (a ++ b) p) none ∙ ap (run m row (a ++ b)) f

  same_turn : (p : Progress) → p.number ≡ 0 → p.taken < length a → refused_next row a p ≡ 0 → turn row (a ++ b) p ≡ turn row a p
  same_turn p z h r =
      let at = p.taken in
      let f = ready r in
      let shape : p ≡ progress_of 0 at p.done p.world p.answers = ap (λ (n : ℕ). progress_of n at p.done p.world p.answers) z in
      ap (turn row (a ++ b)) shape
      ∙ sym (turn-does row (a ++ b) p.done p.world p.answers (omega (arith, h, length-append a b)) (same-refusal a b f) (sym (same_size a b f)) (sym (same-event a b f)) refl refl)
      ∙ turn-does row a p.done p.world p.answers h r refl refl refl refl
      ∙ ap (turn row a) (sym shape)

  passes : (k : ℕ) (p : Progress) → p.number ≡ 0 → Passes p (run k row a p)
  passes zero p z = stopped p p refl (ap (λ (n : ℕ). progress_of n p.taken p.done p.world p.answers) z)
  passes (suc k) p z =
      by_turn row a (λ (p q : Progress). p.number ≡ 0 → turn row a p ≡ q → Passes p (run k row a q)) p
      (λ _ o z e. subst (Passes p) (sym (run-stays k row a p o)) (stopped p p refl (ap (λ (n : ℕ). progress_of n p.taken p.done p.world p.answers) z)))
      (λ r _ _ _ nz z e.
      let q = progress_of r p.taken p.done p.world p.answers in
      subst (Passes p) (sym (run-stays k row a q (turn-over row a q (rw (ne_eqb r 0 nz))))) (stopped p q refl (ap (λ (n : ℕ). progress_of n p.taken p.done p.world p.answers) z)))
      (λ u v z h r _ _ e.
      let q = progress_of 0 (p.taken + 2 + two a p.taken) (p.done + 1) u (set p.answers p.done v) in
      let end = run k row a q in
      let one : end.done - p.done + m ≡ suc (end.done - (p.done + 1) + m) = omega (arith, run-done k row a q) in
      ap (λ (j : ℕ). run j row (a ++ b) p) one ∙ ap (run (end.done - (p.done + 1) + m) row (a ++ b)) (same_turn p z h r ∙ e) ∙ passes k q refl)
      z refl

-- A run further on in a longer trace, with its answers behind others.
abbrev further : ℕ → List ℕ → Progress → Progress
further t xs p = progress_of p.number (t + p.taken) (length xs + p.done) p.world (xs ++ p.answers)

set-behind : (xs ys : List ℕ) (k v : ℕ) → set (xs ++ ys) (length xs + k) v ≡ xs ++ set ys k v
set-behind [] ys k v = ap (λ (j : ℕ). set ys j v) (omega arith)
set-behind (x ∷ xs) ys k v =
    let e : suc (length xs) + k ≡ suc (length xs + k) = omega arith in
    ap (λ (j : ℕ). set (x ∷ (xs ++ ys)) j v) e ∙ ap (λ (l : List ℕ). x ∷ l) (set-behind xs ys k v)

full-there : (xs ys : List ℕ) (k : ℕ) → leb (length (xs ++ ys)) (length xs + k) ≡ leb (length ys) k
full-there xs ys k = go (leb (length ys) k) refl
  where
    go : (b : Bool) → leb (length ys) k ≡ b → leb (length (xs ++ ys)) (length xs + k) ≡ b
    go true e = le-leb (length (xs ++ ys)) (length xs + k) (omega (arith, length-append xs ys, leb-true (length ys) k e))
    go false e = lt-leb (length (xs ++ ys)) (length xs + k) (omega (arith, length-append xs ys, leb-false (length ys) k e))

module _ (l : List ℕ) (t : ℕ) (h : t ≤ length l) where
  there : (i : ℕ) → get_or l (t + i) 0 ≡ get_or (drop t l) i 0
  there i = sym (get_or-drop t l i 0)

  two-there : (i : ℕ) → two l (t + i) ≡ two (drop t l) i
  two-there i = let e : t + i + 1 ≡ t + (i + 1) = omega arith in rw (e, there i, there (i + 1))

  left_there : (i : ℕ) → length l - (t + i) ≡ length (drop t l) - i
  left_there i = omega (arith, length-drop t l)

  over-there : (i : ℕ) → leb (length l) (t + i) ≡ leb (length (drop t l)) i
  over-there i = go (leb (length (drop t l)) i) refl
    where
      go : (b : Bool) → leb (length (drop t l)) i ≡ b → leb (length l) (t + i) ≡ b
      go true e = le-leb (length l) (t + i) (omega (arith, h, length-drop t l, leb-true (length (drop t l)) i e))
      go false e = lt-leb (length l) (t + i) (omega (arith, h, length-drop t l, leb-false (length (drop t l)) i e))

  event-there : (i : ℕ) → event_at l (t + i) ≡ event_at (drop t l) i
  unfolding event_at
  event-there i =
      let e2 : t + i + 2 ≡ t + (i + 2) = omega arith in
      let e4 : t + i + 4 ≡ t + (i + 4) = omega arith in
      let e6 : t + (i + 4) + 2 ≡ t + (i + 4 + 2) = omega arith in
      rw (e2, e4, e6, two-there (i + 2), two-there (i + 4), two-there (i + 4 + 2), there (i + 4))

  refusal-there : (row : Row) (i : ℕ) (full : Bool) (w : World) → record_refusal row l (t + i) full w ≡ record_refusal row (drop t l) i full w
  unfolding record_refusal
  refusal-there row i full w =
      let e2 : t + i + 2 ≡ t + (i + 2) = omega arith in
      let e4 : t + i + 4 ≡ t + (i + 4) = omega arith in
      rw (e2, e4, left_there i, two-there i, two-there (i + 2), there (i + 4), event-there i)

  -- The fields of a turn, further on.
  push : (xs : List ℕ) (d : Bool) (n at k size v : ℕ) (u w : World) (ys : List ℕ)
      → progress_of n (if d then t + at + 2 + size else t + at) (if d then length xs + k + 1 else length xs + k) (if d then u else w) (if d then set (xs ++ ys) (length xs + k) v else xs ++ ys)
      ≡ further t xs (progress_of n (if d then at + 2 + size else at) (if d then k + 1 else k) (if d then u else w) (if d then set ys k v else ys))
  push xs true n at k size v u w ys =
      let e : t + at + 2 + size ≡ t + (at + 2 + size) = omega arith in
      let f : length xs + k + 1 ≡ length xs + (k + 1) = omega arith in
      rw (e, f, set-behind xs ys k v)
  push xs false n at k size v u w ys = refl

  turn-further : (row : Row) (xs : List ℕ) (p : Progress) → turn row l (further t xs p) ≡ further t xs (turn row (drop t l) p)
  unfolding turn
  turn-further row xs p =
      let full = leb (length p.answers) p.done in
      let room : leb (length (xs ++ p.answers)) (length xs + p.done) ≡ full = full-there xs p.answers p.done in
      let over = not (eqb p.number 0) || leb (length (drop t l)) p.taken in
      let n = if over then p.number else refused_next row (drop t l) p in
      let u = step row (event_at (drop t l) p.taken) p.world in
      rw (over-there p.taken, room, refusal-there row p.taken full p.world, event-there p.taken, two-there p.taken)
      (push xs (not over && eqb n 0) n p.taken p.done (two (drop t l) p.taken) (answer_byte (answer u.state)) u p.world p.answers)

  run-further : (m : ℕ) (row : Row) (xs : List ℕ) (p : Progress) → run m row l (further t xs p) ≡ further t xs (run m row (drop t l) p)
  run-further zero row xs p = refl
  run-further (suc m) row xs p = ap (run m row l) (turn-further row xs p) ∙ run-further m row xs (turn row (drop t l) p)

pub pieces : Pieces
pieces row a b w answers k m =
    let p = run k row a (progress_of 0 0 0 w answers) in
    let xs = take p.done p.answers in
    let ys = drop p.done p.answers in
    let inside = run-within k row a (progress_of 0 0 0 w answers) (omega arith, omega arith) in
    let none : p.done + m ≡ p.done - 0 + m = omega arith in
    let size : length xs ≡ p.done = length-take-le p.done p.answers inside.1 in
    let first : p.taken + 0 ≡ p.taken = omega arith in
    let none_yet : length xs + 0 ≡ p.done = omega (arith, size) in
    let start : resumed p ≡ further p.taken xs (progress_of 0 0 0 p.world ys) = rw (first, none_yet, take-append-drop p.done p.answers) in
    let q = run m row (drop p.taken (a ++ b)) (progress_of 0 0 0 p.world ys) in
    ap (λ (j : ℕ). run j row (a ++ b) (progress_of 0 0 0 w answers)) none
    ∙ passes row a b m k (progress_of 0 0 0 w answers) refl
    ∙ ap (run m row (a ++ b)) start
    ∙ run-further (a ++ b) p.taken (omega (arith, inside.0, length-append a b)) m row xs (progress_of 0 0 0 p.world ys)
    ∙ ap (λ (d : ℕ). progress_of q.number (p.taken + q.taken) (d + q.done) q.world (xs ++ q.answers)) size
