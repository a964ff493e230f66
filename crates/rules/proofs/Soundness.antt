-- The theorem `reads`: the test for soundness and the record of facts say the same.
use Rattle.std.specs.Prelude.{if◌then◌else◌}
use Prim.Native.Nat.{ℕ, zero, suc, ◌%◌, ◌^◌, ◌≤◌}
use mathlib.Core.Path.{◌≡◌, refl, sym, ap}
use mathlib.Core.Bool.{Bool, true, false, not, ◌&&◌, ◌||◌, beq}
use mathlib.Core.List.{List, [], ◌∷◌}
use native.Mathlib.Omega.{arith}
use lib.ListN.{get_or, drop}
use lib.Seq.{get_or-drop}
use lib.Dec.{eqb, leb}
use borrow.Author.Tests.{eqb-true, eqb-false, leb-true, ltb-true, eq-eqb, ne_eqb, le-leb, lt-ltb, not-true}
use Rattle.rules.specs.World.{Row, Level, World}
use Rattle.rules.specs.Device.{has_identification}
use Rattle.rules.specs.Instruction.{facts, changes, busy}
use Rattle.rules.specs.Judge.{storable}
use Rattle.rules.specs.Sound.{is_z, are_marks, of_page, clauses, is_sound, Sound, Reads}
use Rattle.rules.proofs.Choice.{clash, and_left, and_right, and_both, or-rest, implied, implying, each, all_of}

-- Tests that are no numbers'.
z-true : (q : Level) → is_z q ≡ true → q ≡ Level.Z
z-true Level.Low e = clash (sym e)
z-true Level.High e = clash (sym e)
z-true Level.Z e = refl

beq-true : (a b : Bool) → beq a b ≡ true → a ≡ b
beq-true true true e = refl
beq-true true false e = clash (sym e)
beq-true false true e = clash (sym e)
beq-true false false e = refl

beq_same : (b : Bool) → beq b b ≡ true
beq_same true = refl
beq_same false = refl

-- One of two holds if the second does wherever the first does not.
or-of : (a b : Bool) → (a ≡ false → b ≡ true) → (a || b) ≡ true
or-of true b f = refl
or-of false b f = f refl

turned-of : (n : ℕ) (taken away : Bool) → ((n ≡ 0 → ⊥) → taken ≡ false → away ≡ true) → (eqb n 0 || taken || away) ≡ true
turned-of n taken away f = or-of (eqb n 0 || taken) away (λ e. f (eqb-false n 0 (or-none (eqb n 0) taken e).0) (or-none (eqb n 0) taken e).1)
  where
    or-none : (a b : Bool) → (a || b) ≡ false → (a ≡ false) × (b ≡ false)
    or-none true b e = clash e
    or-none false b e = (refl, e)

marks-true : (ms : List ℕ) → are_marks ms ≡ true → (i : ℕ) → get_or ms i 0 ≤ 1
marks-true [] e i = omega arith
marks-true (m ∷ ms) e zero = leb-true m 1 (and_left (leb m 1) (are_marks ms) e)
marks-true (m ∷ ms) e (suc i) = marks-true ms (and_right (leb m 1) (are_marks ms) e) i

marks-of : (ms : List ℕ) → ((i : ℕ) → get_or ms i 0 ≤ 1) → are_marks ms ≡ true
marks-of [] f = refl
marks-of (m ∷ ms) f = and_both (leb m 1) (are_marks ms) (le-leb m 1 (f 0)) (marks-of ms (λ i. f (suc i)))

-- Time left, by whether a cycle runs.
module _ (left time : ℕ) where
  time-runs : (b : Bool) → (if b then leb 1 left && leb left time else eqb left 0) ≡ true → b ≡ true → (1 ≤ left) × (left ≤ time)
  time-runs true e f = (leb-true 1 left (and_left (leb 1 left) (leb left time) e), leb-true left time (and_right (leb 1 left) (leb left time) e))
  time-runs false e f = clash (sym f)

  time-rests : (b : Bool) → (if b then leb 1 left && leb left time else eqb left 0) ≡ true → b ≡ false → left ≡ 0
  time-rests true e f = clash f
  time-rests false e f = eqb-true left 0 e

  time-of : (b : Bool) → (b ≡ true → (1 ≤ left) × (left ≤ time)) → (b ≡ false → left ≡ 0) → (if b then leb 1 left && leb left time else eqb left 0) ≡ true
  time-of true f g = let h = f refl in and_both (leb 1 left) (leb left time) (le-leb 1 left h.0) (le-leb left time h.1)
  time-of false f g = eq-eqb left 0 (g refl)

module _ (row : Row) (w : World) where
  facts-of : is_sound row w.state w.latch ≡ true → Sound row w
  unfolding is_sound clauses
  facts-of e =
      let s = w.state in
      let on = s.selection.selected in
      let h = each (clauses row w.state w.latch) e in
      let h₅ = h.1.1.1.1.1 in
      let h₁₀ = h₅.1.1.1.1.1 in
      let h₁₅ = h₁₀.1.1.1.1.1 in
      let of-page = h₁₅.1.1.1 in
      record {
        unsettled =
            record {
              input =
                  record {
                    few = leb-true s.input.bits 7 h.0;
                    small = ltb-true s.input.value (2 ^ s.input.bits) h.1.0;
                    counted = leb-true s.input.bytes 6 h.1.1.0;
                  };
              inside = ltb-true s.place.address row.cells h.1.1.1.0;
              stored = eqb-true (storable row s.registers.status) s.registers.status h.1.1.1.1.0;
              page =
                  record {
                    lockable = implied s.registers.locked (has_identification row) of-page.0;
                    instruction = implied (facts s.command.instruction).identifies (has_identification row) of-page.1.1.0;
                  };
              cycle =
                  record {
                    only = eqb-true (storable row s.cycle.next) s.cycle.next h₅.0;
                    runs = time-runs s.place.left row.time (busy s) h₅.1.0;
                    rests = time-rests s.place.left row.time (busy s) h₅.1.0;
                    aligned = eqb-true (s.place.start % row.page) 0 h₅.1.1.0;
                    inside = ltb-true s.place.start row.cells h₅.1.1.1.0;
                    first = λ k. eqb-true s.place.start 0 (implied (changes s.cycle.kind).identification (eqb s.place.start 0) h₅.1.1.1.1.0 k);
                    has_page = implied (of_page s.cycle.kind) (has_identification row) of-page.1.0;
                  };
              off = λ o.
                  record {
                    held = not-true s.selection.held (implied (not on) (not s.selection.held) h₁₀.0 (ap not o));
                    bits = eqb-true s.input.bits 0 (implied (not on) (eqb s.input.bits 0) h₁₀.1.0 (ap not o));
                    bytes = eqb-true s.input.bytes 0 (implied (not on) (eqb s.input.bytes 0) h₁₀.1.1.0 (ap not o));
                    z = z-true s.output.q (implied (not on) (is_z s.output.q) h₁₀.1.1.1.0 (ap not o));
                  };
              low = λ o. not-true s.pins.s (implied on (not s.pins.s) h₁₀.1.1.1.1.0 o);
              saw = λ o e. or-rest s.pins.w s.selection.seen (implied on (s.pins.w || s.selection.seen) h₁₅.0 o) e;
              turned = λ b none t.
                  or-rest (eqb s.input.bytes 0 || (facts s.command.instruction).taken) s.command.away
                  (implied (busy s) (eqb s.input.bytes 0 || (facts s.command.instruction).taken || s.command.away) h₁₅.1.0 b)
                  (rw (ne_eqb s.input.bytes 0 none, t));
              marks = λ i. rw (get_or-drop row.page w.latch i 0) at (marks-true (drop row.page w.latch) of-page.1.1.1.0 i);
            };
        holds = λ o e.
            beq-true s.selection.held (not s.pins.hold)
            (or-rest s.pins.c (beq s.selection.held (not s.pins.hold))
            (implied on (s.pins.c || beq s.selection.held (not s.pins.hold)) h₁₅.1.1.0 o) e);
      }

  test_of : Sound row w → is_sound row w.state w.latch ≡ true
  unfolding is_sound clauses
  test_of k =
      let s = w.state in
      let on = s.selection.selected in
      let h = k.unsettled in
      let off : (not on ≡ true → on ≡ false) = not-true on in
      let turned = eqb s.input.bytes 0 || (facts s.command.instruction).taken || s.command.away in
      let settled = beq s.selection.held (not s.pins.hold) in
      all_of (clauses row w.state w.latch) (
        le-leb s.input.bits 7 h.input.few,
        (
          lt-ltb s.input.value (2 ^ s.input.bits) h.input.small,
          (
            le-leb s.input.bytes 6 h.input.counted,
            (
              lt-ltb s.place.address row.cells h.inside,
              (
                eq-eqb (storable row s.registers.status) s.registers.status h.stored,
                (
                  eq-eqb (storable row s.cycle.next) s.cycle.next h.cycle.only,
                  (
                    time-of s.place.left row.time (busy s) h.cycle.runs h.cycle.rests,
                    (
                      eq-eqb (s.place.start % row.page) 0 h.cycle.aligned,
                      (
                        lt-ltb s.place.start row.cells h.cycle.inside,
                        (
                          implying (changes s.cycle.kind).identification (eqb s.place.start 0) (λ e. eq-eqb s.place.start 0 (h.cycle.first e)),
                          (
                            implying (not on) (not s.selection.held) (λ e. ap not (h.off (off e)).held),
                            (
                              implying (not on) (eqb s.input.bits 0) (λ e. eq-eqb s.input.bits 0 (h.off (off e)).bits),
                              (
                                implying (not on) (eqb s.input.bytes 0) (λ e. eq-eqb s.input.bytes 0 (h.off (off e)).bytes),
                                (
                                  implying (not on) (is_z s.output.q) (λ e. ap is_z (h.off (off e)).z),
                                  (
                                    implying on (not s.pins.s) (λ e. ap not (h.low e)),
                                    (
                                      implying on (s.pins.w || s.selection.seen) (λ e. or-of s.pins.w s.selection.seen (h.saw e)),
                                      (
                                        implying (busy s) turned (λ e. turned-of s.input.bytes (facts s.command.instruction).taken s.command.away (h.turned e)),
                                        (
                                          implying on (s.pins.c || settled) (λ e. or-of s.pins.c settled (λ c. rw (k.holds e c) (beq_same (not s.pins.hold)))),
                                          (
                                            implying s.registers.locked (has_identification row) h.page.lockable,
                                            (
                                              implying (of_page s.cycle.kind) (has_identification row) h.cycle.has_page,
                                              (
                                                implying (facts s.command.instruction).identifies (has_identification row) h.page.instruction,
                                                (
                                                  marks-of (drop row.page w.latch) (λ i. rw (get_or-drop row.page w.latch i 0) (h.marks i)),
                                                  tt,
                                                ),
                                              ),
                                            ),
                                          ),
                                        ),
                                      ),
                                    ),
                                  ),
                                ),
                              ),
                            ),
                          ),
                        ),
                      ),
                    ),
                  ),
                ),
              ),
            ),
          ),
        ),
      )

pub reads : Reads
reads row w = (facts-of row w, test_of row w)
