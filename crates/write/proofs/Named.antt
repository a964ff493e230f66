-- What S's rise and a wait decide, told of the code's own tests: laws that the documents have named, and that no proof cites any more, since the
-- search goes these ways by itself.
use Prim.Native.Nat.{ℕ}
use mathlib.Core.Path.{◌≡◌, refl, sym, ap, ◌∙◌}
use mathlib.Core.Bool.{Bool, true, false, not, ◌&&◌, ◌||◌, true≢false}
use mathlib.Core.List.{List}
use lib.Dec.{leb}
use borrow.Author.Tests.{not-true, not-false}
use Rattle.rules.specs.declared.Row.{Row}
use Rattle.rules.specs.declared.Facts.{Facts}
use Rattle.rules.specs.declared.Kind.{Kind}
use Rattle.rules.specs.declared.Registers.{Registers}
use Rattle.rules.specs.declared.Change.{Change}
use Rattle.rules.specs.declared.State.{State}
use Rattle.rules.specs.World.{with_stored, world_of}
use Rattle.rules.specs.Instruction.{facts, changes}
use Rattle.rules.specs.Judge.{is_done, judged}
use Rattle.rules.specs.Cycle.{written, recounted, ends, waited_state, waited}
use Rattle.rules.proofs.Choice.{and_right}

-- The stored bits and the lock as they were, and WEL as the instruction leaves it.
abbrev latched : Facts → State → Registers
latched f s = record { status = s.registers.status; wel = f.sets || s.registers.wel && not f.resets; locked = s.registers.locked }

module _ (row : Row) (s : State) {done : Bool} (ed : done ≡ is_done row s) where
  module _ (h : not done ≡ false) {f : Facts} {c : Change} (ef : f ≡ facts s.command.instruction) (ec : c ≡ changes f.starts) where
    yes : is_done row s ≡ true
    yes = sym ed ∙ not-false done h

    runs-at : (b : Bool) → c.runs ≡ b → (changes (facts s.command.instruction).starts).runs ≡ b
    runs-at b e = ap (λ (x : Facts). (changes x.starts).runs) (sym ef) ∙ ap (λ (x : Change). x.runs) (sym ec) ∙ e

    pub judge-latch : not c.runs ≡ true → with_stored (latched f s) s.cycle s.place.start s.place.left s ≡ judged row s
    unfolding judged
    judge-latch e = rw (yes, runs-at false (not-true c.runs e), ef)

module _ (s : State) (n : ℕ) {c : Change} (ec : c ≡ changes s.cycle.kind) where
  pub ends_at : (b : Bool) → (c.runs && leb s.place.left n) ≡ b → ends n s ≡ b
  ends_at b h = ap (λ (x : Change). x.runs && leb s.place.left n) (sym ec) ∙ h

-- No cycle writes to both.
one_list : (k : Kind) → (changes k).cells ≡ true → (changes k).identification ≡ false
one_list Kind.None e = refl
one_list Kind.Array e = refl
one_list Kind.Identification e = absurd (true≢false (sym e))
one_list Kind.Status e = refl
one_list Kind.Lock e = refl

and_none : (a b : Bool) → b ≡ false → (a && b) ≡ false
and_none true b e = e
and_none false b e = refl

module _ (row : Row) (s t : State) (n : ℕ) (cells identification latch counts : List ℕ) {c : Change} (ec : c ≡ changes s.cycle.kind) (et : t ≡ waited_state n s) where
  to-cells : (b : Bool) → (c.runs && leb s.place.left n && c.cells) ≡ b → (ends n s && (changes s.cycle.kind).cells) ≡ b
  to-cells b h = ap (λ (x : Change). x.runs && leb s.place.left n && x.cells) (sym ec) ∙ h

  pub wait-cells : {m k : List ℕ} → (c.runs && leb s.place.left n && c.cells) ≡ true → m ≡ written row.page row.page latch s.place.start cells
      → k ≡ recounted row s.place.start m counts → world_of t m identification latch k ≡ waited row n (world_of s cells identification latch counts)
  unfolding waited
  wait-cells h em ek =
      let e = to-cells true h in
      let none = and_none (ends n s) (changes s.cycle.kind).identification (one_list s.cycle.kind (and_right (ends n s) (changes s.cycle.kind).cells e)) in
      rw (et, ek, em, e, none)
