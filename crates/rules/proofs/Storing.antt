-- What is stored, and a cycle, stay sound: at S's rise, which can start one, and as time passes.
use Rattle.std.specs.Prelude.{if◌then◌else◌}
use Prim.Native.Nat.{ℕ, zero, suc, ◌+◌, ◌-◌, ◌*◌, ◌/◌, ◌%◌, ◌<◌}
use mathlib.Core.Path.{◌≡◌, refl, sym, ap, ◌∙◌}
use mathlib.Core.Bool.{Bool, true, false, ◌&&◌}
use mathlib.Core.List.{List}
use native.Mathlib.Nat.{zero-mod, mod-lt}
use native.Mathlib.Omega.{arith}
use lib.ListN.{length, get_or, length-set}
use lib.Dec.{eqb, leb, lit<}
use borrow.Author.Tests.{leb-true, leb-false}
use Rattle.rules.specs.World.{Row, Kind, World, bit, number}
use Rattle.rules.specs.Device.{Widths}
use Rattle.rules.specs.Instruction.{facts, changes}
use Rattle.rules.specs.Judge.{storable, start_of}
use Rattle.rules.specs.Cycle.{written}
use Rattle.rules.specs.Sound.{of_page, SoundCycle, Unsettled}
use Rattle.rules.proofs.Choice.{if-elim, clash, and_right, and-rest}
use Rattle.rules.proofs.Received.{page-form}
use Rattle.rules.proofs.Widths.{page-below, start-aligned}

-- The stored bits of a byte are bits that the device has.
again : (srwd b : Bool) (q : ℕ) → q < 4 → (srwd ≡ false → b ≡ false)
    → ◌≡◌ {A = ℕ} (number (srwd && eqb ((number b * 128 + q * 4) / 128 % 2) 1) * 128 + (number b * 128 + q * 4) / 4 % 4 * 4) (number b * 128 + q * 4)
again true true q h f = let e : (128 + q * 4) / 128 % 2 ≡ 1 = omega arith in rw e (omega arith)
again true false q h f = let e : (0 + q * 4) / 128 % 2 ≡ 0 = omega arith in rw e (omega arith)
again false true q h f = clash (f refl)
again false false q h f = omega arith

pub storable-only : (row : Row) (v : ℕ) → storable row (storable row v) ≡ storable row v
storable-only row v = again row.srwd (row.srwd && bit v 7) (v / 4 % 4) (mod-lt (v / 4) (lit< tt)) (λ e. rw e)

-- What a done write starts is a sound cycle.
module _ {row : Row} (v : Widths row) (w : World) (h : Unsettled row w) where
  start-sound : (k : Kind) → (start_of row w.state k % row.page ≡ 0) × (start_of row w.state k < row.cells) × ((changes k).identification ≡ true → start_of row w.state k ≡ 0)
  start-sound Kind.None = (h.cycle.aligned, h.cycle.inside, λ e. clash (sym e))
  start-sound Kind.Array = (start-aligned row w.state.place.address, omega (arith, h.inside), λ e. clash (sym e))
  start-sound Kind.Identification = (zero-mod row.page, omega (arith, page-below v), λ _. refl)
  start-sound Kind.Status = (h.cycle.aligned, h.cycle.inside, λ e. clash (sym e))
  start-sound Kind.Lock = (h.cycle.aligned, h.cycle.inside, λ e. clash (sym e))

  pub begun-sound : (begins : Bool) (k : Kind) (b : ℕ) → (begins ≡ true → (changes k).runs ≡ true) → k ≡ (facts w.state.command.instruction).starts
      → SoundCycle row (if begins then k else w.state.cycle.kind) (if begins && (changes k).status then storable row b else w.state.cycle.next)
      (if begins then start_of row w.state k else w.state.place.start) (if begins then row.time else w.state.place.left)
  begun-sound false k b f g = h.cycle
  begun-sound true k b f g =
      let t = start-sound k in
      record {
        only = if-elim (λ (n : ℕ). storable row n ≡ n) (changes k).status (λ _. storable-only row b) (λ _. h.cycle.only);
        runs = λ _. (v.lasts, omega arith);
        rests = λ e. clash (sym (f refl) ∙ e);
        aligned = t.0;
        inside = t.1;
        first = t.2;
        has_page = λ e. h.page.instruction ((page-form w.state.command.instruction).1 (ap of_page (sym g) ∙ e));
      }

-- Written bytes are as many as before.
pub written-long : (n page : ℕ) (l : List ℕ) (a : ℕ) (m : List ℕ) → length (written n page l a m) ≡ length m
unfolding written
written-long zero page l a m = refl
written-long (suc n) page l a m =
    if-elim (λ (r : List ℕ). length r ≡ length m) (eqb (get_or l (page + n) 0) 1)
    (λ _. length-set (written n page l a m) (a + n) (get_or l n 0) ∙ written-long n page l a m)
    (λ _. written-long n page l a m)

-- A cycle ends, or goes on with less time left.
module _ {row : Row} (w : World) (n : ℕ) where
  pub left-sound : (e b : Bool) (k : Kind) → (b && leb w.state.place.left n) ≡ e → (changes k).runs ≡ b
      → SoundCycle row k w.state.cycle.next w.state.place.start w.state.place.left
      → SoundCycle row (if e then Kind.None else k) w.state.cycle.next w.state.place.start (w.state.place.left - n)
  left-sound true b k e f h =
      let short = leb-true w.state.place.left n (and_right b (leb w.state.place.left n) e) in
      record {
        only = h.only;
        runs = λ r. clash (sym r);
        rests = λ _. omega arith;
        aligned = h.aligned;
        inside = h.inside;
        first = λ r. clash (sym r);
        has_page = λ r. clash (sym r);
      }
  left-sound false b k e f h =
      let long : b ≡ true → n < w.state.place.left = λ r. leb-false w.state.place.left n (and-rest b (leb w.state.place.left n) e r) in
      record {
        only = h.only;
        runs = λ r. let t = h.runs r in let m = long (sym f ∙ r) in (omega arith, omega arith);
        rests = λ r. let t = h.rests r in omega arith;
        aligned = h.aligned;
        inside = h.inside;
        first = h.first;
        has_page = h.has_page;
      }
