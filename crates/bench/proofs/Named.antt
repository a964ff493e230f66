-- What the first record is refused with, or not, and what is known of one that is there and of its kind: laws that the documents have named; and the
-- room that the first two devices need, and the text of a run, from its answers with whatever follows them, which no contract states. No proof cites
-- them any more, since the search goes these ways by itself.
use Prim.Native.Nat.{ℕ, zero, suc, ◌≤◌, ◌<◌}
use mathlib.Core.Path.{◌≡◌, sym, ap, ◌∙◌}
use mathlib.Core.List.{List, ◌++◌}
use native.Mathlib.Omega.{arith}
use lib.ListN.{length, get_or, take}
use lib.Dec.{lit≤}
use lib.Seq.{take-append-le}
use borrow.Author.Tests.{ne_eqb, le-leb, lt-leb, lt-ltb, le-ltb}
use Rattle.rules.specs.declared.Row.{Row}
use Rattle.rules.specs.Device.{row_of, page_count}
use Rattle.rules.specs.Send.{status_byte}
use Rattle.rules.specs.Trace.{two, Progress}
use Rattle.rules.specs.Call.{first_record}
use Rattle.rules.specs.Program.{hexadecimal, header, lines, ended, bench_run, run_text}
use Rattle.text.specs.Put.{Put}
use Rattle.text.proofs.Putting.{same_text}
use Rattle.bench.proofs.Printing.{bench-ran}

module _ (input : List ℕ) (a : length input ≤ 32_768) where
  pub first_head : length input < 4 → 6 ≡ (first_record input).number
  unfolding first_record
  first_head h = rw (le-ltb 32_768 (length input) a, lt-ltb (length input) 4 h)

  module _ (b : 4 ≤ length input) {kind : ℕ} (ek : kind ≡ two input 2) where
    pub first_kind : (kind ≡ 16 → ⊥) → 7 ≡ (first_record input).number
    unfolding first_record
    first_kind h = rw (le-ltb 32_768 (length input) a, le-ltb (length input) 4 b, ← ek, ne_eqb kind 16 h)

    module _ (c : kind ≡ 16) {size : ℕ} (es : size ≡ two input 0) (d : size ≡ 3) where
      pub first_body : length input < 5 → 6 ≡ (first_record input).number
      unfolding first_record
      first_body h = rw (le-ltb 32_768 (length input) a, le-ltb (length input) 4 b, ← ek, c, ← es, d, lt-ltb (length input) 5 h)

-- What is known of a first record that is there and of its kind.
pub record Headed (input : List ℕ) : Type 0 where
  pub fits : length input ≤ 32_768
  pub head : 4 ≤ length input
  pub kind : two input 2 ≡ 16
  pub size : two input 0 ≡ 3
  pub body : 5 ≤ length input

pub headed : {input : List ℕ} {kind size : ℕ} → length input ≤ 32_768 → 4 ≤ length input → kind ≡ two input 2 → kind ≡ 16 → size ≡ two input 0 → size ≡ 3 → 5 ≤ length input → Headed input
headed fits head ek k es s body = record { fits = fits; head = head; kind = sym ek ∙ k; size = sym es ∙ s; body = body }

module _ {input : List ℕ} (k : Headed input) where
  pub first_below : get_or input 4 0 < 1 → 1 ≡ (first_record input).number
  unfolding first_record
  first_below h =
      rw (le-ltb 32_768 (length input) k.fits, le-ltb (length input) 4 k.head, k.kind, k.size, le-ltb (length input) 5 k.body, lt-leb 1 (get_or input 4 0) h)

  module _ (a : 1 ≤ get_or input 4 0) where
    pub first_above : 2 < get_or input 4 0 → 1 ≡ (first_record input).number
    unfolding first_record
    first_above h =
        rw (
          le-ltb 32_768 (length input) k.fits,
          le-ltb (length input) 4 k.head,
          k.kind,
          k.size,
          le-ltb (length input) 5 k.body,
          le-leb 1 (get_or input 4 0) a,
          lt-leb (get_or input 4 0) 2 h,
        )

    pub first_good : get_or input 4 0 ≤ 2 → 0 ≡ (first_record input).number
    unfolding first_record
    first_good h =
        rw (
          le-ltb 32_768 (length input) k.fits,
          le-ltb (length input) 4 k.head,
          k.kind,
          k.size,
          le-ltb (length input) 5 k.body,
          le-leb 1 (get_or input 4 0) a,
          le-leb (get_or input 4 0) 2 h,
        )

-- What the first two devices need of the room.
pub room : (device : ℕ) {row : Row} → row ≡ row_of device → 1 ≤ device → device ≤ 2
    → (row.cells ≤ 16_384) × (row.page ≤ 64) × (row.identification ≤ 64) × (page_count row ≤ 256)
room zero e a b = absurd (omega arith)
room (suc zero) e a b = rw e (lit≤ tt, lit≤ tt, lit≤ tt, lit≤ tt)
room (suc (suc zero)) e a b = rw e (lit≤ tt, lit≤ tt, lit≤ tt, lit≤ tt)
room (suc (suc (suc d))) e a b = absurd (omega arith)

-- The text of a run, from the answers with whatever follows them.
module _ (device : ℕ) (trace : List ℕ) {p : Progress} (a : 1 ≤ device) (b : device ≤ 2) (e : p ≡ bench_run device trace) where
  pub ran-text : (rest : List ℕ) {before after : List ℕ} {next : ℕ}
      → Put before 0 (header ++ lines 1 (take p.done (p.answers ++ rest)) ++ ended p.number (hexadecimal (status_byte p.world.state))) after next
      → Put before 0 (run_text (bench_run device trace)) after next
  unfolding run_text
  ran-text rest h =
      let ran = bench-ran device trace a b e in
      let same : take p.done (p.answers ++ rest) ≡ take p.done p.answers = take-append-le p.done p.answers rest (omega (arith, ran.few, ran.inside, ran.long)) in
      same_text (ap (λ (t : List ℕ). header ++ lines 1 t ++ ended p.number (hexadecimal (status_byte p.world.state))) same ∙ ap run_text e) h
