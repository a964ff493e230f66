-- What C's rise does with a bit, with a byte and with an address, laws that the documents have named; and that an address of the identification page
-- which C's fall finds not past its end lies within it, which no contract states. No proof cites them any more, since the search goes these ways by
-- itself.
use Prim.Native.Nat.{ℕ, ◌+◌, ◌%◌, ◌<◌}
use mathlib.Core.Path.{◌≡◌, sym, ap, ◌∙◌}
use mathlib.Core.Bool.{Bool, false}
use native.Mathlib.Nat.{mod-lt}
use native.Mathlib.Omega.{arith}
use lib.Pow.{pow_mono}
use borrow.Author.Tests.{ne_eqb, leb-false}
use Rattle.rules.specs.declared.Row.{Row}
use Rattle.rules.specs.declared.Source.{Source}
use Rattle.rules.specs.declared.Input.{Input}
use Rattle.rules.specs.declared.State.{State}
use Rattle.rules.specs.Device.{Widths}
use Rattle.rules.specs.Receive.{is_address, is_last, is_latched, address_after, input_after}
use Rattle.rules.specs.Send.{going}
use Rattle.rules.specs.Sound.{SoundInput}
use Rattle.rules.proofs.Widths.{page-positive}

-- A sound value has room for a bit more.
pub value_room : {i : Input} → SoundInput i → i.value < 128
value_room {i} h = omega (arith, h.small, pow_mono h.few)

module _ (i : Input) (v : ℕ) where
  pub one_bit : (i.bits ≡ 7 → ⊥) → record { bits = i.bits + 1; value = v; bytes = i.bytes; last = i.last } ≡ input_after v i
  one_bit e = rw (ne_eqb i.bits 7 e)

-- A place in a page is below the page's length.
pub place_inside : {row : Row} → Widths row → (a : ℕ) {p : ℕ} → p ≡ a % row.page → p < row.page
place_inside {row} v a e = rw e (mod-lt a {m = row.page} (page-positive v))

-- A whole byte that is no code, no byte of an address, and no data for the latch.
module _ (row : Row) (b : ℕ) (s : State) (nz : s.input.bytes ≡ 0 → ⊥) {last : Bool} (el : last ≡ is_last row s) where
  module _ (notLast : last ≡ false) {addr : Bool} (ea : addr ≡ is_address row s) where
    pub same_address : {t : Bool} → addr ≡ false → t ≡ is_latched row s → t ≡ false → s.place.address ≡ address_after row b s
    unfolding address_after
    same_address h et ht = rw (ne_eqb s.input.bytes 0 nz, ← el, notLast, ← ea, h, ← et, ht)

-- Not past its end, an address is inside the identification page.
pub inside-page : (row : Row) (a : ℕ) {t : Source} → t ≡ Source.Identification → (going row t a).past ≡ false → a < row.identification
inside-page row a e h = leb-false row.identification a (ap (λ (x : Source). (going row x a).past) (sym e) ∙ h)
