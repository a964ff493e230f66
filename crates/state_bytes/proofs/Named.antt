-- Lists read past their end, bytes that are no state, and the bytes of a number, of the flags and of the rest, laws that the documents have named;
-- and a number from k on that is not k, and one split into bytes and joined again, which no contract states. No proof of a function cites them any
-- more, since the search goes these ways by itself, and the library reads a number's bytes back.
use Prim.Native.Nat.{ℕ, zero, suc, ◌+◌, ◌*◌, ◌/◌, ◌%◌, ◌^◌, ◌≤◌}
use mathlib.Core.Path.{◌≡◌, refl, ◌∙◌}
use mathlib.Core.Bool.{Bool, true, false, not}
use mathlib.Core.List.{List, [], ◌∷◌, ◌++◌}
use native.Mathlib.Omega.{arith}
use lib.Bits.{bit_and, and_mask}
use lib.ListN.{get_or, length}
use mir.Val.{bool_byte}
use borrow.Author.Tests.{not-true}
use Rattle.rules.specs.declared.State.{State}
use Rattle.rules.specs.World.{number}
use Rattle.rules.specs.Trace.{answer_byte}
use Rattle.state_bytes.specs.StateBytes.{is_state, no_state, state_of, byte_of, instruction_number, kind_number, flag_bytes, other_bytes}

-- A number from k on that is not k.
pub above : {n : ℕ} (k : ℕ) → (n ≡ k → ⊥) → k ≤ n → k + 1 ≤ n
above k h l = omega arith

-- From the last of a list on, all is that last.
pub past_end : {A : Type 0} (l : List A) {d : A} (n : ℕ) → length l ≤ n → d ≡ get_or (l ++ (d ∷ [])) n d
past_end [] zero h = refl
past_end [] (suc n) h = refl
past_end (x ∷ l) zero h = absurd (omega arith)
past_end (x ∷ l) (suc n) h = past_end l n (omega arith)

-- Bytes that are no state.
module _ (b : List ℕ) {t : Bool} (e : t ≡ is_state b) where
  pub of_none : {s : State} → not t ≡ true → s ≡ no_state → s ≡ state_of b
  unfolding state_of
  of_none h f = f ∙ rw (← e, not-true t h)

-- Eight bits of a number.
pub eight_bits : (n k : ℕ) → bit_and (n / 2 ^ k) 255 ≡ byte_of n k
eight_bits n k = and_mask (n / 2 ^ k) 8

-- A number of its last byte and of the rest, and of four bytes.
pub split : (n : ℕ) → n % 256 + n / 256 * 256 ≡ n
split n = omega arith

pub joined : (n p q r a b c : ℕ) → a + p * 256 ≡ n → b + q * 256 ≡ p → c + r * 256 ≡ q → a + b * 256 + (c + r * 256) * 65_536 ≡ n
joined n p q r a b c e f g = omega (arith, e, f, g)

-- A flag as a byte.
byte-number : (b : Bool) → bool_byte b ≡ number b
byte-number true = refl
byte-number false = refl

-- The flags as the code puts them.
abbrev cast : State → List ℕ
cast s =
    bool_byte s.pins.c ∷ bool_byte s.pins.d ∷ bool_byte s.pins.s ∷ bool_byte s.pins.hold ∷ bool_byte s.pins.w
    ∷ bool_byte s.selection.selected ∷ bool_byte s.selection.held ∷ bool_byte s.selection.seen
    ∷ bool_byte s.command.away ∷ bool_byte s.registers.wel ∷ bool_byte s.registers.locked ∷ []

cast-flags : (s : State) → cast s ≡ flag_bytes s
cast-flags s =
    rw (
      byte-number s.pins.c,
      byte-number s.pins.d,
      byte-number s.pins.s,
      byte-number s.pins.hold,
      byte-number s.pins.w,
      byte-number s.selection.selected,
      byte-number s.selection.held,
      byte-number s.selection.seen,
      byte-number s.command.away,
      byte-number s.registers.wel,
      byte-number s.registers.locked,
    )

pub flags-put : (s : State) {after : List ℕ} → after ≡ cast s → after ≡ flag_bytes s
flags-put s e = e ∙ cast-flags s

-- The bytes of the rest, where the calls that give them have said what they give.
pub others_put : (s : State) {instruction q kind : ℕ}
    → instruction ≡ instruction_number s.command.instruction → q ≡ answer_byte s.output.q → kind ≡ kind_number s.cycle.kind
    → (instruction ∷ q ∷ kind
    ∷ s.input.bits ∷ s.input.value ∷ s.input.bytes ∷ s.input.last ∷ s.output.sending ∷ s.registers.status ∷ s.cycle.next
    ∷ s.filler.first ∷ s.filler.second ∷ s.filler.third ∷ []) ≡ other_bytes s
others_put s ei eq ek = rw (ei, eq, ek)
