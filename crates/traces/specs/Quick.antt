-- What is known of a record that has a short way: it is a whole pin record with room for its answer, and the device is as that way asks.
use Rattle.std.specs.Prelude.{ℕ, ◌+◌, ◌-◌, ◌≤◌, ◌≡◌, Bool, true, false, not, ◌&&◌, ◌||◌, List, get_or, length}
use Rattle.rules.specs.declared.Row.{Row}
use Rattle.rules.specs.declared.State.{State}
use Rattle.rules.specs.World.{number}
use Rattle.rules.specs.Receive.{is_code, is_address, is_last, is_latched}
use Rattle.rules.specs.Send.{going, source_of, is_sending}
use Rattle.rules.specs.Event.{decodes}
use Rattle.rules.specs.Trace.{two}
use Rattle.traces.specs.declared.quick.Usual.{Usual}

-- A whole record that sets a pin, with this pin byte.
pub record IsPin (t : List ℕ) (at pin : ℕ) : Type 0 where
  pub whole : 5 ≤ length t - at
  pub size : two t at ≡ 3
  pub kind : two t (at + 2) ≡ 1
  pub byte : get_or t (at + 4) 0 ≡ pin

-- A whole byte would do nothing but count: it is no code, no byte of an address, and no data for the latch.
abbrev pub only_counts : Row → State → Bool
only_counts row s = not (is_code s || is_last row s || is_address row s || is_latched row s)

-- What each way asks of the device.
abbrev pub RiseSorted : Row → State → Usual → Type 0
RiseSorted row s Usual.Other = Unit
RiseSorted row s (Usual.Data v) = ⊥
RiseSorted row s Usual.Bit = (decodes s ≡ true) × (s.pins.c ≡ false) × (s.input.bits ≡ 7 → ⊥)
RiseSorted row s Usual.Still = ⊥
RiseSorted row s Usual.Shift = ⊥
RiseSorted row s Usual.Whole = (decodes s ≡ true) × (s.pins.c ≡ false) × (s.input.bits ≡ 7) × (only_counts row s ≡ true)

abbrev pub FallSorted : Row → State → Usual → Type 0
FallSorted row s Usual.Other = Unit
FallSorted row s (Usual.Data v) = ⊥
FallSorted row s Usual.Bit = ⊥
FallSorted row s Usual.Still = (s.pins.c ≡ true) × ((decodes s && is_sending row s) ≡ false)
FallSorted row s Usual.Shift =
    (s.pins.c ≡ true) × ((decodes s && is_sending row s) ≡ true) × (s.input.bits ≡ 0 → ⊥) × ((going row (source_of s) s.place.address).past ≡ false)
FallSorted row s Usual.Whole = ⊥

abbrev pub Sorted : Row → State → List ℕ → ℕ → Bool → Usual → Type 0
Sorted row s t at room Usual.Other = Unit
Sorted row s t at room (Usual.Data v) = (room ≡ true) × (IsPin t at (2 + number v))
Sorted row s t at room Usual.Bit = (room ≡ true) × (IsPin t at 1) × (RiseSorted row s Usual.Bit)
Sorted row s t at room Usual.Still = (room ≡ true) × (IsPin t at 0) × (FallSorted row s Usual.Still)
Sorted row s t at room Usual.Shift = (room ≡ true) × (IsPin t at 0) × (FallSorted row s Usual.Shift)
Sorted row s t at room Usual.Whole = (room ≡ true) × (IsPin t at 1) × (RiseSorted row s Usual.Whole)
