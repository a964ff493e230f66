-- What a decoded edge of C keeps sound: the byte being received, the address, the command and the latch.
use Rattle.std.specs.Prelude.{if◌then◌else◌}
use Prim.Native.Nat.{ℕ, ◌+◌, ◌*◌, ◌%◌, ◌≤◌, ◌<◌, min}
use mathlib.Core.Path.{◌≡◌, refl, sym, ap, ◌∙◌}
use mathlib.Core.Bool.{Bool, true, false, not, ◌&&◌}
use mathlib.Core.List.{List}
use native.Mathlib.Nat.{mod-lt, min-le_right}
use native.Mathlib.Numerals.{add-one}
use native.Mathlib.Omega.{arith}
use lib.ListN.{length, get_or, length-append, length-take, length-replicate, length-set}
use lib.Dec.{eqb, lit<}
use borrow.Author.Tests.{eqb-false, not-false}
use Rattle.rules.specs.World.{Source, Row, Instruction, Input, State, World, bit, number}
use Rattle.rules.specs.declared.Instruction.TheVariants.{Wren, Wrdi, Rdsr, Wrsr, Read, Write, Rdid, Rdls, Wrid, Lid, Unknown}
use Rattle.rules.specs.Device.{Widths, has_identification, has_a8}
use Rattle.rules.specs.Instruction.{facts, named, decode, busy, latches, turned_away, command_bytes, longer, lock_bit}
use Rattle.rules.specs.Receive.{is_code, is_address, is_last, is_latched, command_after, address_after, cleared, marked, latch_after, input_after}
use Rattle.rules.specs.Send.{going, source_of, shown_address}
use Rattle.rules.specs.Sound.{of_page, SoundInput}
use Rattle.rules.proofs.Choice.{if-elim, clash, and_both, and-rest, number_small}
use Rattle.rules.proofs.Latch.{cleared-mark, mark-read}
use Rattle.rules.proofs.Widths.{page-positive, page-below, identification-short, longer-inside, rolled-inside}

-- One bit more.
pub whole-sound : (v : ℕ) (i : Input) → SoundInput (record { bits = 0; value = 0; bytes = min (i.bytes + 1) 6; last = v })
whole-sound v i = record { few = omega arith; small = lit< tt; counted = min-le_right (i.bytes + 1) 6 }

pub bit-sound : (i : Input) (d : Bool) → SoundInput i → eqb i.bits 7 ≡ false
    → SoundInput (record { bits = i.bits + 1; value = i.value * 2 + number d; bytes = i.bytes; last = i.last })
bit-sound i d h e =
    record {
      few = omega (arith, h.few, eqb-false i.bits 7 e);
      small = rw (add-one i.bits) (omega (arith, h.small, number_small d));
      counted = h.counted;
    }

pub input-sound : (i : Input) (d : Bool) → SoundInput i → SoundInput (input_after (i.value * 2 + number d) i)
input-sound i d h = if-elim SoundInput (eqb i.bits 7) (λ _. whole-sound (i.value * 2 + number d) i) (λ e. bit-sound i d h e)

-- The address.
module _ {row : Row} (v : Widths row) where
  pub address-inside : (b : ℕ) (s : State) → s.place.address < row.cells → address_after row b s < row.cells
  unfolding address_after
  address-inside b s h =
      let P : ℕ → Type 0 = λ (a : ℕ). a < row.cells in
      let i = decode row b in
      if-elim P (is_code s) (λ _. omega (arith, number_small (has_a8 row && (facts i).addressed && not (facts i).paged && bit b 3), page-below v, page-positive v))
      (λ _. if-elim P (is_last row s) (λ _. omega (arith, mod-lt (longer row s.place.address b) {m = row.page} (page-positive v), page-below v))
      (λ _. if-elim P (is_address row s) (λ _. longer-inside v s.place.address b)
      (λ _. if-elim P (is_latched row s) (λ _. rolled-inside v s.place.address h) (λ _. h))))

  onward-inside : (x : Source) (a : ℕ) → a < row.cells → (going row x a).after < row.cells
  onward-inside Source.Silent a h = h
  onward-inside Source.Status a h = h
  onward-inside Source.Cells a h = mod-lt (a + 1) (omega (arith, page-below v))
  onward-inside Source.Identification a h = omega (arith, page-below v, identification-short v)
  onward-inside Source.Lock a h = h

  pub shown-inside : (s : State) → s.place.address < row.cells → shown_address row s < row.cells
  unfolding shown_address
  shown-inside s h =
      if-elim (λ (a : ℕ). a < row.cells) (eqb s.input.bits 0 && not (eqb s.input.bytes (command_bytes row s.command.instruction)))
      (λ _. onward-inside (source_of s) s.place.address h) (λ _. h)

-- What is decoded is of the identification page only where there is one.
decoded-named : (row : Row) (c : ℕ) → (facts (decode row c)).identifies ≡ true → has_identification row ≡ true
unfolding decode
decoded-named row c =
    let of = (facts (named row c)).identifies in
    if-elim (λ (i : Instruction). (facts i).identifies ≡ true → has_identification row ≡ true) (of && not (has_identification row)) (λ _ e. clash (sym e))
    (λ there e. not-false (has_identification row) (and-rest of (not (has_identification row)) there e))

-- The command: what a cycle turns away stays turned away.
-- What the lock bit makes of an instruction is taken in a cycle exactly if that is, and uses the latch only if that does; what uses the latch is not taken in a cycle.
pub lock-form : (i : Instruction) → ((facts (facts i).lock).taken ≡ (facts i).taken) × (latches (facts i).lock ≡ true → latches i ≡ true) × (latches i ≡ true → (facts i).taken ≡ false)
lock-form Wren = (refl, λ e. e, λ _. refl)
lock-form Wrdi = (refl, λ e. e, λ e. clash (sym e))
lock-form Rdsr = (refl, λ e. e, λ e. clash (sym e))
lock-form Wrsr = (refl, λ e. e, λ _. refl)
lock-form Read = (refl, λ e. e, λ _. refl)
lock-form Write = (refl, λ e. e, λ _. refl)
lock-form Rdid = (refl, λ e. e, λ _. refl)
lock-form Rdls = (refl, λ e. e, λ _. refl)
lock-form Wrid = (refl, λ _. refl, λ _. refl)
lock-form Lid = (refl, λ e. e, λ _. refl)
lock-form Unknown = (refl, λ e. e, λ _. refl)

-- That form is of the identification page exactly if the instruction is, and so is what starts a cycle of it.
pub page-form : (i : Instruction) → ((facts (facts i).lock).identifies ≡ (facts i).identifies) × (of_page (facts i).starts ≡ true → (facts i).identifies ≡ true)
page-form Wren = (refl, λ e. e)
page-form Wrdi = (refl, λ e. e)
page-form Rdsr = (refl, λ e. e)
page-form Wrsr = (refl, λ e. e)
page-form Read = (refl, λ e. e)
page-form Write = (refl, λ e. e)
page-form Rdid = (refl, λ _. refl)
page-form Rdls = (refl, λ _. refl)
page-form Wrid = (refl, λ _. refl)
page-form Lid = (refl, λ _. refl)
page-form Unknown = (refl, λ e. e)

pub command-turned : (row : Row) (b : ℕ) (s : State)
    → ((s.input.bytes ≡ 0 → ⊥) → (facts s.command.instruction).taken ≡ false → s.command.away ≡ true)
    → busy s ≡ true → (facts (command_after row b s).instruction).taken ≡ false → (command_after row b s).away ≡ true
command-turned row b s h run = go (is_code s) refl
  where
    i : Instruction
    i = s.command.instruction

    lock : Bool
    lock = is_last row s && lock_bit row (longer row s.place.address b)

    go : (t : Bool) → is_code s ≡ t → (facts (if t then decode row b else (if lock then (facts i).lock else i))).taken ≡ false
        → (if t then turned_away s (decode row b) else s.command.away) ≡ true
    go true e f = and_both (busy s) (not (facts (decode row b)).taken) run (ap not f)
    go false e f = if-elim (λ (j : Instruction). (facts j).taken ≡ false → s.command.away ≡ true) lock
        (λ _ g. h (eqb-false s.input.bytes 0 e) (sym (lock-form i).0 ∙ g)) (λ _ g. h (eqb-false s.input.bytes 0 e) g) f

-- What is received is of the identification page only where there is one.
pub command-named : (row : Row) (b : ℕ) (s : State) → ((facts s.command.instruction).identifies ≡ true → has_identification row ≡ true)
    → (facts (command_after row b s).instruction).identifies ≡ true → has_identification row ≡ true
command-named row b s h =
    let P : Instruction → Type 0 = λ (i : Instruction). (facts i).identifies ≡ true → has_identification row ≡ true in
    if-elim P (is_code s) (λ _. decoded-named row b)
    (λ _. if-elim P (is_last row s && lock_bit row (longer row s.place.address b)) (λ _ e. h (sym (page-form s.command.instruction).0 ∙ e)) (λ _. h))

-- The latch: its marks stay 0 or 1, and its length stays.
module _ (row : Row) (l : List ℕ) where
  marked-marks : (a b i : ℕ) → 0 < row.page → row.page + row.page ≤ length l → get_or l (row.page + i) 0 ≤ 1 → get_or (marked row a b l) (row.page + i) 0 ≤ 1
  marked-marks a b i pos long h =
      let p = a % row.page in
      rw (mark-read row p b (mod-lt a pos) i l long) (if-elim (λ (m : ℕ). m ≤ 1) (eqb i p) (λ _. omega arith) (λ _. h))

  cleared-long : length l ≡ row.page + row.page → length (cleared row l) ≡ length l
  cleared-long long = simp (length-append, length-take, length-replicate) (omega arith)

pub marked-long : (row : Row) (l : List ℕ) (a b : ℕ) → length (marked row a b l) ≡ length l
marked-long row l a b = simp length-set

module _ {row : Row} (v : Widths row) (b : ℕ) (w : World) (long : length w.latch ≡ row.page + row.page) where
  clears : Bool
  clears = latches (decode row b) && not (turned_away w.state (decode row b))

  pub latch-long : length (latch_after row b w.state w.latch) ≡ length w.latch
  unfolding latch_after clears
  latch-long =
      let P : List ℕ → Type 0 = λ (m : List ℕ). length m ≡ length w.latch in
      if-elim P (is_code w.state) (λ _. if-elim P clears (λ _. cleared-long row w.latch long) (λ _. refl))
      (λ _. if-elim P (is_latched row w.state) (λ _. marked-long row w.latch w.state.place.address b) (λ _. refl))

  pub latch-marks : ((i : ℕ) → get_or w.latch (row.page + i) 0 ≤ 1) → (i : ℕ) → get_or (latch_after row b w.state w.latch) (row.page + i) 0 ≤ 1
  unfolding latch_after clears
  latch-marks h =
      let P : List ℕ → Type 0 = λ (m : List ℕ). (i : ℕ) → get_or m (row.page + i) 0 ≤ 1 in
      if-elim P (is_code w.state) (λ _. if-elim P clears (λ _ i. omega (arith, cleared-mark row w.latch (omega arith) i)) (λ _. h))
      (λ _. if-elim P (is_latched row w.state) (λ _ i. marked-marks row w.latch w.state.place.address b i (page-positive v) (omega arith) (h i)) (λ _. h))
