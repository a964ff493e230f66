-- 01, "Events", C rises: what a decoded rise takes in, and what a whole byte does.
use Rattle.std.specs.Prelude.{◌+◌, ◌-◌, ◌*◌, ◌%◌, ◌&&◌, ◌++◌, if◌then◌else◌}
use Rattle.rules.specs.World.{ℕ, Bool, not, List, set, take, replicate, eqb, ltb, min, number, Row, Input, Command, State, with_selection}
use Rattle.rules.specs.Instruction.{facts, decode, latches, turned_away, command_bytes, start_address, longer, lock_bit}

-- A byte is the code, or the last or another byte of the address, or data. A command that was turned away has neither address nor data.
abbrev pub is_code : State → Bool
is_code s = eqb s.input.bytes 0

abbrev pub is_address : Row → State → Bool
is_address row s = ltb s.input.bytes (command_bytes row s.command.instruction) && not s.command.away

abbrev pub is_last : Row → State → Bool
is_last row s = eqb s.input.bytes row.width && (facts s.command.instruction).paged && not s.command.away

abbrev pub is_latched : Row → State → Bool
is_latched row s = ltb row.width s.input.bytes && latches s.command.instruction && not s.command.away

-- The last address byte shows by its lock bit whether RDID is RDLS, and WRID LID.
abbrev pub command_after : Row → ℕ → State → Command
command_after row b s =
    record {
      instruction =
          if is_code s then decode row b
          else if is_last row s && lock_bit row (longer row s.place.address b) then (facts s.command.instruction).lock
          else s.command.instruction;
      away = if is_code s then turned_away s (decode row b) else s.command.away;
    }

-- The place after the address, round within its page.
unfoldable pub rolled : Row → ℕ → ℕ
rolled row a = a - a % row.page + (a % row.page + 1) % row.page

unfoldable pub address_after : Row → ℕ → State → ℕ
address_after row b s =
    if is_code s then start_address row b (decode row b)
    else if is_last row s then longer row s.place.address b % row.page
    else if is_address row s then longer row s.place.address b
    else if is_latched row s then rolled row s.place.address
    else s.place.address

-- A code that brings data for the latch clears the marks as it is taken. A data byte goes to its place in the page, and its mark is set.
abbrev pub cleared : Row → List ℕ → List ℕ
cleared row l = take row.page l ++ replicate row.page 0

abbrev pub marked : Row → ℕ → ℕ → List ℕ → List ℕ
marked row a b l = set (set l (a % row.page) b) (row.page + a % row.page) 1

abbrev pub clears : Row → ℕ → State → Bool
clears row b s = latches (decode row b) && not (turned_away s (decode row b))

unfoldable pub latch_after : Row → ℕ → State → List ℕ → List ℕ
latch_after row b s latch =
    if is_code s then (if clears row b s then cleared row latch else latch)
    else if is_latched row s then marked row s.place.address b latch
    else latch

-- One more bit; the eighth makes a whole byte. Whole bytes stop counting at 6.
abbrev pub input_after : ℕ → Input → Input
input_after v i =
    if eqb i.bits 7 then record { bits = 0; value = 0; bytes = min (i.bytes + 1) 6; last = v }
    else record { bits = i.bits + 1; value = v; bytes = i.bytes; last = i.last }

-- C has risen. Where the rise is decoded D is taken, the most significant bit first; the eighth bit completes a byte.
abbrev pub value : State → ℕ
value s = s.input.value * 2 + number s.pins.d

abbrev pub is_byte : Bool → State → Bool
is_byte decoded s = decoded && eqb s.input.bits 7

unfoldable pub risen : Row → Bool → State → State
risen row decoded s =
    with_selection (if is_byte decoded s then address_after row (value s) s else s.place.address) s.selection
    (if decoded then input_after (value s) s.input else s.input) (if is_byte decoded s then command_after row (value s) s else s.command)
    s.output s

unfoldable pub risen_latch : Row → Bool → State → List ℕ → List ℕ
risen_latch row decoded s latch = if is_byte decoded s then latch_after row (value s) s latch else latch
