-- 01, "Events", C falls, and "Instructions", what is sent: READ, RDID, RDLS, RDSR.
use Rattle.std.specs.Prelude.{◌+◌, ◌-◌, ◌*◌, ◌%◌, ◌&&◌, if◌then◌else◌}
use Rattle.rules.specs.World.{Output, Source, Going, ℕ, Bool, true, false, not, List, get_or, eqb, leb, min, bit, number, Row, Level, State, with_selection}
use Rattle.rules.specs.Instruction.{facts, busy, command_bytes}

-- RDSR's byte: bit 0 WIP, 1 WEL, and the stored bits in their places.
abbrev pub status_byte : State → ℕ
status_byte s = s.registers.status + number s.registers.wel * 2 + number (busy s)

-- The byte that a source sends at an address.
abbrev pub byte_of : State → List ℕ → List ℕ → Source → ℕ → ℕ
byte_of s cells identification Source.Silent a = 0
byte_of s cells identification Source.Status a = status_byte s
byte_of s cells identification Source.Cells a = get_or cells a 0
byte_of s cells identification Source.Identification a = get_or identification a 0
byte_of s cells identification Source.Lock a = number s.registers.locked

-- How a source goes on: whether it sends at all, the address after an address, and whether an address is past its end.
abbrev goes : Bool → ℕ → Bool → Going
goes sends after past = record { sends = sends; after = after; past = past }

-- READ goes on from the last cell to cell 0; RDID stays at the identification page's end; the status and the lock repeat.
abbrev pub going : Row → Source → ℕ → Going
going row Source.Silent a = goes false a false
going row Source.Status a = goes true a false
going row Source.Cells a = goes true ((a + 1) % row.cells) false
going row Source.Identification a = goes true (min (a + 1) row.identification) (leb row.identification a)
going row Source.Lock a = goes true a false

abbrev pub source_of : State → Source
source_of s = (facts s.command.instruction).sends

abbrev pub level : Bool → Level
level true = Level.High
level false = Level.Low

-- The command is sending once all its bytes before data are in, unless it was turned away.
abbrev pub is_sending : Row → State → Bool
is_sending row s =
    (going row (source_of s) s.place.address).sends && leb (command_bytes row s.command.instruction) s.input.bytes && not s.command.away

-- The address whose byte a fall shows. A top bit is of the address after, but for the first byte's.
unfoldable pub shown_address : Row → State → ℕ
shown_address row s =
    if eqb s.input.bits 0 && not (eqb s.input.bytes (command_bytes row s.command.instruction)) then (going row (source_of s) s.place.address).after
    else s.place.address

-- A byte with the bit of it that comes after so many, as what is sent and Q.
abbrev pub output_of : ℕ → ℕ → Output
output_of b bits = record { sending = b; q = level (bit b (7 - bits)) }

-- The output at such a fall: a top bit takes the byte; past the end Q is Z and none is taken.
unfoldable pub output_after : Row → State → List ℕ → List ℕ → ℕ → Output
output_after row s cells identification a =
    if (going row (source_of s) a).past then record { sending = s.output.sending; q = Level.Z }
    else if eqb s.input.bits 0 then output_of (byte_of s cells identification (source_of s) a) 0
    else output_of s.output.sending s.input.bits

-- C has fallen. Where the fall is decoded and the command is sending, Q moves to the next output bit.
unfoldable pub fallen : Row → Bool → State → List ℕ → List ℕ → State
fallen row decoded s cells identification =
    let shows = decoded && is_sending row s in
    let a = shown_address row s in
    with_selection (if shows then a else s.place.address) s.selection s.input s.command
    (if shows then output_after row s cells identification a else s.output) s
