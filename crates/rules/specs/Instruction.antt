-- 01, "Instructions": the codes, what each instruction is and does, and forming an address.
use Rattle.std.specs.Prelude.{◌+◌, ◌-◌, ◌*◌, ◌%◌, ◌&&◌, ◌||◌, ◌∷◌, if◌then◌else◌}
use Rattle.rules.specs.World.{Facts, Change, Source, ℕ, Bool, true, false, not, List, [], eqb, bit, number, Row, Instruction, Kind, State}
use Rattle.rules.specs.declared.Instruction.TheVariants.{Wren, Wrdi, Rdsr, Wrsr, Read, Write, Rdid, Rdls, Wrid, Lid, Unknown}
use Rattle.rules.specs.Device.{single, has_identification, has_a8}

abbrev pub facts_of : Bool → Bool → Bool → Bool → Instruction → Source → Bool → Bool → Kind → Facts
facts_of taken addressed paged identifies lock sends sets resets starts =
    record { taken = taken; addressed = addressed; paged = paged; identifies = identifies; lock = lock; sends = sends; sets = sets; resets = resets; starts = starts }

-- The instruction table. Columns: taken in a cycle too; an address follows; only its place in the page counts; it is of the
-- identification page; what the lock bit makes of it; what it sends; sets WEL; resets WEL; the cycle it starts.
abbrev pub facts : Instruction → Facts
facts Wren = facts_of false false false false Wren Source.Silent true false Kind.None
facts Wrdi = facts_of true false false false Wrdi Source.Silent false true Kind.None
facts Rdsr = facts_of true false false false Rdsr Source.Status false false Kind.None
facts Wrsr = facts_of false false false false Wrsr Source.Silent false false Kind.Status
facts Read = facts_of false true false false Read Source.Cells false false Kind.None
facts Write = facts_of false true false false Write Source.Silent false false Kind.Array
facts Rdid = facts_of false true true true Rdls Source.Identification false false Kind.None
facts Rdls = facts_of false true false true Rdls Source.Lock false false Kind.None
facts Wrid = facts_of false true true true Lid Source.Silent false false Kind.Identification
facts Lid = facts_of false true false true Lid Source.Silent false false Kind.Lock
facts Unknown = facts_of false false false false Unknown Source.Silent false false Kind.None

-- The codes, whether each is exact, and what it means. Where the address is one byte, bit 3 does not count in a code that is not exact.
abbrev pub codes : List (ℕ × Bool × Instruction)
codes =
    (0x06, false, Wren) ∷ (0x04, false, Wrdi) ∷ (0x05, false, Rdsr) ∷ (0x01, false, Wrsr) ∷ (0x03, false, Read) ∷ (0x02, false, Write)
    ∷ (0x83, true, Rdid) ∷ (0x82, true, Wrid) ∷ []

abbrev pub look_up : Bool → ℕ → List (ℕ × Bool × Instruction) → Instruction
look_up one c [] = Unknown
look_up one c (k ∷ ks) = if eqb (if one && not k.1 then c - number (bit c 3) * 8 else c) k.0 then k.2 else look_up one c ks

abbrev pub named : Row → ℕ → Instruction
named row c = look_up (single row) c codes

-- W-202: without an identification page its two codes are in no list.
unfoldable pub decode : Row → ℕ → Instruction
decode row c = if (facts (named row c)).identifies && not (has_identification row) then Unknown else named row c

-- A running cycle of each kind: whether it runs, and what its end changes.
abbrev pub change_of : Bool → Bool → Bool → Bool → Bool → Change
change_of runs cells identification status lock = record { runs = runs; cells = cells; identification = identification; status = status; lock = lock }

abbrev pub changes : Kind → Change
changes Kind.None = change_of false false false false false
changes Kind.Array = change_of true true false false false
changes Kind.Identification = change_of true false true false false
changes Kind.Status = change_of true false false true false
changes Kind.Lock = change_of true false false false true

abbrev pub busy : State → Bool
busy s = (changes s.cycle.kind).runs

-- A write, as 002 has the word: a code and an address, then data, and a cycle. WRITE, WRID and LID; WRSR has no address.
abbrev pub is_write : Instruction → Bool
is_write i = (facts i).addressed && (changes (facts i).starts).runs

-- A cycle that writes bytes holds the latch; WRITE and WRID, that start one, take their data through it.
abbrev pub holds_latch : Kind → Bool
holds_latch k = (changes k).cells || (changes k).identification

abbrev pub latches : Instruction → Bool
latches i = holds_latch (facts i).starts

-- A running cycle lets RDSR and WRDI in and turns all others away; that is decided as the code's eighth bit comes in.
abbrev pub turned_away : State → Instruction → Bool
turned_away s i = busy s && not (facts i).taken

-- The bytes of a command before its data: the code, and the address where there is one.
abbrev pub command_bytes : Row → Instruction → ℕ
command_bytes row i = if (facts i).addressed then 1 + row.width else 1

-- The address before its first byte: where a device has A8, bit 3 of the code of READ and WRITE is it.
abbrev pub start_address : Row → ℕ → Instruction → ℕ
start_address row c i = number (has_a8 row && (facts i).addressed && not (facts i).paged && bit c 3)

-- One more address byte, the most significant first. Bits above the array are ignored.
unfoldable pub longer : Row → ℕ → ℕ → ℕ
longer row a b = (a * 256 + b) % row.cells

-- The bit that makes RDID into RDLS and WRID into LID.
abbrev pub lock_bit : Row → ℕ → Bool
lock_bit row a = if single row then bit a 7 else bit a 10
