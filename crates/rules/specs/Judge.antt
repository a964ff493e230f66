-- 01, "Instructions", what the rise of S decides: whether a command has all that it asks for, and what then starts.
use Rattle.std.specs.Prelude.{◌+◌, ◌-◌, ◌*◌, ◌/◌, ◌%◌, ◌&&◌, ◌||◌, if◌then◌else◌}
use Rattle.rules.specs.World.{ℕ, Bool, not, eqb, leb, ltb, bit, number, Row, Kind, State, with_stored}
use Rattle.rules.specs.Device.{single, first_protected}
use Rattle.rules.specs.Instruction.{facts, changes, is_write}

-- The status bits that a device has: 3 and 2, and 7 where there is SRWD. These of a data byte are stored.
abbrev pub storable : Row → ℕ → ℕ
storable row v = number (row.srwd && bit v 7) * 128 + v / 4 % 4 * 4

-- The setting of BP1 and BP0, and what it protects: all from the sheet's entry on.
abbrev pub blocks : State → ℕ
blocks s = s.registers.status / 4 % 4

unfoldable pub is_protected : Row → ℕ → ℕ → Bool
is_protected row bp a = leb (first_protected row bp) a

-- The identification page is shut if locked, or if BP is 11.
abbrev pub is_shut : State → Bool
is_shut s = s.registers.locked || eqb (blocks s) 3

-- What each kind of command asks for besides whole bytes. WREN and WRDI, that start no cycle, ask for the code alone.
unfoldable pub allows : Row → State → Kind → Bool
allows row s Kind.None = eqb s.input.bytes 1
allows row s Kind.Status =
    eqb s.input.bytes 2 && s.registers.wel && not (s.selection.seen && (bit s.registers.status 7 || single row))
allows row s Kind.Array =
    ltb (1 + row.width) s.input.bytes && s.registers.wel && not (is_protected row (blocks s) s.place.address)
    && not (s.selection.seen && single row)
allows row s Kind.Identification =
    ltb (1 + row.width) s.input.bytes && s.registers.wel && not (is_shut s) && not (s.selection.seen && single row)
allows row s Kind.Lock =
    eqb s.input.bytes (2 + row.width) && s.registers.wel && not (is_shut s) && not (s.selection.seen && single row)
    && bit s.input.last 1

-- The decoded rises are a multiple of eight.
unfoldable pub is_whole : State → Bool
is_whole s = eqb s.input.bits 0

-- Complete: not turned away, whole bytes, and what the command asks for.
abbrev pub is_complete : Row → State → Bool
is_complete row s = not s.command.away && is_whole s && allows row s (facts s.command.instruction).starts

-- In hold a command is dropped, but for a write where the row triggers (W-206).
abbrev pub is_dropped : Row → State → Bool
is_dropped row s = s.selection.held && not (row.triggers && is_write s.command.instruction)

-- Done, in hold or out of it: complete, and not dropped.
unfoldable pub is_done : Row → State → Bool
is_done row s = not (is_dropped row s) && is_complete row s

-- A cycle's page start: WRITE's page, 0 for the identification page; the others have none and leave it.
abbrev pub start_of : Row → State → Kind → ℕ
start_of row s Kind.None = s.place.start
start_of row s Kind.Array = s.place.address - s.place.address % row.page
start_of row s Kind.Identification = 0
start_of row s Kind.Status = s.place.start
start_of row s Kind.Lock = s.place.start

-- A done WREN sets WEL, a done WRDI resets it, and what is done and has a cycle starts it; else nothing changes.
unfoldable pub judged : Row → State → State
judged row s =
    let f = facts s.command.instruction in
    let done = is_done row s in
    let begins = done && (changes f.starts).runs in
    with_stored
    (record {
      status = s.registers.status;
      wel = if done then f.sets || s.registers.wel && not f.resets else s.registers.wel;
      locked = s.registers.locked;
    })
    (record {
      kind = if begins then f.starts else s.cycle.kind;
      next = if begins && (changes f.starts).status then storable row s.input.last else s.cycle.next;
    })
    (if begins then start_of row s f.starts else s.place.start)
    (if begins then row.time else s.place.left)
    s
