-- The device table, and preparing a device.
use Rattle.std.specs.Prelude.{◌-◌, ◌*◌, ◌/◌, ◌%◌, ◌^◌, ◌≤◌, ◌<◌, ◌≡◌, ◌&&◌, ◌∷◌, ◌++◌, if◌then◌else◌}
use Rattle.rules.specs.World.{ℕ, Bool, true, false, not}
use Rattle.rules.specs.World.{List, [], get_or, length, replicate, eqb, leb, ltb, Sheet, Row, Instruction, Kind, Level, State, World}

-- W-203, a line of the service sheet: the first protected address under BP 00, 01, 10 and 11. Under 00, which protects nothing, it is the
-- cell count.
abbrev pub from : ℕ → ℕ → ℕ → ℕ → Sheet
from a b c d = record { bp00 = a; bp01 = b; bp10 = c; bp11 = d }

-- 01, "What the bench models", and W-202: one row for each device. `identification`: how long the identification page is, 0 where there is
-- none. `coded`: ST's code stands at its start. `triggers`, with W-206: deselecting in hold starts a complete write (002, 5.3, footnote b).
abbrev pub m95040 : Row
m95040 = record { cells = 512; page = 16; identification = 16; width = 1; time = 5000; srwd = false; coded = false; triggers = false; sheet = from 0x200 0x180 0x100 0 }

abbrev pub m95128d : Row
m95128d = record { cells = 16_384; page = 64; identification = 64; width = 2; time = 5000; srwd = true; coded = false; triggers = true; sheet = from 0x4000 0x3000 0x2000 0 }

abbrev pub m95m01 : Row
m95m01 = record { cells = 131_072; page = 256; identification = 256; width = 3; time = 4000; srwd = true; coded = false; triggers = false; sheet = from 0x20000 0x18000 0x10000 0 }

abbrev pub m95m02 : Row
m95m02 = record { cells = 262_144; page = 256; identification = 256; width = 3; time = 5000; srwd = true; coded = true; triggers = false; sheet = from 0x40000 0x30000 0x20000 0 }

abbrev pub m95010 : Row
m95010 = record { cells = 128; page = 16; identification = 0; width = 1; time = 5000; srwd = false; coded = false; triggers = false; sheet = from 0x80 0x60 0x40 0 }

abbrev pub m95020 : Row
m95020 = record { cells = 256; page = 16; identification = 0; width = 1; time = 5000; srwd = false; coded = false; triggers = false; sheet = from 0x100 0xC0 0x80 0 }

abbrev pub m95128 : Row
m95128 = record { cells = 16_384; page = 64; identification = 0; width = 2; time = 5000; srwd = true; coded = false; triggers = true; sheet = from 0x4000 0x3000 0x2000 0 }

abbrev pub table : List Row
table = m95040 ∷ m95128d ∷ m95m01 ∷ m95m02 ∷ m95010 ∷ m95020 ∷ m95128 ∷ []

-- Whether there is a device of this number, and its row (of no device: device 1's).
abbrev pub is_device : ℕ → Bool
is_device n = leb 1 n && leb n (length table)

abbrev pub row_of : ℕ → Row
row_of n = get_or table (n - 1) m95040

-- What 01 says of device 1 in W, in the lock bit and, but for A8, in codes holds where the address is one byte.
abbrev pub single : Row → Bool
single row = eqb row.width 1

-- W-202: whether there is an identification page; and whether bit 3 of READ's and WRITE's code is A8, which it is where one address byte
-- cannot name every cell.
abbrev pub has_identification : Row → Bool
has_identification row = not (eqb row.identification 0)

abbrev pub has_a8 : Row → Bool
has_a8 row = single row && ltb 256 row.cells

-- W-204: how many pages the cells make.
abbrev pub page_count : Row → ℕ
page_count row = row.cells / row.page

-- The sheet's entries in the order of the settings, and the one under a setting.
abbrev pub entries : Row → List ℕ
entries row = row.sheet.bp00 ∷ row.sheet.bp01 ∷ row.sheet.bp10 ∷ row.sheet.bp11 ∷ []

abbrev pub first_protected : Row → ℕ → ℕ
first_protected row bp = get_or (entries row) bp row.sheet.bp11

-- The code that ST writes at the start of the identification page, where it does.
abbrev pub code : Row → List ℕ
code row = if row.coded then 0x20 ∷ 0x00 ∷ 0x12 ∷ [] else []

-- The facts on a row that every theorem goes by. No theorem asks for more, and every row of the table has them.
-- Cells and pages are powers of two, and there is more than one page; their bounds, as plain numbers too.
pub record Widths (row : Row) : Type 0 where
  pub cell_bits : ℕ
  pub page_bits : ℕ
  pub cells : row.cells ≡ 2 ^ cell_bits
  pub page : row.page ≡ 2 ^ page_bits
  pub smaller : page_bits < cell_bits
  pub narrow : cell_bits ≤ 24
  pub cells_most : row.cells ≤ 16_777_216
  pub page_least : 4 ≤ row.page
  pub page_most : row.page ≤ 256
  -- The identification page is a page, or there is none, and ST's code fits into it.
  pub whole : has_identification row ≡ true → row.identification ≡ row.page
  pub code_fits : length (code row) ≤ row.identification
  -- Whatever the setting, protection begins where a page does, or where the cells end.
  pub begins_within : (bp : ℕ) → first_protected row bp ≤ row.cells
  pub begins_page : (bp : ℕ) → first_protected row bp % row.page ≡ 0
  -- The address bytes, with the code's address bit where there is one, reach every cell.
  pub one_byte : 1 ≤ row.width
  pub three_bytes : row.width ≤ 3
  pub reach : row.cells ≤ 256 ^ row.width * (if has_a8 row then 2 else 1)
  -- A write takes some time, and one that 32 bits hold.
  pub lasts : 1 ≤ row.time
  pub soon : row.time < 2 ^ 32

-- 01, "The device's state", preparing: no cycle, unlocked, C and D low, S, HOLD and W high.
abbrev pub prepared_state : State
prepared_state =
    record {
      place = record { address = 0; start = 0; left = 0 };
      pins = record { c = false; d = false; s = true; hold = true; w = true };
      selection = record { selected = false; held = false; seen = false };
      input = record { bits = 0; value = 0; bytes = 0; last = 0 };
      command = record { instruction = Instruction.Unknown; away = false };
      output = record { sending = 0; q = Level.Z };
      registers = record { status = 0; wel = false; locked = false };
      cycle = record { kind = Kind.None; next = 0 };
      filler = record { first = 0; second = 0; third = 0 };
    }

unfoldable pub prepared : Row → World
prepared row =
    record {
      state = prepared_state;
      cells = replicate row.cells 0xFF;
      identification = code row ++ replicate (row.identification - length (code row)) 0xFF;
      latch = replicate (row.page * 2) 0;
      counts = replicate (page_count row) 0;
    }
