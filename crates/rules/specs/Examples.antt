-- 01, "Proved examples": what a person does at the bench and sees there, and all twelve in one table. `Readings` has more of such lines.
use Rattle.std.specs.Prelude.{◌+◌, ◌*◌, ◌≡◌, ◌∷◌, ◌++◌}
use Rattle.rules.specs.World.{ℕ, zero, suc, true, false, List, [], get_or, bit, Row, Level, Event, World, Each}
use Rattle.rules.specs.Device.{row_of, prepared}
use Rattle.rules.specs.Event.{answer, after}

-- n bits of b, the most significant first, and whole bytes.
abbrev pub bits_in : ℕ → ℕ → List Event
bits_in zero b = []
bits_in (suc n) b = Event.Data (bit b n) ∷ Event.Clock true ∷ Event.Clock false ∷ bits_in n b

abbrev pub bytes_in : List ℕ → List Event
bytes_in [] = []
bytes_in (b ∷ bs) = bits_in 8 b ++ bytes_in bs

-- What a person at the bench does. In one selection: bytes, then some bits more; bytes, and hearing n bytes of answer. Within a selection:
-- hearing n bits. Any events. And looking: at Q, at a cell, at a byte of the identification page or of the latch.
pub data Act : Type 0 where
  send : List ℕ → ℕ → Act
  ask : List ℕ → ℕ → Act
  hears : ℕ → Act
  events : List Event → Act
  output : Act
  cell : ℕ → Act
  identity : ℕ → Act
  latched : ℕ → Act

-- A bit of Q; Z counts as 256, so that no byte with one is below 256.
abbrev pub heard_bit : Level → ℕ
heard_bit Level.Low = 0
heard_bit Level.High = 1
heard_bit Level.Z = 256

-- The world then, and what was seen: n bits more, onto v; n bytes, and the end of the selection.
abbrev pub hear : Row → ℕ → ℕ → World → World × List ℕ
hear row zero v w = (w, v ∷ [])
hear row (suc n) v w = hear row n (v * 2 + heard_bit (answer w.state)) (after row (Event.Clock true ∷ Event.Clock false ∷ []) w)

abbrev pub hear_bytes : Row → ℕ → World → World × List ℕ
hear_bytes row zero w = (after row (Event.Select true ∷ []) w, [])
hear_bytes row (suc n) w =
    let h = hear row 8 0 w in
    let r = hear_bytes row n h.0 in
    (r.0, h.1 ++ r.1)

abbrev pub does : Row → Act → World → World × List ℕ
does row (send bs n) w = (after row (Event.Select false ∷ bytes_in bs ++ bits_in n 0 ++ Event.Select true ∷ []) w, [])
does row (ask bs n) w = hear_bytes row n (after row (Event.Select false ∷ bytes_in bs) w)
does row (hears n) w = hear row n 0 w
does row (events es) w = (after row es w, [])
does row output w = (w, heard_bit (answer w.state) ∷ [])
does row (cell a) w = (w, get_or w.cells a 0 ∷ [])
does row (identity a) w = (w, get_or w.identification a 0 ∷ [])
does row (latched a) w = (w, get_or w.latch a 0 ∷ [])

abbrev pub sees : Row → List Act → World → List ℕ
sees row [] w = []
sees row (a ∷ rest) w = let h = does row a w in h.1 ++ sees row rest h.0

abbrev pub say : List ℕ → Act
say bs = send bs 0

abbrev pub wren : Act
wren = say (0x06 ∷ [])

abbrev pub status : Act
status = ask (0x05 ∷ []) 1

abbrev pub pause : ℕ → Act
pause n = events (Event.Wait n ∷ [])

abbrev pub full : Act
full = pause 5000

-- A line: the device, what is done with it from its preparing on, and what is then seen.
abbrev pub Line : Type 0
Line = ℕ × List Act × List ℕ

abbrev pub Seen : Line → Type 0
Seen l = sees (row_of l.0) l.1 (prepared (row_of l.0)) ≡ l.2

-- The theorems `examples` and `readings`: each line is seen as expected.
abbrev pub Hold : List Line → Type 0
Hold lines = Each Seen lines

-- Example 3's write, and a one-byte WRITE to cell 0 with three address bytes.
abbrev pub rolls : Act
rolls = say (0x02 ∷ 0x00 ∷ 0x3E ∷ 0xA1 ∷ 0xA2 ∷ 0xA3 ∷ [])

abbrev first_cell : Act
first_cell = say (0x02 ∷ 0x00 ∷ 0x00 ∷ 0x00 ∷ 0x77 ∷ [])

abbrev lock_status : Act
lock_status = ask (0x83 ∷ 0x00 ∷ 0x04 ∷ 0x00 ∷ []) 1

-- The lines, by their numbers in 01. Where a number stands for two runs, each has a line.
abbrev pub example_1 : Line
example_1 = (1, wren ∷ status ∷ [], 0x02 ∷ [])

abbrev pub example_2_one_address_byte : Line
example_2_one_address_byte = (1, say (0x0E ∷ []) ∷ status ∷ [], 0x02 ∷ [])

abbrev pub example_2_two_address_bytes : Line
example_2_two_address_bytes = (2, say (0x0E ∷ []) ∷ status ∷ [], 0x00 ∷ [])

abbrev pub example_3 : Line
example_3 = (2, wren ∷ rolls ∷ full ∷ cell 0x3E ∷ cell 0x3F ∷ cell 0 ∷ [], 0xA1 ∷ 0xA2 ∷ 0xA3 ∷ [])

abbrev pub example_4_busy : Line
example_4_busy = (2, wren ∷ rolls ∷ pause 4999 ∷ status ∷ cell 0x3E ∷ cell 0x3F ∷ cell 0 ∷ [], 0x03 ∷ 0xFF ∷ 0xFF ∷ 0xFF ∷ [])

abbrev pub example_4_ready : Line
example_4_ready = (2, wren ∷ rolls ∷ pause 4999 ∷ pause 1 ∷ status ∷ cell 0x3E ∷ cell 0x3F ∷ cell 0 ∷ [], 0x00 ∷ 0xA1 ∷ 0xA2 ∷ 0xA3 ∷ [])

abbrev pub example_5 : Line
example_5 = (3, wren ∷ first_cell ∷ pause 3999 ∷ status ∷ pause 1 ∷ status ∷ [], 0x03 ∷ 0x00 ∷ [])

abbrev pub example_6 : Line
example_6 = (4, wren ∷ first_cell ∷ full ∷ ask (0x03 ∷ 0x03 ∷ 0xFF ∷ 0xFF ∷ []) 2 ∷ [], 0xFF ∷ 0x77 ∷ [])

abbrev pub example_7 : Line
example_7 = (
  2,
  wren ∷ say (0x01 ∷ 0x08 ∷ []) ∷ full ∷ wren ∷ say (0x02 ∷ 0x1F ∷ 0xFF ∷ 0x11 ∷ []) ∷ full ∷ cell 0x1FFF
      ∷ wren ∷ say (0x02 ∷ 0x20 ∷ 0x00 ∷ 0x22 ∷ []) ∷ full ∷ cell 0x2000 ∷ status ∷ [],
  0x11 ∷ 0xFF ∷ 0x0A ∷ [],
)

abbrev pub example_8 : Line
example_8 = (1, wren ∷ say (0x0A ∷ 0xFF ∷ 0x55 ∷ []) ∷ full ∷ cell 0x1FF ∷ [], 0x55 ∷ [])

abbrev pub example_9_one_address_byte : Line
example_9_one_address_byte = (1, send (0x06 ∷ []) 1 ∷ status ∷ [], 0x00 ∷ [])

abbrev pub example_9_two_address_bytes : Line
example_9_two_address_bytes = (2, send (0x06 ∷ []) 1 ∷ status ∷ [], 0x00 ∷ [])

abbrev pub example_10 : Line
example_10 = (
  2,
  wren ∷ send (0x02 ∷ 0x00 ∷ 0x05 ∷ []) 7 ∷ full ∷ cell 5 ∷ send (0x02 ∷ 0x00 ∷ 0x05 ∷ 0x66 ∷ []) 1 ∷ full ∷ cell 5
      ∷ say (0x02 ∷ 0x00 ∷ 0x05 ∷ 0x66 ∷ []) ∷ full ∷ cell 5 ∷ [],
  0xFF ∷ 0xFF ∷ 0x66 ∷ [],
)

abbrev pub example_11 : Line
example_11 = (4, lock_status ∷ wren ∷ say (0x82 ∷ 0x00 ∷ 0x04 ∷ 0x00 ∷ 0x02 ∷ []) ∷ full ∷ lock_status ∷ [], 0x00 ∷ 0x01 ∷ [])

abbrev pub example_12 : Line
example_12 = (
  2,
  wren ∷ say (0x01 ∷ 0xFF ∷ []) ∷ full ∷ status ∷ events (Event.Protect false ∷ []) ∷ wren ∷ say (0x01 ∷ 0x00 ∷ []) ∷ full ∷ status ∷ [],
  0x8C ∷ 0x8E ∷ [],
)

abbrev pub examples : List Line
examples =
    example_1 ∷ example_2_one_address_byte ∷ example_2_two_address_bytes ∷ example_3 ∷ example_4_busy ∷ example_4_ready ∷ example_5
    ∷ example_6 ∷ example_7 ∷ example_8 ∷ example_9_one_address_byte ∷ example_9_two_address_bytes ∷ example_10 ∷ example_11 ∷ example_12 ∷ []
