-- W-206 by example: what is seen at the bench when S rises on a device in hold. The two M95128s then start a write, the others drop it.
use Rattle.std.specs.Prelude.{◌∷◌, ◌++◌}
use Rattle.rules.specs.World.{ℕ, true, false, List, [], Event}
use Rattle.rules.specs.Examples.{bits_in, bytes_in, Act, ask, hears, events, cell, identity, latched, wren, status, pause, full, rolls, Line}
use Rattle.rules.specs.Readings.{clocks}

-- HOLD falls after the bytes, and S rises in hold; behind some bits more, too.
abbrev held_after : List ℕ → ℕ → Act
held_after bs n = events (Event.Select false ∷ bytes_in bs ++ bits_in n 0 ++ Event.Hold false ∷ Event.Select true ∷ Event.Hold true ∷ [])

abbrev held : List ℕ → Act
held bs = held_after bs 0

-- HOLD falls, C and HOLD rise, and S rises: the fall of C that would end hold has not come.
abbrev held_with_hold_high : List ℕ → Act
held_with_hold_high bs =
    events (Event.Select false ∷ bytes_in bs ++ Event.Hold false ∷ Event.Clock true ∷ Event.Hold true ∷ Event.Select true ∷ Event.Clock false ∷ [])

-- HOLD falls while C is high with the last bit, which is 0, and S rises before C falls: not held.
abbrev not_held_with_hold_low : List ℕ → ℕ → Act
not_held_with_hold_low bs upper =
    events
    (Event.Select false ∷ bytes_in bs ++ bits_in 7 upper ++ Event.Data false ∷ Event.Clock true ∷ Event.Hold false ∷ Event.Select true ∷ Event.Hold true
    ∷ Event.Clock false ∷ [])

-- 66h to cell 5, by the address bytes that a device has.
abbrev one_byte : List ℕ
one_byte = 0x02 ∷ 0x05 ∷ 0x66 ∷ []

abbrev two_bytes : List ℕ
two_bytes = 0x02 ∷ 0x00 ∷ 0x05 ∷ 0x66 ∷ []

abbrev three_bytes : List ℕ
three_bytes = 0x02 ∷ 0x00 ∷ 0x00 ∷ 0x05 ∷ 0x66 ∷ []

-- A complete WRITE, on each device. The two M95128s write, and take their write time for it.
abbrev held_write : List Act
held_write = wren ∷ held two_bytes ∷ pause 4999 ∷ status ∷ pause 1 ∷ status ∷ cell 5 ∷ []

abbrev pub m95128d_held_write : Line
m95128d_held_write = (2, held_write, 0x03 ∷ 0x00 ∷ 0x66 ∷ [])

abbrev pub m95128_held_write : Line
m95128_held_write = (7, held_write, 0x03 ∷ 0x00 ∷ 0x66 ∷ [])

abbrev pub m95040_held_write : Line
m95040_held_write = (1, wren ∷ held one_byte ∷ status ∷ full ∷ cell 5 ∷ [], 0x02 ∷ 0xFF ∷ [])

abbrev pub m95m01_held_write : Line
m95m01_held_write = (3, wren ∷ held three_bytes ∷ status ∷ [], 0x02 ∷ [])

abbrev pub m95m02_held_write : Line
m95m02_held_write = (4, wren ∷ held three_bytes ∷ status ∷ full ∷ cell 5 ∷ [], 0x02 ∷ 0xFF ∷ [])

abbrev pub m95010_held_write : Line
m95010_held_write = (5, wren ∷ held one_byte ∷ status ∷ [], 0x02 ∷ [])

abbrev pub m95020_held_write : Line
m95020_held_write = (6, wren ∷ held one_byte ∷ status ∷ [], 0x02 ∷ [])

-- WRID and LID are writes too.
abbrev pub held_wrid : Line
held_wrid = (2, wren ∷ held (0x82 ∷ 0x00 ∷ 0x05 ∷ 0x66 ∷ []) ∷ full ∷ identity 5 ∷ [], 0x66 ∷ [])

abbrev pub held_lid : Line
held_lid = (2, wren ∷ held (0x82 ∷ 0x04 ∷ 0x00 ∷ 0x02 ∷ []) ∷ full ∷ ask (0x83 ∷ 0x04 ∷ 0x00 ∷ []) 1 ∷ [], 0x01 ∷ [])

-- WREN, WRDI and WRSR are none.
abbrev pub held_wren : Line
held_wren = (2, held (0x06 ∷ []) ∷ status ∷ [], 0x00 ∷ [])

abbrev pub held_wrdi : Line
held_wrdi = (2, wren ∷ held (0x04 ∷ []) ∷ status ∷ [], 0x02 ∷ [])

abbrev pub held_wrsr : Line
held_wrsr = (2, wren ∷ held (0x01 ∷ 0x0C ∷ []) ∷ full ∷ status ∷ [], 0x02 ∷ [])

-- Held with HOLD high again: as in hold. Not held with HOLD low: as ever.
abbrev pub held_with_hold_high_write : Line
held_with_hold_high_write = (2, wren ∷ held_with_hold_high two_bytes ∷ status ∷ [], 0x03 ∷ [])

abbrev pub held_with_hold_high_wrsr : Line
held_with_hold_high_wrsr = (2, wren ∷ held_with_hold_high (0x01 ∷ 0x0C ∷ []) ∷ status ∷ [], 0x02 ∷ [])

abbrev pub not_held_with_hold_low_write : Line
not_held_with_hold_low_write = (2, wren ∷ not_held_with_hold_low (0x02 ∷ 0x00 ∷ 0x05 ∷ []) 0x33 ∷ status ∷ latched 5 ∷ [], 0x03 ∷ 0x66 ∷ [])

abbrev pub not_held_with_hold_low_wrsr : Line
not_held_with_hold_low_wrsr = (2, wren ∷ not_held_with_hold_low (0x01 ∷ []) 0x06 ∷ full ∷ status ∷ [], 0x0C ∷ [])

-- Not complete: a bit over, no data, no WEL; and turned away by a cycle, which ends in its own time with its own bytes.
abbrev pub held_write_with_a_bit_over : Line
held_write_with_a_bit_over = (2, wren ∷ held_after two_bytes 1 ∷ status ∷ full ∷ cell 5 ∷ [], 0x02 ∷ 0xFF ∷ [])

abbrev pub held_write_without_data : Line
held_write_without_data = (2, wren ∷ held (0x02 ∷ 0x00 ∷ 0x05 ∷ []) ∷ status ∷ [], 0x02 ∷ [])

abbrev pub held_write_without_wel : Line
held_write_without_wel = (2, held two_bytes ∷ status ∷ [], 0x00 ∷ [])

abbrev pub held_write_in_a_cycle : Line
held_write_in_a_cycle = (2, wren ∷ rolls ∷ pause 1 ∷ held two_bytes ∷ pause 4999 ∷ status ∷ cell 5 ∷ cell 0x3E ∷ [], 0x00 ∷ 0xFF ∷ 0xA1 ∷ [])

-- Clocks in hold neither complete a byte nor spoil one.
abbrev pub clocks_in_hold_complete_no_byte : Line
clocks_in_hold_complete_no_byte = (
  2,
  wren ∷ events
      (Event.Select false ∷ bytes_in (0x02 ∷ 0x00 ∷ 0x05 ∷ []) ++ bits_in 7 0x33 ++ Event.Hold false ∷ clocks ++ Event.Select true ∷ Event.Hold true ∷ [])
      ∷ status ∷ [],
  0x02 ∷ [],
)

abbrev pub clocks_in_hold_spoil_no_byte : Line
clocks_in_hold_spoil_no_byte = (
  2,
  wren ∷ events
      (Event.Select false ∷ bytes_in (0x02 ∷ 0x00 ∷ 0x05 ∷ []) ++ bits_in 4 6 ++ Event.Hold false ∷ clocks ++ Event.Hold true ∷ bits_in 4 6 ++ Event.Hold false
      ∷ clocks ++ Event.Select true ∷ Event.Hold true ∷ [])
      ∷ status ∷ latched 5 ∷ [],
  0x03 ∷ 0x66 ∷ [],
)

-- The write has started and hold is over, HOLD still low: S falls, the device is held at once, and clocks do not count before HOLD rises.
abbrev pub selected_after_a_held_write : Line
selected_after_a_held_write = (
  2,
  wren ∷ events
      (Event.Select false ∷ bytes_in two_bytes ++ Event.Hold false ∷ Event.Select true ∷ Event.Select false ∷ clocks ++ Event.Hold true ∷ bytes_in (0x05 ∷ []))
      ∷ hears 8 ∷ [],
  0x03 ∷ [],
)

abbrev pub examples_206 : List Line
examples_206 =
    m95128d_held_write ∷ m95128_held_write ∷ m95040_held_write ∷ m95m01_held_write ∷ m95m02_held_write ∷ m95010_held_write ∷ m95020_held_write
    ∷ held_wrid ∷ held_lid ∷ held_wren ∷ held_wrdi ∷ held_wrsr ∷ held_with_hold_high_write ∷ held_with_hold_high_wrsr
    ∷ not_held_with_hold_low_write ∷ not_held_with_hold_low_wrsr ∷ held_write_with_a_bit_over ∷ held_write_without_data
    ∷ held_write_without_wel ∷ held_write_in_a_cycle ∷ clocks_in_hold_complete_no_byte ∷ clocks_in_hold_spoil_no_byte
    ∷ selected_after_a_held_write ∷ []
