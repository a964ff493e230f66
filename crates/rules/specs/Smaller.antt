-- W-202 by example: what a person sees at the three smaller boards, each a prepared chip of full size. 5 is the M95010, 6 the M95020 and 7
-- the M95128 without an identification page.
use Rattle.std.specs.Prelude.{◌∷◌}
use Rattle.rules.specs.World.{false, List, [], Event}
use Rattle.rules.specs.Examples.{Act, ask, events, cell, latched, say, wren, status, pause, full, Line}
use Rattle.rules.specs.Readings.{silence}

-- One address byte, and no cell that it cannot name: bit 3 of a code counts for nothing. 0Eh is WREN; 0Ah and 0Bh are WRITE and READ.
abbrev pub m95010_wren_0e : Line
m95010_wren_0e = (5, say (0x0E ∷ []) ∷ status ∷ [], 0x02 ∷ [])

abbrev pub m95020_wren_0e : Line
m95020_wren_0e = (6, say (0x0E ∷ []) ∷ status ∷ [], 0x02 ∷ [])

abbrev pub m95128_no_wren_0e : Line
m95128_no_wren_0e = (7, say (0x0E ∷ []) ∷ status ∷ [], 0x00 ∷ [])

abbrev pub m95010_write_0a : Line
m95010_write_0a = (5, wren ∷ say (0x0A ∷ 0x7E ∷ 0x55 ∷ []) ∷ full ∷ cell 0x7E ∷ ask (0x0B ∷ 0x7E ∷ []) 1 ∷ [], 0x55 ∷ 0x55 ∷ [])

abbrev pub m95020_write_0a : Line
m95020_write_0a = (6, wren ∷ say (0x0A ∷ 0xFE ∷ 0x55 ∷ []) ∷ full ∷ cell 0xFE ∷ ask (0x0B ∷ 0xFE ∷ []) 1 ∷ [], 0x55 ∷ 0x55 ∷ [])

-- The cells: 80h is no address of its own on the M95010, and READ goes on from each device's last cell to cell 0. On the M95020 7Fh holds a
-- byte of its own, so that FFh is not taken for it.
abbrev pub m95010_one_cell : Line
m95010_one_cell =
    (5, wren ∷ say (0x02 ∷ 0x80 ∷ 0x66 ∷ []) ∷ full ∷ cell 0 ∷ ask (0x03 ∷ 0x00 ∷ []) 1 ∷ ask (0x03 ∷ 0x80 ∷ []) 1 ∷ [], 0x66 ∷ 0x66 ∷ 0x66 ∷ [])

abbrev pub m95010_read_goes_on : Line
m95010_read_goes_on = (5, wren ∷ say (0x02 ∷ 0x00 ∷ 0x77 ∷ []) ∷ full ∷ ask (0x03 ∷ 0x7F ∷ []) 2 ∷ [], 0xFF ∷ 0x77 ∷ [])

abbrev pub m95020_read_goes_on : Line
m95020_read_goes_on =
    (6, wren ∷ say (0x02 ∷ 0x00 ∷ 0x77 ∷ []) ∷ full ∷ wren ∷ say (0x02 ∷ 0x7F ∷ 0x66 ∷ []) ∷ full ∷ ask (0x03 ∷ 0xFF ∷ []) 2 ∷ [], 0xFF ∷ 0x77 ∷ [])

abbrev pub m95128_read_goes_on : Line
m95128_read_goes_on = (7, wren ∷ say (0x02 ∷ 0x00 ∷ 0x00 ∷ 0x77 ∷ []) ∷ full ∷ ask (0x03 ∷ 0x3F ∷ 0xFF ∷ []) 2 ∷ [], 0xFF ∷ 0x77 ∷ [])

-- The page: a write rolls round from its last place to its first.
abbrev pub m95010_page : Line
m95010_page = (5, wren ∷ say (0x02 ∷ 0x1F ∷ 0xA1 ∷ 0xA2 ∷ []) ∷ full ∷ cell 0x1F ∷ cell 0x10 ∷ cell 0x20 ∷ [], 0xA1 ∷ 0xA2 ∷ 0xFF ∷ [])

abbrev pub m95020_page : Line
m95020_page = (6, wren ∷ say (0x02 ∷ 0x1F ∷ 0xA1 ∷ 0xA2 ∷ []) ∷ full ∷ cell 0x1F ∷ cell 0x10 ∷ cell 0x20 ∷ [], 0xA1 ∷ 0xA2 ∷ 0xFF ∷ [])

abbrev pub m95128_page : Line
m95128_page =
    (7, wren ∷ say (0x02 ∷ 0x00 ∷ 0x7F ∷ 0xA1 ∷ 0xA2 ∷ []) ∷ full ∷ cell 0x7F ∷ cell 0x40 ∷ cell 0x80 ∷ [], 0xA1 ∷ 0xA2 ∷ 0xFF ∷ [])

-- Of a status byte FFh each stores the bits that it has, after 5000 microseconds.
abbrev pub m95010_status : Line
m95010_status = (5, wren ∷ say (0x01 ∷ 0xFF ∷ []) ∷ pause 4999 ∷ status ∷ pause 1 ∷ status ∷ [], 0x03 ∷ 0x0C ∷ [])

abbrev pub m95020_status : Line
m95020_status = (6, wren ∷ say (0x01 ∷ 0xFF ∷ []) ∷ pause 4999 ∷ status ∷ pause 1 ∷ status ∷ [], 0x03 ∷ 0x0C ∷ [])

abbrev pub m95128_status : Line
m95128_status = (7, wren ∷ say (0x01 ∷ 0xFF ∷ []) ∷ pause 4999 ∷ status ∷ pause 1 ∷ status ∷ [], 0x03 ∷ 0x8C ∷ [])

-- With BP 01 the first protected cell, and the one before it, whose WRITE starts a cycle.
abbrev pub m95010_upper_quarter : Line
m95010_upper_quarter = (
  5,
  wren ∷ say (0x01 ∷ 0x04 ∷ []) ∷ full ∷ wren ∷ say (0x02 ∷ 0x60 ∷ 0x77 ∷ []) ∷ status ∷ say (0x02 ∷ 0x5F ∷ 0x77 ∷ []) ∷ status ∷ [],
  0x06 ∷ 0x07 ∷ [],
)

abbrev pub m95020_upper_quarter : Line
m95020_upper_quarter = (
  6,
  wren ∷ say (0x01 ∷ 0x04 ∷ []) ∷ full ∷ wren ∷ say (0x02 ∷ 0xC0 ∷ 0x77 ∷ []) ∷ status ∷ say (0x02 ∷ 0xBF ∷ 0x77 ∷ []) ∷ status ∷ [],
  0x06 ∷ 0x07 ∷ [],
)

abbrev pub m95128_upper_quarter : Line
m95128_upper_quarter = (
  7,
  wren ∷ say (0x01 ∷ 0x04 ∷ []) ∷ full ∷ wren ∷ say (0x02 ∷ 0x30 ∷ 0x00 ∷ 0x77 ∷ []) ∷ status
      ∷ say (0x02 ∷ 0x2F ∷ 0xFF ∷ 0x77 ∷ []) ∷ status ∷ [],
  0x06 ∷ 0x07 ∷ [],
)

-- W low: with one address byte it stops WRSR and WRITE, and not WREN; on the M95128 it stops WRSR where SRWD is 1, and no WRITE.
abbrev protected_by_w : List Act
protected_by_w =
    events (Event.Protect false ∷ []) ∷ wren ∷ status ∷ say (0x01 ∷ 0x0C ∷ []) ∷ status ∷ say (0x02 ∷ 0x05 ∷ 0x66 ∷ []) ∷ status ∷ full ∷ cell 5 ∷ []

abbrev pub m95010_w_low : Line
m95010_w_low = (5, protected_by_w, 0x02 ∷ 0x02 ∷ 0x02 ∷ 0xFF ∷ [])

abbrev pub m95020_w_low : Line
m95020_w_low = (6, protected_by_w, 0x02 ∷ 0x02 ∷ 0x02 ∷ 0xFF ∷ [])

abbrev pub m95128_w_low : Line
m95128_w_low = (
  7,
  wren ∷ say (0x01 ∷ 0x80 ∷ []) ∷ full ∷ events (Event.Protect false ∷ []) ∷ wren ∷ say (0x01 ∷ 0x00 ∷ []) ∷ full ∷ status
      ∷ say (0x02 ∷ 0x00 ∷ 0x05 ∷ 0x66 ∷ []) ∷ full ∷ cell 5 ∷ [],
  0x82 ∷ 0x66 ∷ [],
)

-- No identification page: 83h sends nothing, with the lock bit or without; 82h starts no cycle, latches nothing and clears no marks.
abbrev page_asked : List Act
page_asked =
    ask (0x83 ∷ 0x00 ∷ []) 1 ∷ ask (0x83 ∷ 0x80 ∷ []) 1 ∷ wren ∷ say (0x82 ∷ 0x00 ∷ 0x11 ∷ []) ∷ status ∷ say (0x82 ∷ 0x80 ∷ 0x02 ∷ []) ∷ status ∷ []

abbrev pub m95010_no_page : Line
m95010_no_page = (5, page_asked, silence ∷ silence ∷ 0x02 ∷ 0x02 ∷ [])

abbrev pub m95020_no_page : Line
m95020_no_page = (6, page_asked, silence ∷ silence ∷ 0x02 ∷ 0x02 ∷ [])

abbrev pub m95128_83h_sends_nothing : Line
m95128_83h_sends_nothing = (7, ask (0x83 ∷ 0x00 ∷ 0x00 ∷ []) 1 ∷ ask (0x83 ∷ 0x04 ∷ 0x00 ∷ []) 1 ∷ [], silence ∷ silence ∷ [])

abbrev pub m95128_82h_starts_nothing : Line
m95128_82h_starts_nothing =
    (7, wren ∷ say (0x82 ∷ 0x00 ∷ 0x00 ∷ 0x11 ∷ []) ∷ status ∷ say (0x82 ∷ 0x04 ∷ 0x00 ∷ 0x02 ∷ []) ∷ status ∷ [], 0x02 ∷ 0x02 ∷ [])

abbrev pub m95128_82h_clears_no_marks : Line
m95128_82h_clears_no_marks =
    (7, say (0x02 ∷ 0x00 ∷ 0x05 ∷ 0x66 ∷ []) ∷ say (0x82 ∷ 0x00 ∷ 0x07 ∷ 0x11 ∷ []) ∷ latched 69 ∷ latched 7 ∷ latched 71 ∷ [], 1 ∷ 0 ∷ 0 ∷ [])

abbrev pub examples_202 : List Line
examples_202 =
    m95010_wren_0e ∷ m95020_wren_0e ∷ m95128_no_wren_0e ∷ m95010_write_0a ∷ m95020_write_0a ∷ m95010_one_cell ∷ m95010_read_goes_on
    ∷ m95020_read_goes_on ∷ m95128_read_goes_on ∷ m95010_page ∷ m95020_page ∷ m95128_page ∷ m95010_status ∷ m95020_status ∷ m95128_status
    ∷ m95010_upper_quarter ∷ m95020_upper_quarter ∷ m95128_upper_quarter ∷ m95010_w_low ∷ m95020_w_low ∷ m95128_w_low ∷ m95010_no_page
    ∷ m95020_no_page ∷ m95128_83h_sends_nothing ∷ m95128_82h_starts_nothing ∷ m95128_82h_clears_no_marks ∷ []
