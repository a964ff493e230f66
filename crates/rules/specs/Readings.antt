-- Rules that are easily misread, a line each, seen at the bench as the examples are: first 01's "Readings that look right and are not"
-- that no example refutes, then edges, hold, power, cycles, and what each command asks for.
use Rattle.std.specs.Prelude.{◌∷◌, ◌++◌}
use Rattle.rules.specs.World.{ℕ, true, false, List, [], Event}
use Rattle.rules.specs.Examples.{bits_in, bytes_in, Act, send, ask, hears, events, output, cell, identity, latched, say, wren, status, pause, full, rolls, Line}

-- S falls and bytes go in, and the selection goes on; S rises; the clock up and down.
abbrev begins : List ℕ → Act
begins bs = events (Event.Select false ∷ bytes_in bs)

abbrev ends : Act
ends = events (Event.Select true ∷ [])

abbrev pub clocks : List Event
clocks = Event.Clock true ∷ Event.Clock false ∷ []

-- Eight bits of Z.
abbrev pub silence : ℕ
silence = 65_280

-- A WRITE in a cycle leaves that cycle's latch alone; S low after power selects nothing; W low for a moment stops WRSR.
-- (That cells do not change when S rises, and that a page write does not go on into the next page, examples 4 and 3 show.)
abbrev pub write_in_a_cycle : Line
write_in_a_cycle =
    (2, wren ∷ rolls ∷ say (0x02 ∷ 0x00 ∷ 0x3E ∷ 0xB1 ∷ []) ∷ full ∷ cell 0x3E ∷ cell 0x3F ∷ cell 0 ∷ status ∷ [], 0xA1 ∷ 0xA2 ∷ 0xA3 ∷ 0x00 ∷ [])

abbrev pub select_low_after_power : Line
select_low_after_power =
    (2, events (Event.Select false ∷ Event.Power ∷ bytes_in (0x06 ∷ []) ++ Event.Select false ∷ Event.Select true ∷ []) ∷ status ∷ [], 0x00 ∷ [])

abbrev pub protect_low_for_a_moment : Line
protect_low_for_a_moment = (
  2,
  wren ∷ say (0x01 ∷ 0x80 ∷ []) ∷ full ∷ wren ∷ begins (0x01 ∷ [])
      ∷ events (Event.Protect false ∷ Event.Protect true ∷ bytes_in (0x0C ∷ [])) ∷ ends ∷ full ∷ status ∷ [],
  0x82 ∷ [],
)

-- Setting the level that a pin has is no edge: of S no fall, of C no rise, and no fall that would take the status anew.
abbrev pub select_low_again : Line
select_low_again = (2, events (Event.Select false ∷ bits_in 4 0 ++ Event.Select false ∷ bits_in 4 6 ++ Event.Select true ∷ []) ∷ status ∷ [], 0x02 ∷ [])

abbrev pub clock_high_again : Line
clock_high_again =
    (2, events (Event.Select false ∷ bits_in 7 3 ++ Event.Data false ∷ Event.Clock true ∷ Event.Clock true ∷ Event.Select true ∷ clocks) ∷ status ∷ [], 0x02 ∷ [])

abbrev pub clock_low_again : Line
clock_low_again = (2, wren ∷ rolls ∷ begins (0x05 ∷ []) ∷ full ∷ events (Event.Clock false ∷ []) ∷ hears 8 ∷ [], 0x03 ∷ [])

-- The status is taken with its top bit: a cycle that ends after the fourth bit shows in the next byte, not in this one.
abbrev pub status_taken_with_its_top_bit : Line
status_taken_with_its_top_bit = (2, wren ∷ rolls ∷ begins (0x05 ∷ []) ∷ hears 4 ∷ full ∷ hears 4 ∷ hears 8 ∷ [], 0x0 ∷ 0x3 ∷ 0x00 ∷ [])

-- With S's rise Q is at Z.
abbrev pub silent_after_select : Line
silent_after_select = (1, wren ∷ begins (0x05 ∷ []) ∷ output ∷ ends ∷ output ∷ [], 0 ∷ 256 ∷ [])

-- Hold, seen at ST's code 20h 00h 12h. The fall that starts it moves Q first, to 20h's bit 5, which is hidden and then comes back.
abbrev pub fall_that_starts_hold : Line
fall_that_starts_hold = (
  4,
  begins (0x83 ∷ 0x00 ∷ 0x00 ∷ 0x00 ∷ []) ∷ hears 1 ∷ events (Event.Clock true ∷ Event.Hold false ∷ []) ∷ output ∷ events (Event.Clock false ∷ []) ∷ output
      ∷ events (Event.Hold true ∷ []) ∷ output ∷ [],
  0 ∷ 0 ∷ 256 ∷ 1 ∷ [],
)

-- The fall that ends it moves nothing: at a top bit it would go on to 12h.
abbrev pub fall_that_ends_hold : Line
fall_that_ends_hold = (
  4,
  begins (0x83 ∷ 0x00 ∷ 0x00 ∷ 0x00 ∷ []) ∷ hears 8 ∷ events (Event.Hold false ∷ Event.Clock true ∷ Event.Hold true ∷ []) ∷ output
      ∷ events (Event.Clock false ∷ []) ∷ hears 8 ∷ hears 8 ∷ [],
  0x20 ∷ 256 ∷ 0x00 ∷ 0x12 ∷ [],
)

-- Clocks in hold do not count.
abbrev pub clocks_in_hold : Line
clocks_in_hold = (
  2,
  events (Event.Select false ∷ bits_in 4 0 ++ Event.Hold false ∷ clocks ++ clocks ++ clocks ++ Event.Hold true ∷ bits_in 4 6 ++ Event.Select true ∷ []) ∷ status ∷ [],
  0x02 ∷ [],
)

-- A WREN that S's rise finds held is dropped, also with HOLD high again; one that it finds not held is done, also with HOLD low.
abbrev pub deselected_in_hold : Line
deselected_in_hold = (1, begins (0x06 ∷ []) ∷ events (Event.Hold false ∷ Event.Select true ∷ Event.Hold true ∷ []) ∷ status ∷ [], 0x00 ∷ [])

abbrev pub deselected_in_hold_with_hold_high : Line
deselected_in_hold_with_hold_high =
    (2, begins (0x06 ∷ []) ∷ events (Event.Hold false ∷ Event.Clock true ∷ Event.Hold true ∷ Event.Select true ∷ Event.Clock false ∷ []) ∷ status ∷ [], 0x00 ∷ [])

abbrev pub deselected_with_hold_low : Line
deselected_with_hold_low = (
  2,
  events (Event.Select false ∷ bits_in 7 3 ++ Event.Data false ∷ Event.Clock true ∷ Event.Hold false ∷ Event.Select true ∷ Event.Hold true ∷ Event.Clock false ∷ [])
      ∷ status ∷ [],
  0x02 ∷ [],
)

-- S falls with HOLD low: held at once, so that the first clock does not count.
abbrev pub selected_with_hold_low : Line
selected_with_hold_low =
    (1, events (Event.Hold false ∷ Event.Select false ∷ clocks ++ Event.Hold true ∷ bytes_in (0x06 ∷ []) ++ Event.Select true ∷ []) ∷ status ∷ [], 0x02 ∷ [])

-- Power resets WEL, and keeps the status bits and the lock.
abbrev pub power_resets_wel : Line
power_resets_wel = (1, wren ∷ events (Event.Power ∷ []) ∷ status ∷ [], 0x00 ∷ [])

abbrev pub power_keeps_what_is_stored : Line
power_keeps_what_is_stored = (
  2,
  wren ∷ say (0x82 ∷ 0x04 ∷ 0x00 ∷ 0x02 ∷ []) ∷ full ∷ wren ∷ say (0x01 ∷ 0x84 ∷ []) ∷ full ∷ events (Event.Power ∷ []) ∷ status
      ∷ ask (0x83 ∷ 0x04 ∷ 0x00 ∷ []) 2 ∷ [],
  0x84 ∷ 0x01 ∷ 0x01 ∷ [],
)

-- Power loses a complete command.
abbrev pub power_loses_a_command : Line
power_loses_a_command = (2, wren ∷ begins (0x02 ∷ 0x00 ∷ 0x05 ∷ 0x66 ∷ []) ∷ events (Event.Power ∷ []) ∷ ends ∷ full ∷ cell 5 ∷ [], 0xFF ∷ [])

-- A READ turned away in a cycle stays so when the cycle ends in its selection; one whose code is complete after that is taken.
abbrev pub turned_away_to_the_end : Line
turned_away_to_the_end = (2, wren ∷ rolls ∷ begins (0x03 ∷ []) ∷ full ∷ events (bytes_in (0x00 ∷ 0x3E ∷ [])) ∷ hears 8 ∷ ends ∷ cell 0x3E ∷ [], silence ∷ 0xA1 ∷ [])

abbrev pub code_complete_after_the_cycle : Line
code_complete_after_the_cycle =
    (2, wren ∷ rolls ∷ events (Event.Select false ∷ bits_in 7 1) ∷ full ∷ events (bits_in 1 1 ++ bytes_in (0x00 ∷ 0x3E ∷ [])) ∷ hears 8 ∷ [], 0xA1 ∷ [])

-- WRDI is taken in a cycle, which goes on.
abbrev pub wrdi_in_a_cycle : Line
wrdi_in_a_cycle = (2, wren ∷ rolls ∷ say (0x04 ∷ []) ∷ status ∷ full ∷ cell 0x3E ∷ [], 0x01 ∷ 0xA1 ∷ [])

-- WREN and WRDI ask for eight rises: not sixteen, not nine.
abbrev pub wren_of_two_bytes : Line
wren_of_two_bytes = (1, say (0x06 ∷ 0x06 ∷ []) ∷ status ∷ [], 0x00 ∷ [])

abbrev pub wrdi_exactly : Line
wrdi_exactly = (2, wren ∷ send (0x04 ∷ []) 1 ∷ status ∷ say (0x04 ∷ []) ∷ status ∷ [], 0x02 ∷ 0x00 ∷ [])

-- Of a status byte FFh each device stores the bits that it has, after its write time.
abbrev pub status_of_the_m95040 : Line
status_of_the_m95040 = (1, wren ∷ say (0x01 ∷ 0xFF ∷ []) ∷ pause 4999 ∷ status ∷ pause 1 ∷ status ∷ [], 0x03 ∷ 0x0C ∷ [])

abbrev pub status_of_the_m95m01 : Line
status_of_the_m95m01 = (3, wren ∷ say (0x01 ∷ 0xFF ∷ []) ∷ pause 3999 ∷ status ∷ pause 1 ∷ status ∷ [], 0x03 ∷ 0x8C ∷ [])

abbrev pub status_of_the_m95m02 : Line
status_of_the_m95m02 = (4, wren ∷ say (0x01 ∷ 0xFF ∷ []) ∷ pause 4999 ∷ status ∷ pause 1 ∷ status ∷ [], 0x03 ∷ 0x8C ∷ [])

-- With BP 01 the first protected cell of the larger devices, and the one before it, whose WRITE starts a cycle.
abbrev pub upper_quarter_of_the_m95m01 : Line
upper_quarter_of_the_m95m01 = (
  3,
  wren ∷ say (0x01 ∷ 0x04 ∷ []) ∷ full ∷ wren ∷ say (0x02 ∷ 0x01 ∷ 0x80 ∷ 0x00 ∷ 0x77 ∷ []) ∷ status
      ∷ say (0x02 ∷ 0x01 ∷ 0x7F ∷ 0xFF ∷ 0x77 ∷ []) ∷ status ∷ [],
  0x06 ∷ 0x07 ∷ [],
)

abbrev pub upper_quarter_of_the_m95m02 : Line
upper_quarter_of_the_m95m02 = (
  4,
  wren ∷ say (0x01 ∷ 0x04 ∷ []) ∷ full ∷ wren ∷ say (0x02 ∷ 0x03 ∷ 0x00 ∷ 0x00 ∷ 0x77 ∷ []) ∷ status
      ∷ say (0x02 ∷ 0x02 ∷ 0xFF ∷ 0xFF ∷ 0x77 ∷ []) ∷ status ∷ [],
  0x06 ∷ 0x07 ∷ [],
)

-- Their identification pages: ST's code on the M95M02 only, and a write that rolls round from the last of 256 bytes.
abbrev pub identification_of_the_m95m01 : Line
identification_of_the_m95m01 = (
  3,
  ask (0x83 ∷ 0x00 ∷ 0x00 ∷ 0x00 ∷ []) 3 ∷ wren ∷ say (0x82 ∷ 0x00 ∷ 0x00 ∷ 0xFF ∷ 0x77 ∷ 0x88 ∷ []) ∷ full ∷ identity 255 ∷ identity 0 ∷ [],
  0xFF ∷ 0xFF ∷ 0xFF ∷ 0x77 ∷ 0x88 ∷ [],
)

abbrev pub identification_of_the_m95m02 : Line
identification_of_the_m95m02 = (
  4,
  ask (0x83 ∷ 0x00 ∷ 0x00 ∷ 0x00 ∷ []) 3 ∷ wren ∷ say (0x82 ∷ 0x00 ∷ 0x00 ∷ 0xFF ∷ 0x77 ∷ 0x88 ∷ []) ∷ full ∷ identity 255 ∷ identity 0 ∷ [],
  0x20 ∷ 0x00 ∷ 0x12 ∷ 0x77 ∷ 0x88 ∷ [],
)

-- W low on the M95040 neither stops WREN nor takes WEL back; it stops WRSR, whatever SRWD, and WRITE.
abbrev pub protect_low_and_wren : Line
protect_low_and_wren = (1, events (Event.Protect false ∷ []) ∷ wren ∷ status ∷ events (Event.Protect true ∷ Event.Protect false ∷ []) ∷ status ∷ [], 0x02 ∷ 0x02 ∷ [])

abbrev pub protect_low_and_wrsr : Line
protect_low_and_wrsr = (1, wren ∷ events (Event.Protect false ∷ []) ∷ say (0x01 ∷ 0x0C ∷ []) ∷ full ∷ status ∷ [], 0x02 ∷ [])

abbrev pub protect_low_and_write : Line
protect_low_and_write = (1, wren ∷ events (Event.Protect false ∷ []) ∷ say (0x02 ∷ 0x05 ∷ 0x66 ∷ []) ∷ full ∷ cell 5 ∷ status ∷ [], 0xFF ∷ 0x02 ∷ [])

-- After an unknown code nothing counts as a code until S rises.
abbrev pub unknown_code : Line
unknown_code = (2, ask (0x00 ∷ 0x05 ∷ []) 1 ∷ ask (0x00 ∷ 0x00 ∷ 0x05 ∷ []) 1 ∷ [], silence ∷ silence ∷ [])

-- Address bits above the array are of no account: C005h is cell 5 of the M95128-D.
abbrev pub address_above_the_array : Line
address_above_the_array = (2, wren ∷ say (0x02 ∷ 0xC0 ∷ 0x05 ∷ 0x66 ∷ []) ∷ full ∷ cell 5 ∷ [], 0x66 ∷ [])

-- RDID ends with its page and stays silent, WRID rolls round within it; address bits above the page do not matter.
abbrev pub rdid_past_the_page : Line
rdid_past_the_page = (1, ask (0x83 ∷ 0x7F ∷ []) 3 ∷ [], 0xFF ∷ silence ∷ silence ∷ [])

abbrev pub wrid_rolls : Line
wrid_rolls = (1, wren ∷ say (0x82 ∷ 0x7E ∷ 0xA1 ∷ 0xA2 ∷ 0xA3 ∷ []) ∷ full ∷ identity 14 ∷ identity 15 ∷ identity 0 ∷ [], 0xA1 ∷ 0xA2 ∷ 0xA3 ∷ [])

-- The lock shuts the identification page to WRID and LID, BP 11 the cells too; a dropped write keeps WEL. Of a lock address bit 7 alone counts.
abbrev pub wrid_when_locked : Line
wrid_when_locked = (1, wren ∷ say (0x82 ∷ 0xFF ∷ 0x02 ∷ []) ∷ full ∷ wren ∷ say (0x82 ∷ 0x00 ∷ 0x66 ∷ []) ∷ full ∷ identity 0 ∷ status ∷ [], 0xFF ∷ 0x02 ∷ [])

abbrev pub write_with_all_protected : Line
write_with_all_protected = (1, wren ∷ say (0x01 ∷ 0x0C ∷ []) ∷ full ∷ wren ∷ say (0x02 ∷ 0x00 ∷ 0x66 ∷ []) ∷ status ∷ [], 0x0E ∷ [])

-- A WRITE is judged where its data left off: after one byte 6Fh has gone round to 60h, the first protected cell under BP 01, and 5Fh to 50h.
abbrev pub rolled_to_the_first_protected : Line
rolled_to_the_first_protected = (
  5,
  wren ∷ say (0x01 ∷ 0x04 ∷ []) ∷ full ∷ wren ∷ say (0x02 ∷ 0x6F ∷ 0x77 ∷ []) ∷ status ∷ say (0x02 ∷ 0x5F ∷ 0x77 ∷ []) ∷ status ∷ [],
  0x06 ∷ 0x07 ∷ [],
)

abbrev pub wrid_with_all_protected : Line
wrid_with_all_protected = (1, wren ∷ say (0x01 ∷ 0x0C ∷ []) ∷ full ∷ wren ∷ say (0x82 ∷ 0x00 ∷ 0x66 ∷ []) ∷ full ∷ identity 0 ∷ status ∷ [], 0xFF ∷ 0x0E ∷ [])

abbrev pub lid_with_all_protected : Line
lid_with_all_protected = (1, wren ∷ say (0x01 ∷ 0x0C ∷ []) ∷ full ∷ wren ∷ say (0x82 ∷ 0x80 ∷ 0x02 ∷ []) ∷ full ∷ ask (0x83 ∷ 0x80 ∷ []) 1 ∷ [], 0x00 ∷ [])

-- The codes of WRITE and 82h clear what an earlier, dropped write has marked.
abbrev pub marks_cleared_by_write : Line
marks_cleared_by_write =
    (2, wren ∷ send (0x02 ∷ 0x00 ∷ 0x10 ∷ 0xAA ∷ []) 1 ∷ say (0x02 ∷ 0x00 ∷ 0x20 ∷ 0xBB ∷ []) ∷ full ∷ cell 0x10 ∷ cell 0x20 ∷ [], 0xFF ∷ 0xBB ∷ [])

abbrev pub marks_cleared_by_82h : Line
marks_cleared_by_82h = (
  2,
  wren ∷ send (0x02 ∷ 0x00 ∷ 0x10 ∷ 0xAA ∷ []) 1 ∷ say (0x82 ∷ 0x00 ∷ 0x20 ∷ 0xBB ∷ []) ∷ full ∷ identity 0x10 ∷ identity 0x20 ∷ [],
  0xFF ∷ 0xBB ∷ [],
)

-- The latch takes data and loses its marks with WEL 0 too; its data bytes stay. LID's data byte is not for it.
abbrev pub latch_without_wel : Line
latch_without_wel = (
  1,
  say (0x02 ∷ 0x05 ∷ 0xAA ∷ []) ∷ latched 5 ∷ latched 21 ∷ say (0x82 ∷ []) ∷ latched 5 ∷ latched 21 ∷ [],
  0xAA ∷ 1 ∷ 0xAA ∷ 0 ∷ [],
)

abbrev pub lid_byte_not_latched : Line
lid_byte_not_latched = (1, wren ∷ say (0x82 ∷ 0x80 ∷ 0x02 ∷ []) ∷ latched 0 ∷ latched 16 ∷ full ∷ ask (0x83 ∷ 0x80 ∷ []) 1 ∷ [], 0 ∷ 0 ∷ 0x01 ∷ [])

abbrev pub readings : List Line
readings =
    write_in_a_cycle ∷ select_low_after_power ∷ protect_low_for_a_moment ∷ select_low_again ∷ clock_high_again ∷ clock_low_again
    ∷ status_taken_with_its_top_bit ∷ silent_after_select ∷ fall_that_starts_hold ∷ fall_that_ends_hold ∷ clocks_in_hold ∷ deselected_in_hold
    ∷ deselected_in_hold_with_hold_high ∷ deselected_with_hold_low ∷ selected_with_hold_low ∷ power_resets_wel ∷ power_keeps_what_is_stored
    ∷ power_loses_a_command ∷ turned_away_to_the_end ∷ code_complete_after_the_cycle ∷ wrdi_in_a_cycle ∷ wren_of_two_bytes ∷ wrdi_exactly
    ∷ status_of_the_m95040 ∷ status_of_the_m95m01 ∷ status_of_the_m95m02 ∷ upper_quarter_of_the_m95m01 ∷ upper_quarter_of_the_m95m02
    ∷ identification_of_the_m95m01 ∷ identification_of_the_m95m02 ∷ protect_low_and_wren ∷ protect_low_and_wrsr ∷ protect_low_and_write
    ∷ unknown_code ∷ address_above_the_array ∷ rdid_past_the_page ∷ wrid_rolls ∷ wrid_when_locked ∷ write_with_all_protected ∷ rolled_to_the_first_protected
    ∷ wrid_with_all_protected ∷ lid_with_all_protected ∷ marks_cleared_by_write ∷ marks_cleared_by_82h ∷ latch_without_wel ∷ lid_byte_not_latched ∷ []
