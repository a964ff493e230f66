-- The theorem `readings`: a law for each line, by computation on lists of full size, and the whole table from them.
use mathlib.Core.Path.{refl}
use Rattle.rules.specs.World.{none, ◌and◌}
use Rattle.rules.specs.Examples.{Seen, Hold}
use Rattle.rules.specs.Readings as spec
use Rattle.rules.proofs.Opened.{opened}

write_in_a_cycle : Seen spec.write_in_a_cycle
unfolding opened
write_in_a_cycle = refl

select_low_after_power : Seen spec.select_low_after_power
unfolding opened
select_low_after_power = refl

protect_low_for_a_moment : Seen spec.protect_low_for_a_moment
unfolding opened
protect_low_for_a_moment = refl

select_low_again : Seen spec.select_low_again
unfolding opened
select_low_again = refl

clock_high_again : Seen spec.clock_high_again
unfolding opened
clock_high_again = refl

clock_low_again : Seen spec.clock_low_again
unfolding opened
clock_low_again = refl

status_taken_with_its_top_bit : Seen spec.status_taken_with_its_top_bit
unfolding opened
status_taken_with_its_top_bit = refl

silent_after_select : Seen spec.silent_after_select
unfolding opened
silent_after_select = refl

fall_that_starts_hold : Seen spec.fall_that_starts_hold
unfolding opened
fall_that_starts_hold = refl

fall_that_ends_hold : Seen spec.fall_that_ends_hold
unfolding opened
fall_that_ends_hold = refl

clocks_in_hold : Seen spec.clocks_in_hold
unfolding opened
clocks_in_hold = refl

deselected_in_hold : Seen spec.deselected_in_hold
unfolding opened
deselected_in_hold = refl

deselected_in_hold_with_hold_high : Seen spec.deselected_in_hold_with_hold_high
unfolding opened
deselected_in_hold_with_hold_high = refl

deselected_with_hold_low : Seen spec.deselected_with_hold_low
unfolding opened
deselected_with_hold_low = refl

selected_with_hold_low : Seen spec.selected_with_hold_low
unfolding opened
selected_with_hold_low = refl

power_resets_wel : Seen spec.power_resets_wel
unfolding opened
power_resets_wel = refl

power_keeps_what_is_stored : Seen spec.power_keeps_what_is_stored
unfolding opened
power_keeps_what_is_stored = refl

power_loses_a_command : Seen spec.power_loses_a_command
unfolding opened
power_loses_a_command = refl

turned_away_to_the_end : Seen spec.turned_away_to_the_end
unfolding opened
turned_away_to_the_end = refl

code_complete_after_the_cycle : Seen spec.code_complete_after_the_cycle
unfolding opened
code_complete_after_the_cycle = refl

wrdi_in_a_cycle : Seen spec.wrdi_in_a_cycle
unfolding opened
wrdi_in_a_cycle = refl

wren_of_two_bytes : Seen spec.wren_of_two_bytes
unfolding opened
wren_of_two_bytes = refl

wrdi_exactly : Seen spec.wrdi_exactly
unfolding opened
wrdi_exactly = refl

status_of_the_m95040 : Seen spec.status_of_the_m95040
unfolding opened
status_of_the_m95040 = refl

status_of_the_m95m01 : Seen spec.status_of_the_m95m01
unfolding opened
status_of_the_m95m01 = refl

status_of_the_m95m02 : Seen spec.status_of_the_m95m02
unfolding opened
status_of_the_m95m02 = refl

upper_quarter_of_the_m95m01 : Seen spec.upper_quarter_of_the_m95m01
unfolding opened
upper_quarter_of_the_m95m01 = refl

upper_quarter_of_the_m95m02 : Seen spec.upper_quarter_of_the_m95m02
unfolding opened
upper_quarter_of_the_m95m02 = refl

identification_of_the_m95m01 : Seen spec.identification_of_the_m95m01
unfolding opened
identification_of_the_m95m01 = refl

identification_of_the_m95m02 : Seen spec.identification_of_the_m95m02
unfolding opened
identification_of_the_m95m02 = refl

protect_low_and_wren : Seen spec.protect_low_and_wren
unfolding opened
protect_low_and_wren = refl

protect_low_and_wrsr : Seen spec.protect_low_and_wrsr
unfolding opened
protect_low_and_wrsr = refl

protect_low_and_write : Seen spec.protect_low_and_write
unfolding opened
protect_low_and_write = refl

unknown_code : Seen spec.unknown_code
unfolding opened
unknown_code = refl

address_above_the_array : Seen spec.address_above_the_array
unfolding opened
address_above_the_array = refl

rdid_past_the_page : Seen spec.rdid_past_the_page
unfolding opened
rdid_past_the_page = refl

wrid_rolls : Seen spec.wrid_rolls
unfolding opened
wrid_rolls = refl

wrid_when_locked : Seen spec.wrid_when_locked
unfolding opened
wrid_when_locked = refl

write_with_all_protected : Seen spec.write_with_all_protected
unfolding opened
write_with_all_protected = refl

rolled_to_the_first_protected : Seen spec.rolled_to_the_first_protected
unfolding opened
rolled_to_the_first_protected = refl

wrid_with_all_protected : Seen spec.wrid_with_all_protected
unfolding opened
wrid_with_all_protected = refl

lid_with_all_protected : Seen spec.lid_with_all_protected
unfolding opened
lid_with_all_protected = refl

marks_cleared_by_write : Seen spec.marks_cleared_by_write
unfolding opened
marks_cleared_by_write = refl

marks_cleared_by_82h : Seen spec.marks_cleared_by_82h
unfolding opened
marks_cleared_by_82h = refl

latch_without_wel : Seen spec.latch_without_wel
unfolding opened
latch_without_wel = refl

lid_byte_not_latched : Seen spec.lid_byte_not_latched
unfolding opened
lid_byte_not_latched = refl

pub readings : Hold spec.readings
readings =
    write_in_a_cycle and select_low_after_power and protect_low_for_a_moment and select_low_again and clock_high_again and clock_low_again
    and status_taken_with_its_top_bit and silent_after_select and fall_that_starts_hold and fall_that_ends_hold and clocks_in_hold
    and deselected_in_hold and deselected_in_hold_with_hold_high and deselected_with_hold_low and selected_with_hold_low and power_resets_wel
    and power_keeps_what_is_stored and power_loses_a_command and turned_away_to_the_end and code_complete_after_the_cycle and wrdi_in_a_cycle
    and wren_of_two_bytes and wrdi_exactly and status_of_the_m95040 and status_of_the_m95m01 and status_of_the_m95m02
    and upper_quarter_of_the_m95m01 and upper_quarter_of_the_m95m02 and identification_of_the_m95m01 and identification_of_the_m95m02
    and protect_low_and_wren and protect_low_and_wrsr and protect_low_and_write and unknown_code and address_above_the_array and rdid_past_the_page and wrid_rolls
    and wrid_when_locked and write_with_all_protected and rolled_to_the_first_protected and wrid_with_all_protected and lid_with_all_protected and marks_cleared_by_write
    and marks_cleared_by_82h and latch_without_wel and lid_byte_not_latched and none
