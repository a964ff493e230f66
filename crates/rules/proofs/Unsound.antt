-- The theorem `unsound`: a law for each line, by computation, and the whole table from them.
use mathlib.Core.Path.{refl}
use Rattle.rules.specs.World.{none, ◌and◌}
use Rattle.rules.specs.Lines.{Gives, Given}
use Rattle.rules.specs.Unsound as spec
use Rattle.rules.proofs.Opened.{calls}

eight_bits : Gives spec.eight_bits
unfolding calls
eight_bits = refl

value_of_too_many_bits : Gives spec.value_of_too_many_bits
unfolding calls
value_of_too_many_bits = refl

seven_bytes : Gives spec.seven_bytes
unfolding calls
seven_bytes = refl

address_past_the_cells : Gives spec.address_past_the_cells
unfolding calls
address_past_the_cells = refl

status_bit_of_no_device : Gives spec.status_bit_of_no_device
unfolding calls
status_bit_of_no_device = refl

srwd_on_the_m95040 : Gives spec.srwd_on_the_m95040
unfolding calls
srwd_on_the_m95040 = refl

new_status_bit_of_no_device : Gives spec.new_status_bit_of_no_device
unfolding calls
new_status_bit_of_no_device = refl

cycle_with_no_time : Gives spec.cycle_with_no_time
unfolding calls
cycle_with_no_time = refl

cycle_with_too_much_time : Gives spec.cycle_with_too_much_time
unfolding calls
cycle_with_too_much_time = refl

time_with_no_cycle : Gives spec.time_with_no_cycle
unfolding calls
time_with_no_cycle = refl

start_inside_a_page : Gives spec.start_inside_a_page
unfolding calls
start_inside_a_page = refl

start_past_the_cells : Gives spec.start_past_the_cells
unfolding calls
start_past_the_cells = refl

identification_cycle_elsewhere : Gives spec.identification_cycle_elsewhere
unfolding calls
identification_cycle_elsewhere = refl

held_and_not_selected : Gives spec.held_and_not_selected
unfolding calls
held_and_not_selected = refl

bit_and_not_selected : Gives spec.bit_and_not_selected
unfolding calls
bit_and_not_selected = refl

byte_and_not_selected : Gives spec.byte_and_not_selected
unfolding calls
byte_and_not_selected = refl

level_and_not_selected : Gives spec.level_and_not_selected
unfolding calls
level_and_not_selected = refl

selected_with_s_high : Gives spec.selected_with_s_high
unfolding calls
selected_with_s_high = refl

w_low_and_not_seen : Gives spec.w_low_and_not_seen
unfolding calls
w_low_and_not_seen = refl

held_with_hold_high : Gives spec.held_with_hold_high
unfolding calls
held_with_hold_high = refl

not_held_with_hold_low : Gives spec.not_held_with_hold_low
unfolding calls
not_held_with_hold_low = refl

read_taken_in_a_cycle : Gives spec.read_taken_in_a_cycle
unfolding calls
read_taken_in_a_cycle = refl

sound_at_its_edges : Gives spec.sound_at_its_edges
unfolding calls
sound_at_its_edges = refl

locked_without_a_page : Gives spec.locked_without_a_page
unfolding calls
locked_without_a_page = refl

identification_cycle_without_a_page : Gives spec.identification_cycle_without_a_page
unfolding calls
identification_cycle_without_a_page = refl

lock_cycle_without_a_page : Gives spec.lock_cycle_without_a_page
unfolding calls
lock_cycle_without_a_page = refl

rdid_left_without_a_page : Gives spec.rdid_left_without_a_page
unfolding calls
rdid_left_without_a_page = refl

rdls_left_without_a_page : Gives spec.rdls_left_without_a_page
unfolding calls
rdls_left_without_a_page = refl

wrid_left_without_a_page : Gives spec.wrid_left_without_a_page
unfolding calls
wrid_left_without_a_page = refl

lid_left_without_a_page : Gives spec.lid_left_without_a_page
unfolding calls
lid_left_without_a_page = refl

rdid_selected_without_a_page : Gives spec.rdid_selected_without_a_page
unfolding calls
rdid_selected_without_a_page = refl

write_left_without_a_page : Gives spec.write_left_without_a_page
unfolding calls
write_left_without_a_page = refl

pub unsound : Given spec.unsound
unsound =
    eight_bits and value_of_too_many_bits and seven_bytes and address_past_the_cells and status_bit_of_no_device and srwd_on_the_m95040
    and new_status_bit_of_no_device and cycle_with_no_time and cycle_with_too_much_time and time_with_no_cycle and start_inside_a_page
    and start_past_the_cells and identification_cycle_elsewhere and held_and_not_selected and bit_and_not_selected and byte_and_not_selected
    and level_and_not_selected and selected_with_s_high and w_low_and_not_seen and held_with_hold_high and not_held_with_hold_low
    and read_taken_in_a_cycle and sound_at_its_edges
    and locked_without_a_page and identification_cycle_without_a_page and lock_cycle_without_a_page and rdid_left_without_a_page
    and rdls_left_without_a_page and wrid_left_without_a_page and lid_left_without_a_page and rdid_selected_without_a_page
    and write_left_without_a_page and none
