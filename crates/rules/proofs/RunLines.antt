-- A trace: a law for each line, by computation, and the whole table from them.
use mathlib.Core.Path.{refl}
use Rattle.rules.specs.World.{none, ◌and◌}
use Rattle.rules.specs.Lines.{Gives, Given}
use Rattle.rules.specs.RunLines as spec
use Rattle.rules.proofs.Opened.{calls}

run_to_its_end : Gives spec.run_to_its_end
unfolding calls
run_to_its_end = refl

run_to_its_limit : Gives spec.run_to_its_limit
unfolding calls
run_to_its_limit = refl

run_data_select_protect : Gives spec.run_data_select_protect
unfolding calls
run_data_select_protect = refl

run_clock_hold : Gives spec.run_clock_hold
unfolding calls
run_clock_hold = refl

run_wait : Gives spec.run_wait
unfolding calls
run_wait = refl

run_wait_third_byte : Gives spec.run_wait_third_byte
unfolding calls
run_wait_third_byte = refl

run_wait_fourth_byte : Gives spec.run_wait_fourth_byte
unfolding calls
run_wait_fourth_byte = refl

run_answers_low : Gives spec.run_answers_low
unfolding calls
run_answers_low = refl

run_answers_high : Gives spec.run_answers_high
unfolding calls
run_answers_high = refl

run_device : Gives spec.run_device
unfolding calls
run_device = refl

run_cells : Gives spec.run_cells
unfolding calls
run_cells = refl

run_identification : Gives spec.run_identification
unfolding calls
run_identification = refl

run_a_page_where_there_is_none : Gives spec.run_a_page_where_there_is_none
unfolding calls
run_a_page_where_there_is_none = refl

run_latch : Gives spec.run_latch
unfolding calls
run_latch = refl

run_counts : Gives spec.run_counts
unfolding calls
run_counts = refl

run_mark : Gives spec.run_mark
unfolding calls
run_mark = refl

run_no_four_bytes : Gives spec.run_no_four_bytes
unfolding calls
run_no_four_bytes = refl

run_unknown_kind : Gives spec.run_unknown_kind
unfolding calls
run_unknown_kind = refl

run_kind_of_two_bytes : Gives spec.run_kind_of_two_bytes
unfolding calls
run_kind_of_two_bytes = refl

run_wrong_length : Gives spec.run_wrong_length
unfolding calls
run_wrong_length = refl

run_length_of_two_bytes : Gives spec.run_length_of_two_bytes
unfolding calls
run_length_of_two_bytes = refl

run_no_body : Gives spec.run_no_body
unfolding calls
run_no_body = refl

run_no_pin : Gives spec.run_no_pin
unfolding calls
run_no_pin = refl

run_no_answer_left : Gives spec.run_no_answer_left
unfolding calls
run_no_answer_left = refl

run_power_in_a_cycle : Gives spec.run_power_in_a_cycle
unfolding calls
run_power_in_a_cycle = refl

run_no_answer_left_for_a_wrong_count : Gives spec.run_no_answer_left_for_a_wrong_count
unfolding calls
run_no_answer_left_for_a_wrong_count = refl

run_wrong_count : Gives spec.run_wrong_count
unfolding calls
run_wrong_count = refl

pub runs : Given spec.runs
runs =
    run_to_its_end and run_to_its_limit and run_data_select_protect and run_clock_hold and run_wait and run_wait_third_byte and run_wait_fourth_byte
    and run_answers_low and run_answers_high and run_device and run_cells and run_identification and run_a_page_where_there_is_none and run_latch
    and run_counts
    and run_mark and run_no_four_bytes and run_unknown_kind and run_kind_of_two_bytes and run_wrong_length and run_length_of_two_bytes and run_no_body
    and run_no_pin and run_no_answer_left and run_power_in_a_cycle
    and run_no_answer_left_for_a_wrong_count and run_wrong_count and none
