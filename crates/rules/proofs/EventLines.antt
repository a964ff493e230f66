-- A single event: a law for each line, by computation, and the whole table from them.
use mathlib.Core.Path.{refl}
use Rattle.rules.specs.World.{none, ◌and◌}
use Rattle.rules.specs.Lines.{Gives, Given}
use Rattle.rules.specs.EventLines as spec
use Rattle.rules.proofs.Opened.{calls}

event_taken : Gives spec.event_taken
unfolding calls
event_taken = refl

event_device : Gives spec.event_device
unfolding calls
event_device = refl

event_cells : Gives spec.event_cells
unfolding calls
event_cells = refl

event_identification : Gives spec.event_identification
unfolding calls
event_identification = refl

event_latch : Gives spec.event_latch
unfolding calls
event_latch = refl

event_counts : Gives spec.event_counts
unfolding calls
event_counts = refl

event_mark : Gives spec.event_mark
unfolding calls
event_mark = refl

event_power_in_a_cycle : Gives spec.event_power_in_a_cycle
unfolding calls
event_power_in_a_cycle = refl

event_wrong_count : Gives spec.event_wrong_count
unfolding calls
event_wrong_count = refl

event_wrong_count_of_a_blank_page : Gives spec.event_wrong_count_of_a_blank_page
unfolding calls
event_wrong_count_of_a_blank_page = refl

event_count_of_what_comes : Gives spec.event_count_of_what_comes
unfolding calls
event_count_of_what_comes = refl

event_wrong_count_and_a_shorter_wait : Gives spec.event_wrong_count_and_a_shorter_wait
unfolding calls
event_wrong_count_and_a_shorter_wait = refl

event_right_count : Gives spec.event_right_count
unfolding calls
event_right_count = refl

event_wrong_count_in_a_status_cycle : Gives spec.event_wrong_count_in_a_status_cycle
unfolding calls
event_wrong_count_in_a_status_cycle = refl

event_wrong_count_at_the_rise_of_s : Gives spec.event_wrong_count_at_the_rise_of_s
unfolding calls
event_wrong_count_at_the_rise_of_s = refl

event_a_page_where_there_is_none : Gives spec.event_a_page_where_there_is_none
unfolding calls
event_a_page_where_there_is_none = refl

event_a8 : Gives spec.event_a8
unfolding calls
event_a8 = refl

event_no_a8 : Gives spec.event_no_a8
unfolding calls
event_no_a8 = refl

event_83h_in_a_cycle : Gives spec.event_83h_in_a_cycle
unfolding calls
event_83h_in_a_cycle = refl

pub events : Given spec.events
events =
    event_taken and event_device and event_cells and event_identification and event_latch
    and event_counts and event_mark and event_power_in_a_cycle
    and event_wrong_count and event_wrong_count_of_a_blank_page and event_count_of_what_comes and event_wrong_count_and_a_shorter_wait
    and event_right_count and event_wrong_count_in_a_status_cycle and event_wrong_count_at_the_rise_of_s
    and event_a_page_where_there_is_none and event_a8 and event_no_a8 and event_83h_in_a_cycle and none
