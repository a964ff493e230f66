-- A view, and the bench's first record: a law for each line, by computation, and the whole table from them.
use mathlib.Core.Path.{refl}
use Rattle.rules.specs.World.{none, ◌and◌}
use Rattle.rules.specs.Lines.{Gives, Given}
use Rattle.rules.specs.ViewLines as spec
use Rattle.rules.proofs.Opened.{calls}

view_cells_first_address : Gives spec.view_cells_first_address
unfolding calls
view_cells_first_address = refl

view_cells_last_address : Gives spec.view_cells_last_address
unfolding calls
view_cells_last_address = refl

view_cells_last_cell : Gives spec.view_cells_last_cell
unfolding calls
view_cells_last_cell = refl

view_cells_past_the_cells : Gives spec.view_cells_past_the_cells
unfolding calls
view_cells_past_the_cells = refl

view_identification_shown : Gives spec.view_identification_shown
unfolding calls
view_identification_shown = refl

view_identification_past_the_cells : Gives spec.view_identification_past_the_cells
unfolding calls
view_identification_past_the_cells = refl

view_cells_device : Gives spec.view_cells_device
unfolding calls
view_cells_device = refl

view_cells_length : Gives spec.view_cells_length
unfolding calls
view_cells_length = refl

view_cells_other_length : Gives spec.view_cells_other_length
unfolding calls
view_cells_other_length = refl

view_identification_device : Gives spec.view_identification_device
unfolding calls
view_identification_device = refl

view_identification_other_length : Gives spec.view_identification_other_length
unfolding calls
view_identification_other_length = refl

view_identification_length : Gives spec.view_identification_length
unfolding calls
view_identification_length = refl

view_cells_other_alone : Gives spec.view_cells_other_alone
unfolding calls
view_cells_other_alone = refl

view_identification_other_alone : Gives spec.view_identification_other_alone
unfolding calls
view_identification_other_alone = refl

view_no_page : Gives spec.view_no_page
unfolding calls
view_no_page = refl

view_cells_without_a_page : Gives spec.view_cells_without_a_page
unfolding calls
view_cells_without_a_page = refl

view_a_page_where_there_is_none : Gives spec.view_a_page_where_there_is_none
unfolding calls
view_a_page_where_there_is_none = refl

first_taken : Gives spec.first_taken
unfolding calls
first_taken = refl

first_too_long : Gives spec.first_too_long
unfolding calls
first_too_long = refl

first_of_32768_bytes : Gives spec.first_of_32768_bytes
unfolding calls
first_of_32768_bytes = refl

first_no_four_bytes : Gives spec.first_no_four_bytes
unfolding calls
first_no_four_bytes = refl

first_other_kind : Gives spec.first_other_kind
unfolding calls
first_other_kind = refl

first_other_length : Gives spec.first_other_length
unfolding calls
first_other_length = refl

first_no_body : Gives spec.first_no_body
unfolding calls
first_no_body = refl

first_device_three : Gives spec.first_device_three
unfolding calls
first_device_three = refl

first_device_seven : Gives spec.first_device_seven
unfolding calls
first_device_seven = refl

first_device_zero : Gives spec.first_device_zero
unfolding calls
first_device_zero = refl

pub views : Given spec.views
views =
    view_cells_first_address and view_cells_last_address and view_cells_last_cell and view_cells_past_the_cells and view_identification_shown
    and view_identification_past_the_cells and view_cells_device and view_cells_length and view_cells_other_length and view_identification_device
    and view_identification_other_length and view_identification_length and view_cells_other_alone and view_identification_other_alone
    and view_no_page and view_cells_without_a_page and view_a_page_where_there_is_none and first_taken and first_too_long and first_of_32768_bytes
    and first_no_four_bytes and first_other_kind and first_other_length and first_no_body and first_device_three and first_device_seven
    and first_device_zero and none
