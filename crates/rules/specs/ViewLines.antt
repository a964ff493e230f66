-- A view, and the first record of the bench, by example: each number that they can give, with the part shown or the device named.
use Rattle.std.specs.Prelude.{◌∷◌, ◌++◌}
use Rattle.rules.specs.World.{ℕ, List, [], replicate, Region}
use Rattle.rules.specs.Call.{shown_as, first_as}
use Rattle.rules.specs.Lines.{Line, view, first, small}

-- A view shows what its region has: a page of the cells from its first address to its last, or the identification page, whatever the
-- address.
abbrev striped : List ℕ
striped = replicate 32 1 ++ replicate 16 2 ++ replicate 464 3

abbrev sevens : List ℕ
sevens = replicate 16 7

abbrev pub view_cells_first_address : Line
view_cells_first_address = view 1 Region.Cells striped sevens 32 (shown_as 0 (replicate 16 2))

abbrev pub view_cells_last_address : Line
view_cells_last_address = view 1 Region.Cells striped sevens 47 (shown_as 0 (replicate 16 2))

abbrev pub view_cells_last_cell : Line
view_cells_last_cell = view 1 Region.Cells striped sevens 511 (shown_as 0 (replicate 16 3))

abbrev pub view_cells_past_the_cells : Line
view_cells_past_the_cells = view 1 Region.Cells striped sevens 512 (shown_as 13 [])

abbrev pub view_identification_shown : Line
view_identification_shown = view 1 Region.Identification striped sevens 32 (shown_as 0 sevens)

abbrev pub view_identification_past_the_cells : Line
view_identification_past_the_cells = view 1 Region.Identification striped sevens 512 (shown_as 0 sevens)

-- Refused it shows an empty part: of the cells 1, 2, 3 in this order, with 13 behind them; of the identification page 1, 2, 3.
abbrev pub view_cells_device : Line
view_cells_device = view 0 Region.Cells (7 ∷ []) (8 ∷ []) 512 (shown_as 1 [])

abbrev pub view_cells_length : Line
view_cells_length = view 1 Region.Cells (7 ∷ []) (8 ∷ []) 512 (shown_as 2 [])

abbrev pub view_cells_other_length : Line
view_cells_other_length = view 1 Region.Cells striped (8 ∷ []) 512 (shown_as 3 [])

abbrev pub view_identification_device : Line
view_identification_device = view 8 Region.Identification (7 ∷ []) (8 ∷ []) 0 (shown_as 1 [])

abbrev pub view_identification_other_length : Line
view_identification_other_length = view 1 Region.Identification (7 ∷ []) (8 ∷ []) 0 (shown_as 2 [])

abbrev pub view_identification_length : Line
view_identification_length = view 1 Region.Identification striped (8 ∷ []) 0 (shown_as 3 [])

-- The slice that was not asked for, and nothing else, is wrong.
abbrev pub view_cells_other_alone : Line
view_cells_other_alone = view 1 Region.Cells striped (8 ∷ []) 32 (shown_as 3 [])

abbrev pub view_identification_other_alone : Line
view_identification_other_alone = view 1 Region.Identification (7 ∷ []) sevens 0 (shown_as 2 [])

-- W-202: where there is no identification page its part is empty, and the slice lent for it too, whichever region is asked for.
abbrev pub view_no_page : Line
view_no_page = view 6 Region.Identification small.cells [] 256 (shown_as 0 [])

abbrev pub view_cells_without_a_page : Line
view_cells_without_a_page = view 6 Region.Cells small.cells [] 255 (shown_as 0 sevens)

abbrev pub view_a_page_where_there_is_none : Line
view_a_page_where_there_is_none = view 6 Region.Identification small.cells sevens 0 (shown_as 3 [])

-- The bench's first record: 12 before all else, then 6, 7, 8, 6, 1. It takes devices 1 and 2 alone, whatever more the table has.
abbrev pub first_taken : Line
first_taken = first (3 ∷ 0 ∷ 16 ∷ 0 ∷ 2 ∷ []) (first_as 0 2)

abbrev pub first_too_long : Line
first_too_long = first (replicate 32_769 0) (first_as 12 0)

abbrev pub first_of_32768_bytes : Line
first_of_32768_bytes = first (3 ∷ 0 ∷ 16 ∷ 0 ∷ 1 ∷ replicate 32_763 0) (first_as 0 1)

abbrev pub first_no_four_bytes : Line
first_no_four_bytes = first (9 ∷ 0 ∷ 1 ∷ []) (first_as 6 0)

abbrev pub first_other_kind : Line
first_other_kind = first (9 ∷ 0 ∷ 1 ∷ 0 ∷ 9 ∷ []) (first_as 7 9)

abbrev pub first_other_length : Line
first_other_length = first (9 ∷ 0 ∷ 16 ∷ 0 ∷ []) (first_as 8 0)

abbrev pub first_no_body : Line
first_no_body = first (3 ∷ 0 ∷ 16 ∷ 0 ∷ []) (first_as 6 0)

abbrev pub first_device_three : Line
first_device_three = first (3 ∷ 0 ∷ 16 ∷ 0 ∷ 3 ∷ []) (first_as 1 3)

abbrev pub first_device_seven : Line
first_device_seven = first (3 ∷ 0 ∷ 16 ∷ 0 ∷ 7 ∷ []) (first_as 1 7)

abbrev pub first_device_zero : Line
first_device_zero = first (3 ∷ 0 ∷ 16 ∷ 0 ∷ 0 ∷ []) (first_as 1 0)

abbrev pub views : List Line
views =
    view_cells_first_address ∷ view_cells_last_address ∷ view_cells_last_cell ∷ view_cells_past_the_cells ∷ view_identification_shown
    ∷ view_identification_past_the_cells ∷ view_cells_device ∷ view_cells_length ∷ view_cells_other_length ∷ view_identification_device
    ∷ view_identification_other_length ∷ view_identification_length ∷ view_cells_other_alone ∷ view_identification_other_alone ∷ view_no_page
    ∷ view_cells_without_a_page ∷ view_a_page_where_there_is_none ∷ first_taken ∷ first_too_long ∷ first_of_32768_bytes ∷ first_no_four_bytes
    ∷ first_other_kind ∷ first_other_length ∷ first_no_body ∷ first_device_three ∷ first_device_seven ∷ first_device_zero ∷ []
