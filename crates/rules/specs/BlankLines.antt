-- Where there is room, by example: each answer and each number that the question can get.
use Rattle.std.specs.Prelude.{◌∷◌, ◌++◌}
use Rattle.rules.specs.World.{List, [], replicate, Some, None}
use Rattle.rules.specs.Call.{found_as}
use Rattle.rules.specs.Lines.{Line, blank}

-- The lowest page whose count is 0, wherever it stands, on an M95010 with its eight pages.
abbrev pub blank_first_page : Line
blank_first_page = blank 5 (replicate 8 0) (found_as 0 (Some 0))

abbrev pub blank_lowest_page : Line
blank_lowest_page = blank 5 (16 ∷ 1 ∷ 0 ∷ 3 ∷ 0 ∷ replicate 3 0) (found_as 0 (Some 2))

abbrev pub blank_last_page : Line
blank_last_page = blank 5 (replicate 7 16 ++ 0 ∷ []) (found_as 0 (Some 7))

-- A page with a single cell other than FFh is not blank.
abbrev pub blank_none : Line
blank_none = blank 5 (replicate 8 1) (found_as 0 None)

-- A count is believed, though no page has so many cells; and 256, whose low byte is 0, is not 0.
abbrev pub blank_wrong_counts : Line
blank_wrong_counts = blank 5 (256 ∷ 65_535 ∷ 17 ∷ replicate 5 0) (found_as 0 (Some 3))

-- Refused it gives no page: 1, then 14 for fewer counts than pages and for more.
abbrev pub blank_device_eight : Line
blank_device_eight = blank 8 (0 ∷ []) (found_as 1 None)

abbrev pub blank_device_zero : Line
blank_device_zero = blank 0 [] (found_as 1 None)

abbrev pub blank_fewer_counts : Line
blank_fewer_counts = blank 5 (replicate 7 0) (found_as 14 None)

abbrev pub blank_more_counts : Line
blank_more_counts = blank 5 (replicate 9 0) (found_as 14 None)

abbrev pub blanks : List Line
blanks =
    blank_first_page ∷ blank_lowest_page ∷ blank_last_page ∷ blank_none ∷ blank_wrong_counts ∷ blank_device_eight ∷ blank_device_zero
    ∷ blank_fewer_counts ∷ blank_more_counts ∷ []
