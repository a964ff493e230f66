-- What play says of the room on a chip: "blank " and the number of the first blank page, or "blank none".
use Rattle.std.specs.Prelude.{◌≡◌, ℕ, Option, Some, None, List, [], ◌∷◌, ◌++◌}
use Rattle.rules.specs.Device.{row_of, page_count}
use Rattle.rules.specs.Program.{decimal}
use Rattle.rules.specs.Room.{Lowest, IsBlank}

abbrev pub blank_word : List ℕ
blank_word = 98 ∷ 108 ∷ 97 ∷ 110 ∷ 107 ∷ 32 ∷ []

-- The page in decimal, or "none", and the line's end.
abbrev pub page_text : Option ℕ → List ℕ
page_text (Some p) = decimal p ++ (10 ∷ [])
page_text None = 110 ∷ 111 ∷ 110 ∷ 101 ∷ 10 ∷ []

abbrev pub room_line : Option ℕ → List ℕ
room_line b = blank_word ++ page_text b

-- A line tells the room in a device's cells: the lowest page whose cells are all FFh, or that there is none.
pub record TellsRoom (device : ℕ) (cells line : List ℕ) : Type 0 where
  pub blank : Option ℕ
  pub first : Lowest (IsBlank (row_of device) cells) (page_count (row_of device)) blank
  pub says : line ≡ room_line blank
