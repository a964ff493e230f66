-- The last line of play: the ending as the bench says it, then how many records were done and how many bytes they took.
use Rattle.std.specs.Prelude.{ℕ, List, [], ◌∷◌, ◌++◌}
use Rattle.rules.specs.Program.{decimal, hexadecimal, ending}

-- " records " and " bytes ", and the line's end.
abbrev pub records_word : List ℕ
records_word = 32 ∷ 114 ∷ 101 ∷ 99 ∷ 111 ∷ 114 ∷ 100 ∷ 115 ∷ 32 ∷ []

abbrev pub bytes_word : List ℕ
bytes_word = 32 ∷ 98 ∷ 121 ∷ 116 ∷ 101 ∷ 115 ∷ 32 ∷ []

abbrev pub summary : ℕ → ℕ → ℕ → ℕ → List ℕ
summary number status records bytes = ending number (hexadecimal status) ++ records_word ++ decimal records ++ bytes_word ++ decimal bytes ++ (10 ∷ [])
