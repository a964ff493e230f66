-- The test of a row, which every row of the device table passes (`Widths.of-device`), and which says that it has the facts of `Device.Widths`.
use Rattle.std.specs.Prelude.{◌/◌, ◌%◌, ◌^◌, ◌*◌, ◌∷◌, if◌then◌else◌}
use Rattle.rules.specs.World.{ℕ, zero, suc, Bool, List, [], map, length, eqb, leb, ltb, Row}
use Rattle.rules.specs.Device.{has_identification, has_a8, entries, code}
use Rattle.rules.specs.Sound.{◌implies◌, all}

-- How often a number can be halved: the exponent of a power of two, here at most 24.
abbrev pub halvings : ℕ → ℕ → ℕ
halvings zero n = 0
halvings (suc most) n = if ltb 1 n then suc (halvings most (n / 2)) else 0

-- An address no further than the cells' end, and a page's start.
abbrev pub is_within : Row → ℕ → Bool
is_within row a = leb a row.cells

abbrev pub is_page_start : Row → ℕ → Bool
is_page_start row a = eqb (a % row.page) 0

-- The test of a row, a line for each fact of `Widths`.
abbrev pub tests : Row → List Bool
tests row =
    let cell_bits = halvings 24 row.cells in
    let page_bits = halvings 24 row.page in
    eqb row.cells (2 ^ cell_bits)
    ∷ eqb row.page (2 ^ page_bits)
    ∷ ltb page_bits cell_bits
    ∷ leb cell_bits 24
    ∷ leb row.cells 16_777_216
    ∷ leb 4 row.page
    ∷ leb row.page 256
    ∷ (has_identification row implies eqb row.identification row.page)
    ∷ leb (length (code row)) row.identification
    ∷ all (map (is_within row) (entries row))
    ∷ all (map (is_page_start row) (entries row))
    ∷ leb 1 row.width
    ∷ leb row.width 3
    ∷ leb row.cells (256 ^ row.width * (if has_a8 row then 2 else 1))
    ∷ leb 1 row.time
    ∷ ltb row.time (2 ^ 32)
    ∷ []

unfoldable pub is_wide : Row → Bool
is_wide row = all (tests row)
