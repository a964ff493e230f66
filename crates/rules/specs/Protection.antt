-- W-203 as statements: the service sheet answers what the arithmetic on the cell count answered, and what it prints can be read as it stands.
use Rattle.std.specs.Prelude.{◌-◌, ◌*◌, ◌/◌, ◌%◌, ◌<◌, ◌≡◌, ◌&&◌, ◌||◌}
use Rattle.rules.specs.World.{ℕ, Bool, false, eqb, leb, Row, World}
use Rattle.rules.specs.Device.{row_of, first_protected, Widths}
use Rattle.rules.specs.Judge.{blocks, is_protected}
use Rattle.rules.specs.Sound.{Sound}

-- What a setting protects by document 01, from the cell count: under BP 01 the top quarter, under 10 the top half, under 11 everything, under
-- 00 nothing.
abbrev pub upper : ℕ → ℕ → ℕ → Bool
upper cells bp a = eqb bp 1 && leb (cells / 4 * 3) a || eqb bp 2 && leb (cells / 2) a || eqb bp 3

-- The sheet and that arithmetic agree.
abbrev pub Unchanged : ℕ → ℕ → ℕ → Type 0
Unchanged device bp a = is_protected (row_of device) bp a ≡ upper (row_of device).cells bp a

-- The theorem `protection-unchanged`: for every device, every setting and every address that is a cell's. (At the cells' end, where there
-- is none, the sheet's one comparison says protected under 00 too.)
abbrev pub ProtectionUnchanged : Type 0
ProtectionUnchanged = (device bp a : ℕ) → bp < 4 → a < (row_of device).cells → Unchanged device bp a

-- The theorem `asked-unchanged`: so for what any sound state asks when S rises, which is its own setting and address.
abbrev pub AskedUnchanged : Type 0
AskedUnchanged = (device : ℕ) (w : World) → Sound (row_of device) w → Unchanged device (blocks w.state) w.state.place.address

-- The theorem `protected-by-page`: an address answers as the start of its page does, so a page is protected whole or not at all.
abbrev pub ProtectedByPage : Type 0
ProtectedByPage = (row : Row) → Widths row → (bp a : ℕ) → is_protected row bp a ≡ is_protected row bp (a - a % row.page)

-- The theorem `none-protected`: the cell count stands in the sheet exactly where no cell is protected.
abbrev pub NoneProtected : Type 0
NoneProtected =
    (row : Row) → Widths row → (bp : ℕ)
    → ((first_protected row bp ≡ row.cells) → (a : ℕ) → a < row.cells → is_protected row bp a ≡ false)
    × (((a : ℕ) → a < row.cells → is_protected row bp a ≡ false) → first_protected row bp ≡ row.cells)
