-- W-205 as statements: which page is answered, that the search stops there, and that right counts answer as the cells themselves do.
use Rattle.std.specs.Prelude.{◌+◌, ◌*◌, ◌≤◌, ◌<◌, ◌≡◌}
use Rattle.rules.specs.World.{ℕ, List, get_or, length, Row, Option, Some, None}
use Rattle.rules.specs.Device.{row_of, page_count}
use Rattle.rules.specs.Call.{count_outcome, found_number, page_number, blank_outcome}
use Rattle.rules.specs.Counts.{Agree}

-- The lowest number below n of which something holds, or that there is none.
abbrev pub Lowest : (ℕ → Type 0) → ℕ → Option ℕ → Type 0
Lowest Holds n (Some p) = (p < n) × Holds p × ((q : ℕ) → q < p → Holds q → ⊥)
Lowest Holds n None = (q : ℕ) → q < n → Holds q → ⊥

-- A call that is not refused answers exactly so of a device's pages.
abbrev pub Answers : ℕ → List ℕ → (ℕ → Type 0) → Type 0
Answers device counts Holds =
    let r = blank_outcome device counts in
    r.number ≡ 0 → (b : Option ℕ) → (r.blank ≡ b → Lowest Holds (page_count (row_of device)) b) × (Lowest Holds (page_count (row_of device)) b → r.blank ≡ b)

-- The theorem `first-blank-says`: the answer is the lowest page that has a count of 0, whether or not that count is right.
abbrev pub FirstBlankSays : Type 0
FirstBlankSays = (device : ℕ) (counts : List ℕ) → Answers device counts (λ (p : ℕ). (p < length counts) × (get_or counts p 0 ≡ 0))

-- The theorem `blank-numbers`: the two numbers of an answer tell it from every other.
abbrev pub BlankNumbers : Type 0
BlankNumbers = (a b : Option ℕ) → found_number a ≡ found_number b → page_number a ≡ page_number b → a ≡ b

-- The theorem `blank-stops`: what stands behind the page that is answered makes no difference.
abbrev pub BlankStops : Type 0
BlankStops =
    (device : ℕ) (xs ys : List ℕ) (p : ℕ) → length ys ≡ length xs → ((q : ℕ) → q ≤ p → get_or ys q 0 ≡ get_or xs q 0) → (blank_outcome device xs).blank ≡ Some p
    → blank_outcome device ys ≡ blank_outcome device xs

-- Every cell of a page is FFh.
abbrev pub IsBlank : Row → List ℕ → ℕ → Type 0
IsBlank row cells p = (i : ℕ) → i < row.page → get_or cells (p * row.page + i) 0 ≡ 0xFF

-- The theorem `blank-as-read`: counts that agree with the cells answer as reading every cell would.
abbrev pub BlankAsRead : Type 0
BlankAsRead = (device : ℕ) (cells counts : List ℕ) → Agree (row_of device) cells counts → Answers device counts (IsBlank (row_of device) cells)

-- The theorem `counted-as-read`: so does asking once the pages are counted afresh, which then is not refused.
abbrev pub CountedAsRead : Type 0
CountedAsRead =
    (device : ℕ) (cells counts : List ℕ) → (count_outcome device cells counts).number ≡ 0 →
    let r = blank_outcome device (count_outcome device cells counts).counts in
    (r.number ≡ 0) × Lowest (IsBlank (row_of device) cells) (page_count (row_of device)) r.blank
