-- 01, "The device's state": the sound states, as a test that runs, and as a record of facts that theorems use.
use Rattle.std.specs.Prelude.{◌++◌, ◌+◌, ◌%◌, ◌^◌, ◌≤◌, ◌<◌, ◌≡◌, ◌&&◌, ◌||◌, ◌∷◌, if◌then◌else◌}
use Rattle.rules.specs.World.{State, ℕ, Bool, true, false, not}
use Rattle.rules.specs.World.{List, [], get_or, drop, length, eqb, leb, ltb, Row, Instruction, Kind, Level, Event, Selection, Input, Output, World}
use Rattle.std.specs.Bool.{beq}
use Rattle.rules.specs.Device.{Widths, has_identification, page_count}
use Rattle.rules.specs.Instruction.{facts, changes, busy}
use Rattle.rules.specs.Judge.{storable}
use Rattle.rules.specs.Event.{step}

infixr 25 ◌implies◌
abbrev pub ◌implies◌ : Bool → Bool → Bool
a implies b = not a || b

abbrev pub all : List Bool → Bool
all [] = true
all (b ∷ bs) = b && all bs

abbrev pub is_z : Level → Bool
is_z Level.Low = false
is_z Level.High = false
is_z Level.Z = true

-- Each mark is 0 or 1.
abbrev pub are_marks : List ℕ → Bool
are_marks [] = true
are_marks (m ∷ ms) = leb m 1 && are_marks ms

-- 01's list, in its order: the current byte, whole bytes and the address; status and new status; time left; page start.
abbrev pub received_clauses : Row → State → List Bool
received_clauses row s = leb s.input.bits 7 ∷ ltb s.input.value (2 ^ s.input.bits) ∷ leb s.input.bytes 6 ∷ ltb s.place.address row.cells ∷ []

abbrev pub cycle_clauses : Row → State → List Bool
cycle_clauses row s =
    eqb (storable row s.registers.status) s.registers.status
    ∷ eqb (storable row s.cycle.next) s.cycle.next
    ∷ (if busy s then leb 1 s.place.left && leb s.place.left row.time else eqb s.place.left 0)
    ∷ eqb (s.place.start % row.page) 0
    ∷ ltb s.place.start row.cells
    ∷ ((changes s.cycle.kind).identification implies eqb s.place.start 0)
    ∷ []

-- Not selected; S low; W seen low; turned away; held.
abbrev pub resting_clauses : State → List Bool
resting_clauses s =
    (not s.selection.selected implies not s.selection.held)
    ∷ (not s.selection.selected implies eqb s.input.bits 0)
    ∷ (not s.selection.selected implies eqb s.input.bytes 0)
    ∷ (not s.selection.selected implies is_z s.output.q)
    ∷ []

abbrev pub selected_clauses : State → List Bool
selected_clauses s =
    (s.selection.selected implies not s.pins.s)
    ∷ (s.selection.selected implies s.pins.w || s.selection.seen)
    ∷ (busy s implies eqb s.input.bytes 0 || (facts s.command.instruction).taken || s.command.away)
    ∷ (s.selection.selected implies s.pins.c || beq s.selection.held (not s.pins.hold))
    ∷ []

-- W-202: where there is no identification page nothing of it is there: no lock, no cycle that writes or locks it, and no instruction of it,
-- in a deselected state either.
abbrev pub of_page : Kind → Bool
of_page k = (changes k).identification || (changes k).lock

abbrev pub page_clauses : Row → State → List Bool
page_clauses row s =
    (s.registers.locked implies has_identification row)
    ∷ (of_page s.cycle.kind implies has_identification row)
    ∷ ((facts s.command.instruction).identifies implies has_identification row)
    ∷ []

-- And the marks.
unfoldable pub clauses : Row → State → List ℕ → List Bool
clauses row s latch = received_clauses row s ++ cycle_clauses row s ++ resting_clauses s ++ selected_clauses s ++ page_clauses row s ++ are_marks (drop row.page latch) ∷ []

unfoldable pub is_sound : Row → State → List ℕ → Bool
is_sound row s latch = all (clauses row s latch)

-- The same as facts.
pub record SoundInput (i : Input) : Type 0 where
  pub few : i.bits ≤ 7
  pub small : i.value < 2 ^ i.bits
  pub counted : i.bytes ≤ 6

pub record SoundCycle (row : Row) (k : Kind) (next start left : ℕ) : Type 0 where
  pub only : storable row next ≡ next
  pub runs : (changes k).runs ≡ true → (1 ≤ left) × (left ≤ row.time)
  pub rests : (changes k).runs ≡ false → left ≡ 0
  pub aligned : start % row.page ≡ 0
  pub inside : start < row.cells
  pub first : (changes k).identification ≡ true → start ≡ 0
  pub has_page : of_page k ≡ true → has_identification row ≡ true

-- A lock, and an instruction of the identification page, are there only with that page.
pub record SoundPage (row : Row) (locked : Bool) (i : Instruction) : Type 0 where
  pub lockable : locked ≡ true → has_identification row ≡ true
  pub instruction : (facts i).identifies ≡ true → has_identification row ≡ true

pub record Off (x : Selection) (i : Input) (o : Output) : Type 0 where
  pub held : x.held ≡ false
  pub bits : i.bits ≡ 0
  pub bytes : i.bytes ≡ 0
  pub z : o.q ≡ Level.Z

-- All but the hold rule, which comes after each event.
pub record Unsettled (row : Row) (w : World) : Type 0 where
  pub input : SoundInput w.state.input
  pub inside : w.state.place.address < row.cells
  pub stored : storable row w.state.registers.status ≡ w.state.registers.status
  pub page : SoundPage row w.state.registers.locked w.state.command.instruction
  pub cycle : SoundCycle row w.state.cycle.kind w.state.cycle.next w.state.place.start w.state.place.left
  pub off : w.state.selection.selected ≡ false → Off w.state.selection w.state.input w.state.output
  pub low : w.state.selection.selected ≡ true → w.state.pins.s ≡ false
  pub saw : w.state.selection.selected ≡ true → w.state.pins.w ≡ false → w.state.selection.seen ≡ true
  pub turned : busy w.state ≡ true → (w.state.input.bytes ≡ 0 → ⊥) → (facts w.state.command.instruction).taken ≡ false → w.state.command.away ≡ true
  pub marks : (i : ℕ) → get_or w.latch (row.page + i) 0 ≤ 1

pub record Sound (row : Row) (w : World) : Type 0 where
  pub unsettled : Unsettled row w
  pub holds : w.state.selection.selected ≡ true → w.state.pins.c ≡ false → w.state.selection.held ≡ not w.state.pins.hold

-- The lent buffers have the device's lengths.
pub record Lent (row : Row) (w : World) : Type 0 where
  pub cells : length w.cells ≡ row.cells
  pub identification : length w.identification ≡ row.identification
  pub latch : length w.latch ≡ row.page + row.page
  pub counts : length w.counts ≡ page_count row

-- The theorem `reads`: the test and the facts say the same. The theorem `preserved`: every event keeps a sound world sound and its lists as long.
abbrev pub Reads : Type 0
Reads = (row : Row) (w : World) → (is_sound row w.state w.latch ≡ true → Sound row w) × (Sound row w → is_sound row w.state w.latch ≡ true)

abbrev pub Preserved : Type 0
Preserved = (row : Row) → Widths row → (e : Event) (w : World) → Sound row w → Lent row w → Sound row (step row e w) × Lent row (step row e w)
