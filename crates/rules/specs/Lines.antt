-- 01, "Numbers given back", by example: a line is a call with its whole outcome beside it (the answer, the records done and bytes taken,
-- the state and every lent buffer), and the worlds that the lines of several calls speak of. Where two faults stand together, the earlier number is given.
use Rattle.std.specs.Prelude.{◌≡◌, ◌∷◌, ◌++◌}
use Rattle.rules.specs.World.{ℕ, true, false, List, [], replicate, Kind, Region, Event, Stored, State, World, world_of, Each}
use Rattle.rules.specs.World.{with_pins, with_selection, with_stored, with_state, with_latch}
use Rattle.rules.specs.Device.{prepared_state}
use Rattle.rules.specs.Trace.{Progress}
use Rattle.rules.specs.Call.{Prepared, prepare_outcome, Counted, count_outcome, Found, blank_outcome, stored_in, Loaded, load_outcome, Replied, event_outcome, run_outcome}
use Rattle.rules.specs.Call.{Shown, view_outcome, First, first_record}

-- A line: a call, and its whole outcome.
pub data Line : Type 0 where
  prepare : ℕ → List ℕ → List ℕ → List ℕ → List ℕ → Prepared → Line
  count : ℕ → List ℕ → List ℕ → Counted → Line
  blank : ℕ → List ℕ → Found → Line
  load : ℕ → Stored → Loaded → Line
  stored : State → Stored → Line
  event : ℕ → World → Event → Replied → Line
  run : ℕ → World → List ℕ → List ℕ → ℕ → Progress → Line
  view : ℕ → Region → List ℕ → List ℕ → ℕ → Shown → Line
  first : List ℕ → First → Line

abbrev pub Gives : Line → Type 0
Gives (prepare device cells identification latch counts r) = prepare_outcome device cells identification latch counts ≡ r
Gives (count device cells counts r) = count_outcome device cells counts ≡ r
Gives (blank device counts r) = blank_outcome device counts ≡ r
Gives (load device x r) = load_outcome device x ≡ r
Gives (stored s r) = stored_in s ≡ r
Gives (event device w e r) = event_outcome device w e ≡ r
Gives (run device w trace answers limit r) = run_outcome device w trace answers limit ≡ r
Gives (view device region cells identification address r) = view_outcome device region cells identification address ≡ r
Gives (first input r) = first_record input ≡ r

-- What is said of a table of them.
abbrev pub Given : List Line → Type 0
Given lines = Each Gives lines

-- Buffers of a prepared state.
abbrev pub lent : List ℕ → List ℕ → List ℕ → List ℕ → World
lent cells identification latch counts = world_of prepared_state cells identification latch counts

-- A prepared M95040 with bytes of its own, and what can be wrong with it: each fault with all that are judged after it, down to a state that
-- is held and not selected.
abbrev pub good : World
good = lent (replicate 512 7) (replicate 16 8) (replicate 32 1) (replicate 32 16)

abbrev pub astray : State
astray =
    with_selection 0 (record { selected = false; held = true; seen = false }) prepared_state.input prepared_state.command prepared_state.output prepared_state

abbrev pub no_cells : World
no_cells = world_of astray (7 ∷ []) (8 ∷ []) (9 ∷ []) (6 ∷ [])

abbrev pub no_identification : World
no_identification = world_of astray good.cells (8 ∷ []) (9 ∷ []) (6 ∷ [])

abbrev pub no_latch : World
no_latch = world_of astray good.cells good.identification (9 ∷ []) (6 ∷ [])

abbrev pub no_counts : World
no_counts = world_of astray good.cells good.identification good.latch (replicate 31 16)

abbrev pub bad_mark : World
bad_mark = with_latch (replicate 31 0 ++ 2 ∷ []) good

abbrev pub busy : ℕ → State
busy left = with_stored (record { status = 0x0C; wel = true; locked = true }) (record { kind = Kind.Array; next = 0x04 }) 496 left prepared_state

abbrev pub in_cycle : World
in_cycle = with_state (busy 5000) good

-- The same with a latch that blanks half of the page, and wrong counts for every other page. `counting n` gives this page the count n, which is
-- right for 16; `miscounted` gives it 15.
abbrev pub blanking : List ℕ
blanking = replicate 16 0xFF ++ replicate 8 1 ++ replicate 8 0

abbrev pub counting : ℕ → World
counting n = world_of (busy 5000) good.cells good.identification blanking (replicate 31 9 ++ n ∷ [])

abbrev pub miscounted : World
miscounted = counting 15

-- Chosen by S's fall: the pins then, and the state.
abbrev pub chosen : State
chosen =
    with_pins (record { c = false; d = false; s = false; hold = true; w = true })
    (with_selection 0 (record { selected = true; held = false; seen = false }) prepared_state.input prepared_state.command prepared_state.output prepared_state)

-- An M95020, and an identification byte lent where it has no page.
abbrev pub small : World
small = lent (replicate 256 7) [] (replicate 32 1) (replicate 16 16)

abbrev pub page_of_none : World
page_of_none = world_of astray small.cells (8 ∷ []) (9 ∷ []) (6 ∷ [])
