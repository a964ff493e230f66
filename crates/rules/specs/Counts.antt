-- W-204 as statements: what a count says, that the counts stay right whatever happens, and that right counts are never refused.
use Rattle.std.specs.Prelude.{◌+◌, ◌*◌, ◌<◌, ◌≡◌}
use Rattle.rules.specs.World.{ℕ, List, get_or, Row, Event, World}
use Rattle.rules.specs.Device.{Widths, row_of, page_count}
use Rattle.rules.specs.Cycle.{filled}
use Rattle.rules.specs.Event.{refusal, next}
use Rattle.rules.specs.Sound.{Sound, Lent}
use Rattle.rules.specs.Call.{prepare_outcome, count_outcome, event_outcome, run_outcome}

-- The theorem `filled-says`: none of n cells from a on is filled exactly if each is FFh, and all n are exactly if none is.
abbrev pub FilledSays : Type 0
FilledSays =
    (n a : ℕ) (cells : List ℕ)
    → ((filled n a cells ≡ 0 → (i : ℕ) → i < n → get_or cells (a + i) 0 ≡ 0xFF) × (((i : ℕ) → i < n → get_or cells (a + i) 0 ≡ 0xFF) → filled n a cells ≡ 0))
    × ((filled n a cells ≡ n → (i : ℕ) → i < n → get_or cells (a + i) 0 ≡ 0xFF → ⊥) × (((i : ℕ) → i < n → get_or cells (a + i) 0 ≡ 0xFF → ⊥) → filled n a cells ≡ n))

-- Each page has its count. No page shares a cell with another, so this speaks of every cell once.
abbrev pub Agree : Row → List ℕ → List ℕ → Type 0
Agree row cells counts = (p : ℕ) → p < page_count row → get_or counts p 0 ≡ filled row.page (p * row.page) cells

abbrev pub Agreeing : Row → World → Type 0
Agreeing row w = Agree row w.cells w.counts

-- The theorem `counts-kept`: counts that agree with the cells before an event agree after it, refused or not.
abbrev pub CountsKept : Type 0
CountsKept = (row : Row) → Widths row → (e : Event) (w : World) → Sound row w → Lent row w → Agreeing row w → Agreeing row (next row e w)

-- The theorem `counts-never-refuse`: then no event is refused with 15.
abbrev pub CountsNeverRefuse : Type 0
CountsNeverRefuse = (row : Row) → Widths row → (e : Event) (w : World) → Sound row w → Lent row w → Agreeing row w → refusal row e w ≡ 15 → ⊥

-- Both said of the public calls, whatever they are handed besides: what they leave agrees, and 15 is not what they give.
pub record Reliable (row : Row) (number : ℕ) (w : World) : Type 0 where
  pub agrees : Agreeing row w
  pub never : number ≡ 15 → ⊥

abbrev pub CountsInEvents : Type 0
CountsInEvents =
    (device : ℕ) (w : World) (e : Event) → Agreeing (row_of device) w →
    let r = event_outcome device w e in
    Reliable (row_of device) r.number r.world

abbrev pub CountsInTraces : Type 0
CountsInTraces =
    (device : ℕ) (w : World) (trace answers : List ℕ) (limit : ℕ) → Agreeing (row_of device) w →
    let r = run_outcome device w trace answers limit in
    Reliable (row_of device) r.number r.world

-- How they come to agree. The theorem `prepared-agrees`: a device that was prepared has counts that agree. The theorem `counted-agrees`: so has one
-- whose pages were counted afresh, whatever its cells.
abbrev pub PreparedAgrees : Type 0
PreparedAgrees =
    (device : ℕ) (cells identification latch counts : List ℕ) →
    let r = prepare_outcome device cells identification latch counts in
    r.number ≡ 0 → Agreeing (row_of device) r.world

abbrev pub CountedAgrees : Type 0
CountedAgrees =
    (device : ℕ) (cells counts : List ℕ) →
    let r = count_outcome device cells counts in
    r.number ≡ 0 → Agree (row_of device) cells r.counts
