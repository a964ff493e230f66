-- Demand 3: a selection whose decoded clock rises number zero, or are no multiple of eight, may be taken out.
use Rattle.std.specs.Prelude.{◌%◌, ◌≡◌, ◌&&◌, ◌∷◌, ◌++◌, if◌then◌else◌}
use Rattle.rules.specs.World.{ℕ, suc, Bool, true, false, not, List, [], eqb, Row, Level, Event, World}
use Rattle.rules.specs.Device.{Widths, m95128d, prepared}
use Rattle.rules.specs.Send.{status_byte}
use Rattle.rules.specs.Event.{pins_after, decodes, answer, refusal, next, after}
use Rattle.rules.specs.Sound.{Sound, Lent}
use Rattle.rules.specs.Examples.{bits_in, bytes_in}

-- What anyone can see: of an event its number and Q, of the device its cells and their counts, identification bytes, stored status bits, RDSR's byte and the lock.
pub record Contents : Type 0 where
  pub cells : List ℕ
  pub counts : List ℕ
  pub identification : List ℕ
  pub status : ℕ
  pub byte : ℕ
  pub locked : Bool

abbrev pub contents : World → Contents
contents w =
    record {
      cells = w.cells;
      counts = w.counts;
      identification = w.identification;
      status = w.state.registers.status;
      byte = status_byte w.state;
      locked = w.state.registers.locked;
    }

abbrev pub Visible : Type 0
Visible = ℕ × Level × Contents

abbrev pub visible : Row → Event → World → Visible
visible row e w = let n = refusal row e w in (n, if eqb n 0 then answer (next row e w).state else Level.Z, contents (next row e w))

abbrev pub sights : Row → List Event → World → List Visible
sights row [] w = []
sights row (e ∷ es) w = visible row e w ∷ sights row es (next row e w)

-- The decoded rises of a run, onto n.
abbrev pub rises : Row → List Event → World → ℕ → ℕ
rises row [] w n = n
rises row (e ∷ es) w n =
    rises row es (next row e w) (if decodes w.state && not w.state.pins.c && (pins_after e w.state.pins).c then suc n else n)

abbrev pub Broken : ℕ → Type 0
Broken n = n % 8 ≡ 0 → n ≡ 0

-- The events inside a selection, without S's rise and power; and what is kept of them, all but those of Chip Select.
pub data Inside : List Event → List Event → Type 0 where
  end : Inside [] []
  clock : {es ks : List Event} (b : Bool) → Inside es ks → Inside (Event.Clock b ∷ es) (Event.Clock b ∷ ks)
  input : {es ks : List Event} (b : Bool) → Inside es ks → Inside (Event.Data b ∷ es) (Event.Data b ∷ ks)
  low : {es ks : List Event} → Inside es ks → Inside (Event.Select false ∷ es) ks
  hold : {es ks : List Event} (b : Bool) → Inside es ks → Inside (Event.Hold b ∷ es) (Event.Hold b ∷ ks)
  protect : {es ks : List Event} (b : Bool) → Inside es ks → Inside (Event.Protect b ∷ es) (Event.Protect b ∷ ks)
  wait : {es ks : List Event} (n : ℕ) → Inside es ks → Inside (Event.Wait n ∷ es) (Event.Wait n ∷ ks)

-- What is left of a run from w when any number of broken selections is taken out.
pub data Cut (row : Row) : World → List Event → List Event → Type 0 where
  done : {w : World} → Cut row w [] []
  keep : {w : World} {es ks : List Event} (e : Event) → Cut row (next row e w) es ks → Cut row w (e ∷ es) (e ∷ ks)
  drop : {w : World} {es ks inner kept : List Event} → w.state.selection.selected ≡ false → w.state.pins.s ≡ true
      → Inside inner kept
      → Broken (rises row inner (next row (Event.Select false) w) 0)
      → Cut row (next row (Event.Select true) (after row inner (next row (Event.Select false) w))) es ks
      → Cut row w (Event.Select false ∷ inner ++ Event.Select true ∷ es) (kept ++ ks)

-- What is seen of each event outside those selections: in the run itself, and in the run of what is left, from t.
unfoldable pub heard : {row : Row} {w : World} {es ks : List Event} → Cut row w es ks → List Visible
heard done = []
heard {row} {w} (keep e c) = visible row e w ∷ heard c
heard (drop o s i b c) = heard c

unfoldable pub heard_left : {row : Row} {w : World} {es ks : List Event} → Cut row w es ks → World → List Visible
heard_left done t = []
heard_left {row} (keep e c) t = visible row e t ∷ heard_left c (next row e t)
heard_left {row} (drop {kept = kept} o s i b c) t = heard_left c (after row kept t)

-- From the end of such a selection on nothing that anyone can see differs, then or after any later events.
abbrev pub Unseen : {row : Row} {w : World} {es ks : List Event} → Cut row w es ks → Type 0
Unseen {row} {w} {es} {ks} c =
    (heard c ≡ heard_left c w) × (contents (after row es w) ≡ contents (after row ks w))
    × ((later : List Event) → sights row later (after row es w) ≡ sights row later (after row ks w))

-- The theorem `demand-3`.
abbrev pub Demand3 : Type 0
Demand3 = (row : Row) → Widths row → (w : World) → Sound row w → Lent row w → (es ks : List Event) (c : Cut row w es ks) → Unseen c

-- The incident: WREN, a WRITE to the M95128-D with one clock too many, then a READ; and the same with that WRITE's Chip Select events taken out.
abbrev pub enabling : List Event
enabling = Event.Select false ∷ bytes_in (0x06 ∷ []) ++ Event.Select true ∷ []

abbrev pub bounced : List Event
bounced = bytes_in (0x02 ∷ 0x00 ∷ 0x05 ∷ 0x66 ∷ []) ++ bits_in 1 0

abbrev pub reading : List Event
reading = Event.Wait 5000 ∷ Event.Select false ∷ bytes_in (0x03 ∷ 0x00 ∷ 0x05 ∷ 0x00 ∷ []) ++ Event.Select true ∷ []

abbrev pub happened : List Event
happened = enabling ++ Event.Select false ∷ bounced ++ Event.Select true ∷ reading

abbrev pub remaining : List Event
remaining = enabling ++ bounced ++ reading

abbrev pub Incident : Type 0
Incident = Cut m95128d (prepared m95128d) happened remaining
