-- 01, "Events", wait: time passes, and what the end of a cycle changes; with W-204 the count of its page too.
use Rattle.std.specs.Prelude.{◌+◌, ◌-◌, ◌/◌, ◌&&◌, ◌||◌, if◌then◌else◌}
use Rattle.rules.specs.World.{Bool, State, ℕ, zero, suc, not, List, get_or, set, eqb, leb, number, Row, Kind, World, with_stored}
use Rattle.rules.specs.Instruction.{changes, busy}

-- The first n latch bytes of a page go to their places from a on, where they are marked. This is the one rule by which stored bytes change.
unfoldable pub written : ℕ → ℕ → List ℕ → ℕ → List ℕ → List ℕ
written zero page latch a bytes = bytes
written (suc n) page latch a bytes =
    let before = written n page latch a bytes in
    if eqb (get_or latch (page + n) 0) 1 then set before (a + n) (get_or latch n 0) else before

-- W-204, how full a page is: its cells other than FFh, of n cells from a on. A page of 256 can be full, so a count may need nine bits.
unfoldable pub filled : ℕ → ℕ → List ℕ → ℕ
filled zero a cells = 0
filled (suc n) a cells = filled n a cells + number (not (eqb (get_or cells (a + n) 0) 0xFF))

-- The page that starts at a: whether its count is wrong, and the counts with its own taken afresh.
abbrev pub is_miscounted : Row → ℕ → List ℕ → List ℕ → Bool
is_miscounted row a cells counts = not (eqb (get_or counts (a / row.page) 0) (filled row.page a cells))

abbrev pub recounted : Row → ℕ → List ℕ → List ℕ → List ℕ
recounted row a cells counts = set counts (a / row.page) (filled row.page a cells)

-- A wait takes its microseconds from those left and stops at none. That is where a cycle ends: its change is made, and WEL is reset.
abbrev pub ends : ℕ → State → Bool
ends n s = busy s && leb s.place.left n

unfoldable pub waited_state : ℕ → State → State
waited_state n s =
    let change = changes s.cycle.kind in
    with_stored
    (record {
      status = if ends n s && change.status then s.cycle.next else s.registers.status;
      wel = s.registers.wel && not (ends n s);
      locked = s.registers.locked || ends n s && change.lock;
    })
    (record { kind = if ends n s then Kind.None else s.cycle.kind; next = s.cycle.next })
    s.place.start
    (s.place.left - n)
    s

unfoldable pub waited : Row → ℕ → World → World
waited row n w =
    let s = w.state in
    let change = changes s.cycle.kind in
    let after = written row.page row.page w.latch s.place.start w.cells in
    record {
      state = waited_state n s;
      cells = if ends n s && change.cells then after else w.cells;
      identification =
          if ends n s && change.identification then written row.page row.page w.latch 0 w.identification else w.identification;
      latch = w.latch;
      counts = if ends n s && change.cells then recounted row s.place.start after w.counts else w.counts;
    }
