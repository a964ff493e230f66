-- 01, "Traces": records, and running them within a limit.
use Rattle.std.specs.Prelude.{◌+◌, ◌-◌, ◌*◌, ◌/◌, ◌≡◌, ◌&&◌, ◌||◌, ◌∷◌, ◌++◌, if◌then◌else◌}
use Rattle.rules.specs.World.{ℕ, zero, suc, Bool, not}
use Rattle.rules.specs.World.{List, [], get_or, set, take, drop, length, eqb, leb, ltb, bit, Row, Level, Event, World}
use Rattle.rules.specs.Event.{step, answer, refusal}

-- Little-endian numbers of two and four bytes.
abbrev pub two : List ℕ → ℕ → ℕ
two t at = get_or t at 0 + get_or t (at + 1) 0 * 256

abbrev pub four : List ℕ → ℕ → ℕ
four t at = two t at + two t (at + 2) * 65_536

-- The length of each kind: 1 sets a pin, 2 waits, 3 cycles the power. No other kind has one.
abbrev pub length_of : ℕ → ℕ
length_of kind = get_or (0 ∷ 3 ∷ 6 ∷ 2 ∷ []) kind 0

-- A pin byte: the pin in the upper bits, its new level in bit 0.
abbrev pub pin_event : ℕ → Event
pin_event p =
    if eqb (p / 2) 0 then Event.Clock (bit p 0)
    else if eqb (p / 2) 1 then Event.Data (bit p 0)
    else if eqb (p / 2) 2 then Event.Select (bit p 0)
    else if eqb (p / 2) 3 then Event.Hold (bit p 0)
    else Event.Protect (bit p 0)

unfoldable pub event_at : List ℕ → ℕ → Event
event_at t at =
    if eqb (two t (at + 2)) 1 then pin_event (get_or t (at + 4) 0)
    else if eqb (two t (at + 2)) 2 then Event.Wait (four t (at + 4))
    else Event.Power

abbrev pub bad_pin : List ℕ → ℕ → ℕ → Bool
bad_pin t at kind = eqb kind 1 && ltb 9 (get_or t (at + 4) 0)

-- 01, "Numbers given back": what the record at a place is refused with, in 01's order, or 0. A record wants an answer byte.
unfoldable pub record_refusal : Row → List ℕ → ℕ → Bool → World → ℕ
record_refusal row t at full w =
    let left = length t - at in
    let kind = two t (at + 2) in
    if ltb left 4 then 6
    else if eqb (length_of kind) 0 then 7
    else if not (eqb (two t at) (length_of kind)) then 8
    else if ltb left (2 + two t at) then 6
    else if bad_pin t at kind then 9
    else if full then 10
    else refusal row (event_at t at) w

-- An answer byte: 0, 1, or 2 for Z.
abbrev pub answer_byte : Level → ℕ
answer_byte Level.Low = 0
answer_byte Level.High = 1
answer_byte Level.Z = 2

-- A run so far: its number, the bytes taken, the records done, the world, and the answers.
pub record Progress : Type 0 where
  pub number : ℕ
  pub taken : ℕ
  pub done : ℕ
  pub world : World
  pub answers : List ℕ

abbrev pub progress_of : ℕ → ℕ → ℕ → World → List ℕ → Progress
progress_of number taken done w answers = record { number = number; taken = taken; done = done; world = w; answers = answers }

-- One more record, if the run has not ended by a refusal or at the trace's end.
unfoldable pub turn : Row → List ℕ → Progress → Progress
turn row t p =
    let over = not (eqb p.number 0) || leb (length t) p.taken in
    let n = if over then p.number else record_refusal row t p.taken (leb (length p.answers) p.done) p.world in
    let does = not over && eqb n 0 in
    let w = step row (event_at t p.taken) p.world in
    record {
      number = n;
      taken = if does then p.taken + 2 + two t p.taken else p.taken;
      done = if does then p.done + 1 else p.done;
      world = if does then w else p.world;
      answers = if does then set p.answers p.done (answer_byte (answer w.state)) else p.answers;
    }

-- At most as many records as asked for.
abbrev pub run : ℕ → Row → List ℕ → Progress → Progress
run zero row t p = p
run (suc limit) row t p = run limit row t (turn row t p)

-- What two pieces of a trace give together: the second goes on where the first stopped, and its answers stand behind the first's.
abbrev pub glued : Progress → Progress → Progress
glued p q = progress_of q.number (p.taken + q.taken) (p.done + q.done) q.world (take p.done p.answers ++ q.answers)

-- The theorem `pieces`: a trace a ++ b may be run in two pieces, cut anywhere. What the first leaves untaken is put in front of b, and the
-- second goes on in the world and with the answer bytes that the first left. Together they give what the whole trace gives.
abbrev pub Pieces : Type 0
Pieces = (row : Row) (a b : List ℕ) (w : World) (answers : List ℕ) (k m : ℕ) →
    let p = run k row a (progress_of 0 0 0 w answers) in
    let q = run m row (drop p.taken (a ++ b)) (progress_of 0 0 0 p.world (drop p.done p.answers)) in
    run (p.done + m) row (a ++ b) (progress_of 0 0 0 w answers) ≡ glued p q
