-- The words that every rule is written in: the world of one device, and setters that change one part of it and keep the rest.
use Rattle.std.specs.Prelude.{◌/◌, ◌%◌, ◌^◌, ◌∷◌}
pub use Rattle.std.specs.Prelude.{ℕ, zero, suc, min, Bool, true, false, not, Option, Some, None, List, [], map, get_or, set, take, drop, replicate, length, eqb, leb, ltb}
pub use Rattle.rules.specs.declared.Sheet.{Sheet}
pub use Rattle.rules.specs.declared.Row.{Row}
pub use Rattle.rules.specs.declared.Instruction.{Instruction}
pub use Rattle.rules.specs.declared.Kind.{Kind}
pub use Rattle.rules.specs.declared.Source.{Source}
pub use Rattle.rules.specs.declared.Facts.{Facts}
pub use Rattle.rules.specs.declared.Change.{Change}
pub use Rattle.rules.specs.declared.Going.{Going}
pub use Rattle.rules.specs.declared.Region.{Region}
pub use Rattle.rules.specs.declared.Level.{Level}
pub use Rattle.rules.specs.declared.Event.{Event}
pub use Rattle.rules.specs.declared.Pins.{Pins}
pub use Rattle.rules.specs.declared.Selection.{Selection}
pub use Rattle.rules.specs.declared.Input.{Input}
pub use Rattle.rules.specs.declared.Command.{Command}
pub use Rattle.rules.specs.declared.Output.{Output}
pub use Rattle.rules.specs.declared.Registers.{Registers}
pub use Rattle.rules.specs.declared.Stored.{Stored}
pub use Rattle.rules.specs.declared.Cycle.{Cycle}
pub use Rattle.rules.specs.declared.State.{State}

-- 01, "The device's state": the state, and the buffers that are lent; since W-204 a count for each page is among them.
pub record World : Type 0 where
  pub state : State
  pub cells : List ℕ
  pub identification : List ℕ
  pub latch : List ℕ
  pub counts : List ℕ

abbrev pub world_of : State → List ℕ → List ℕ → List ℕ → List ℕ → World
world_of s cells identification latch counts = record { state = s; cells = cells; identification = identification; latch = latch; counts = counts }

-- Bit k of n, and a bit as a number.
abbrev pub bit : ℕ → ℕ → Bool
bit n k = eqb (n / 2 ^ k % 2) 1

abbrev pub number : Bool → ℕ
number true = 1
number false = 0

-- The setters, the only places that name every field: the pins, what a selection makes anew, and what is stored or runs.
abbrev pub with_pins : Pins → State → State
with_pins p s =
    record {
      place = s.place;
      pins = p;
      selection = s.selection;
      input = s.input;
      command = s.command;
      output = s.output;
      registers = s.registers;
      cycle = s.cycle;
      filler = s.filler;
    }

abbrev pub with_selection : ℕ → Selection → Input → Command → Output → State → State
with_selection a x i c o s =
    record {
      place = record { address = a; start = s.place.start; left = s.place.left };
      pins = s.pins;
      selection = x;
      input = i;
      command = c;
      output = o;
      registers = s.registers;
      cycle = s.cycle;
      filler = s.filler;
    }

abbrev pub with_stored : Registers → Cycle → ℕ → ℕ → State → State
with_stored r c start left s =
    record {
      place = record { address = s.place.address; start = start; left = left };
      pins = s.pins;
      selection = s.selection;
      input = s.input;
      command = s.command;
      output = s.output;
      registers = r;
      cycle = c;
      filler = s.filler;
    }

abbrev pub with_state : State → World → World
with_state s w = record { state = s; cells = w.cells; identification = w.identification; latch = w.latch; counts = w.counts }

abbrev pub with_latch : List ℕ → World → World
with_latch l w = record { state = w.state; cells = w.cells; identification = w.identification; latch = l; counts = w.counts }

-- What is said of each line of a table.
infixr 5 ◌and◌
pub data Each {A : Type 0} (Says : A → Type 0) : List A → Type 0 where
  none : Each Says []
  ◌and◌ : {line : A} {lines : List A} → Says line → Each Says lines → Each Says (line ∷ lines)
