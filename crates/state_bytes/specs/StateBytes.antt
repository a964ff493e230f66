-- The state as bytes, for callers who have no State: 36 of them. The version is raised whenever one of them changes its meaning.
-- From 0: the address, the cycle's page start and its time left, four bytes each, the least significant first.
-- From 12: eleven flags of 0 or 1, for C, D, S, HOLD, W, selected, held, W seen low, turned away, WEL and the lock.
-- From 23: the instruction, the level of Q and the cycle, each by its place in its list.
-- From 26: bits received, their value, whole bytes, the last; the byte being sent; status bits, a cycle's new ones; three that mean nothing.
use Rattle.std.specs.Prelude.{◌/◌, ◌%◌, ◌^◌, ◌&&◌, ◌∷◌, ◌++◌, if◌then◌else◌}
use Rattle.rules.specs.World.{ℕ, Bool, List, [], get_or, take, drop, length, eqb, leb, number, with_selection}
use Rattle.rules.specs.declared.Instruction.{Instruction}
use Rattle.rules.specs.declared.Kind.{Kind}
use Rattle.rules.specs.declared.Level.{Level}
use Rattle.rules.specs.declared.Place.{Place}
use Rattle.rules.specs.declared.Pins.{Pins}
use Rattle.rules.specs.declared.Selection.{Selection}
use Rattle.rules.specs.declared.Input.{Input}
use Rattle.rules.specs.declared.Command.{Command}
use Rattle.rules.specs.declared.Output.{Output}
use Rattle.rules.specs.declared.Registers.{Registers}
use Rattle.rules.specs.declared.Cycle.{Cycle}
use Rattle.rules.specs.declared.Filler.{Filler}
use Rattle.rules.specs.declared.State.{State}
use Rattle.rules.specs.Device.{prepared_state}
use Rattle.rules.specs.Sound.{are_marks}
use Rattle.rules.specs.Trace.{four, answer_byte}

abbrev pub version : ℕ
version = 1

abbrev pub instructions : List Instruction
instructions =
    Instruction.Wren ∷ Instruction.Wrdi ∷ Instruction.Rdsr ∷ Instruction.Wrsr ∷ Instruction.Read ∷ Instruction.Write
    ∷ Instruction.Rdid ∷ Instruction.Rdls ∷ Instruction.Wrid ∷ Instruction.Lid ∷ Instruction.Unknown ∷ []

abbrev pub levels : List Level
levels = Level.Low ∷ Level.High ∷ Level.Z ∷ []

abbrev pub kinds : List Kind
kinds = Kind.None ∷ Kind.Array ∷ Kind.Identification ∷ Kind.Status ∷ Kind.Lock ∷ []

abbrev pub state_length : ℕ
state_length = 36

-- Whether bytes are a state at all: as many, the flags flags, and the three places inside their lists.
unfoldable pub is_state : List ℕ → Bool
is_state b = eqb (length b) state_length && (are_marks (take 11 (drop 12 b)) && leb (get_or b 23 0) 10 && leb (get_or b 24 0) 2 && leb (get_or b 25 0) 4)

-- The groups of the state, read from its bytes.
abbrev pub flag_at : List ℕ → ℕ → Bool
flag_at b i = eqb (get_or b i 0) 1

abbrev pub place_at : List ℕ → Place
place_at b = record { address = four b 0; start = four b 4; left = four b 8 }

abbrev pub pins_at : List ℕ → Pins
pins_at b = record { c = flag_at b 12; d = flag_at b 13; s = flag_at b 14; hold = flag_at b 15; w = flag_at b 16 }

abbrev pub selection_at : List ℕ → Selection
selection_at b = record { selected = flag_at b 17; held = flag_at b 18; seen = flag_at b 19 }

abbrev pub command_at : List ℕ → Command
command_at b = record { instruction = get_or instructions (get_or b 23 0) Instruction.Unknown; away = flag_at b 20 }

abbrev pub registers_at : List ℕ → Registers
registers_at b = record { status = get_or b 31 0; wel = flag_at b 21; locked = flag_at b 22 }

abbrev pub output_at : List ℕ → Output
output_at b = record { sending = get_or b 30 0; q = get_or levels (get_or b 24 0) Level.Z }

abbrev pub cycle_at : List ℕ → Cycle
cycle_at b = record { kind = get_or kinds (get_or b 25 0) Kind.None; next = get_or b 32 0 }

abbrev pub input_at : List ℕ → Input
input_at b = record { bits = get_or b 26 0; value = get_or b 27 0; bytes = get_or b 28 0; last = get_or b 29 0 }

abbrev pub filler_at : List ℕ → Filler
filler_at b = record { first = get_or b 33 0; second = get_or b 34 0; third = get_or b 35 0 }

abbrev pub state_at : List ℕ → State
state_at b =
    record {
      place = place_at b;
      pins = pins_at b;
      selection = selection_at b;
      input = input_at b;
      command = command_at b;
      output = output_at b;
      registers = registers_at b;
      cycle = cycle_at b;
      filler = filler_at b;
    }

-- Bytes that are no state stand for one that is not sound, with eight bits of a byte received: every call gives them 5.
abbrev pub no_state : State
no_state = with_selection 0 prepared_state.selection (record { bits = 8; value = 0; bytes = 0; last = 0 }) prepared_state.command prepared_state.output prepared_state

unfoldable pub state_of : List ℕ → State
state_of b = if is_state b then state_at b else no_state

-- The bytes of a state.
abbrev pub byte_of : ℕ → ℕ → ℕ
byte_of n k = n / 2 ^ k % 256

abbrev pub four_bytes : ℕ → List ℕ
four_bytes n = byte_of n 0 ∷ byte_of n 8 ∷ byte_of n 16 ∷ byte_of n 24 ∷ []

abbrev pub instruction_number : Instruction → ℕ
instruction_number Instruction.Wren = 0
instruction_number Instruction.Wrdi = 1
instruction_number Instruction.Rdsr = 2
instruction_number Instruction.Wrsr = 3
instruction_number Instruction.Read = 4
instruction_number Instruction.Write = 5
instruction_number Instruction.Rdid = 6
instruction_number Instruction.Rdls = 7
instruction_number Instruction.Wrid = 8
instruction_number Instruction.Lid = 9
instruction_number Instruction.Unknown = 10

abbrev pub kind_number : Kind → ℕ
kind_number Kind.None = 0
kind_number Kind.Array = 1
kind_number Kind.Identification = 2
kind_number Kind.Status = 3
kind_number Kind.Lock = 4

abbrev pub number_bytes : Place → List ℕ
number_bytes p = four_bytes p.address ++ four_bytes p.start ++ four_bytes p.left

abbrev pub flag_bytes : State → List ℕ
flag_bytes s =
    number s.pins.c ∷ number s.pins.d ∷ number s.pins.s ∷ number s.pins.hold ∷ number s.pins.w
    ∷ number s.selection.selected ∷ number s.selection.held ∷ number s.selection.seen
    ∷ number s.command.away ∷ number s.registers.wel ∷ number s.registers.locked ∷ []

abbrev pub other_bytes : State → List ℕ
other_bytes s =
    instruction_number s.command.instruction ∷ answer_byte s.output.q ∷ kind_number s.cycle.kind
    ∷ s.input.bits ∷ s.input.value ∷ s.input.bytes ∷ s.input.last ∷ s.output.sending ∷ s.registers.status ∷ s.cycle.next
    ∷ s.filler.first ∷ s.filler.second ∷ s.filler.third ∷ []

unfoldable pub bytes_of : State → List ℕ
bytes_of s = number_bytes s.place ++ flag_bytes s ++ other_bytes s
