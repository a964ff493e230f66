-- Each part of a state that was put as bytes is read back, and with them the whole.
use Prim.Native.Nat.{ℕ, ◌+◌, ◌*◌, ◌^◌, ◌<◌}
use mathlib.Core.Path.{◌≡◌}
use mathlib.Core.Bool.{Bool, true}
use native.Mathlib.Omega.{arith}
use lib.Dec.{leb}
use lib.ListN.{get_or}
use Rattle.std.proofs.lemmas.Grind.{common_steps}
use Rattle.std.proofs.lemmas.Nat.{from_le_bytes-to_le_bytes_4}
use Rattle.rules.specs.declared.Instruction.{Instruction}
use Rattle.rules.specs.declared.Kind.{Kind}
use Rattle.rules.specs.declared.Level.{Level}
use Rattle.rules.specs.declared.State.{State}
use Rattle.rules.specs.World.{number}
use Rattle.rules.specs.Trace.{answer_byte}
use Rattle.rules.proofs.Choice.{number-back}
use Rattle.state_bytes.specs.StateBytes.{instructions, levels, kinds, is_state, state_at, byte_of, instruction_number, kind_number, bytes_of}

flag_is : (b : Bool) → leb (number b) 1 ≡ true
flag_is b = grind (arith, common_steps)

instruction-back : (i : Instruction) → (leb (instruction_number i) 10 ≡ true) × (get_or instructions (instruction_number i) Instruction.Unknown ≡ i)
instruction-back i = grind (arith, common_steps)

level-back : (q : Level) → (leb (answer_byte q) 2 ≡ true) × (get_or levels (answer_byte q) Level.Z ≡ q)
level-back q = grind (arith, common_steps)

kind-back : (k : Kind) → (leb (kind_number k) 4 ≡ true) × (get_or kinds (kind_number k) Kind.None ≡ k)
kind-back k = grind (arith, common_steps)

four-back : (n : ℕ) → n < 2 ^ 32 → byte_of n 0 + byte_of n 8 * 256 + (byte_of n 16 + byte_of n 24 * 256) * 65_536 ≡ n
four-back n h = omega (arith, from_le_bytes-to_le_bytes_4 n h)

pub is_state_lem : (s : State) → is_state (bytes_of s) ≡ true
unfolding is_state bytes_of
is_state_lem s = simp (flag_is, (instruction-back s.command.instruction).0, (level-back s.output.q).0, (kind-back s.cycle.kind).0)

pub state-back : (s : State) → s.place.address < 2 ^ 32 → s.place.start < 2 ^ 32 → s.place.left < 2 ^ 32 → state_at (bytes_of s) ≡ s
unfolding bytes_of
state-back s a b c = simp (four-back, number-back, (instruction-back s.command.instruction).1, (level-back s.output.q).1, (kind-back s.cycle.kind).1)
