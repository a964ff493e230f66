-- What the tables compute with: a law that says `unfolding opened` sees through every rule from an event to what is stored, and
-- one that says `unfolding calls` through those of the calls too.
use Prim.Native.Nat.{ℕ}
use Rattle.rules.specs.Device.{prepared}
use Rattle.rules.specs.Instruction.{decode, longer}
use Rattle.rules.specs.Receive.{rolled, address_after, latch_after, risen, risen_latch}
use Rattle.rules.specs.Send.{shown_address, output_after, fallen}
use Rattle.rules.specs.Judge.{is_protected, allows, is_whole, is_done, judged}
use Rattle.rules.specs.Cycle.{written, filled, waited_state, waited}
use Rattle.rules.specs.Event.{react, step, next}
use Rattle.rules.specs.Sound.{clauses, is_sound}
use Rattle.rules.specs.Trace.{event_at, record_refusal, turn}
use Rattle.rules.specs.Call.{memory_refusal, lent_refusal, world_refusal, prepare_outcome, recounted_to, count_outcome, lowest, blank_outcome, load_outcome, event_outcome}
use Rattle.rules.specs.Call.{run_outcome, part_of, is_past, view_outcome, first_record}

-- What S's rise decides, and what a wait finishes.
unfoldable pub writes : ℕ
unfolding is_protected allows is_whole is_done judged written filled waited_state waited
writes = 0

unfoldable pub opened : ℕ
unfolding prepared decode longer rolled address_after latch_after risen risen_latch shown_address output_after fallen writes react step next
opened = 0

-- What is lent is judged.
unfoldable pub judges : ℕ
unfolding clauses is_sound memory_refusal lent_refusal world_refusal
judges = 0

unfoldable pub calls : ℕ
unfolding opened judges event_at record_refusal turn prepare_outcome recounted_to count_outcome lowest blank_outcome load_outcome event_outcome run_outcome part_of is_past view_outcome first_record
calls = 0
