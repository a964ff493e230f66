-- What holds from piece to piece of a trace.
use Rattle.std.proofs.Common.{◌≡◌, ℕ, ◌≤◌, List, length, sym, subst, arith}
use Rattle.rules.specs.World.{World}
use Rattle.rules.specs.Device.{row_of}
use Rattle.rules.specs.Trace.{Progress}
use Rattle.rules.specs.Call.{run_outcome}
use Rattle.rules.specs.Counts.{Reliable}
use Rattle.rules.proofs.Counts.{counts-in-traces}
use Rattle.rules.proofs.Program.{world-taken, world-facts}
use Rattle.rules.proofs.Runs.{Course}
use Rattle.m95.proofs.Calling.{run-course}
use Rattle.player.specs.Playing.{Playable}

-- What a piece of a run leaves, where the run began on a chip that can be played on, with an answer byte for each byte of the piece.
pub record Piece (device : ℕ) (t : List ℕ) (p : Progress) : Type 0 where
  pub done : p.done ≤ length p.answers
  pub taken : p.taken ≤ length t
  pub played : Playable device p.world
  pub counted : p.number ≡ 15 → ⊥

pub piece : {device : ℕ} {w : World} (t answers : List ℕ) {p : Progress} → Playable device w → length t ≤ length answers
    → p ≡ run_outcome device w t answers (length t) → Piece device t p
piece {device} {w} t answers {p} ready room e =
    let row = row_of device in
    let course : Course row t (length answers) (length t) p =
    subst (Course row t (length answers) (length t)) (sym e) (run-course device w t answers (length t) ready.taken room) in
    let reliable : Reliable row p.number p.world =
    subst (λ (q : Progress). Reliable row q.number q.world) (sym e) (counts-in-traces device w t answers (length t) ready.agrees) in
    record {
      done = omega (arith, course.few, course.inside, course.long, room);
      taken = omega (arith, course.inside);
      played = record { taken = world-taken device p.world (world-facts device w ready.taken).0 course.sound course.lent; agrees = reliable.agrees };
      counted = reliable.never;
    }
