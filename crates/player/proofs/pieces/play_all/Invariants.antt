-- `player::pieces::play_all` meets its contract: from piece to piece the chip can be played on, and no record is refused for a count.
use Rattle.std.proofs.Common.{length}
use Rattle.rules.specs.Lending.{AreSame, world_in}
use Rattle.player.specs.Playing.{Playable, Standing}
use Rattle.player.proofs.pieces.play_all.Given as goal

abbrev pub invariant-loop : goal.invariant-loop
invariant-loop g l =
    AreSame l.world l.initial.world × Playable l.device (world_in l.world) × Standing (length l.buf) l.p
