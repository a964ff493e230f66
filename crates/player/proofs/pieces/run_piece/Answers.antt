-- `player::pieces::run_piece` meets its contract.
use Rattle.player.proofs.Playing.{piece}
use Rattle.player.proofs.pieces.run_piece.Goals as goal

pub returns : goal.returns
returns c =
    let ran = c.run.ensures in
    let told = piece c.args.piece.now c.args.answers.now c.requires.playable c.requires.room ran.outcome in
    record { same = ran.same; playable = told.played; counted = (told.done, told.taken, told.counted) }
