-- `playthrough::run::play_loaded` meets its contract.
use Rattle.m95.proofs.Calling.{fine-status}
use Rattle.playthrough.proofs.run.play_loaded.Goals as goal

pub tell-requires : goal.tell-requires
tell-requires g c =
    fine-status c.args.device _ c.play_into-played.ensures.playable.taken
