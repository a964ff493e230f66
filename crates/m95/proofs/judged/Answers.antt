-- `m95::judged` meets its contract.
use Rattle.m95.proofs.Calling.{fine-sound, fine-lent}
use Rattle.m95.proofs.judged.Goals as goal

pub returns-clause-sound : goal.returns-clause-sound
returns-clause-sound c = let judged = c.world_refused in fine-sound c.args.device _ judged.result judged.ensures.number judged.ensures.known

pub returns-clause-lent : goal.returns-clause-lent
returns-clause-lent c = let judged = c.world_refused in fine-lent c.args.device _ judged.result judged.ensures.number judged.ensures.known
