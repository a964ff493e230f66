-- `m95_c::replied` meets its contract: an event that was done was asked of a sound device.
use Rattle.m95.proofs.Calling.{event_sound}
use Rattle.m95_c.proofs.replied.Goals as goal

pub returns-in-Ok-clause-sound : goal.returns-in-Ok-clause-sound
returns-in-Ok-clause-sound c = event_sound c.args.device _ _ _ _ _ c.event.ensures.outcome
