-- `m95_c::m95_run` meets its contract.
use Rattle.m95_c.proofs.Leaving.{state_long}
use Rattle.m95_c.proofs.m95_run.Goals as goal

pub put_state-requires : goal.put_state-requires
put_state-requires c = state_long c.args.state.now _ _ c.in-Ok.ensures.sound c.state_of.ensures
