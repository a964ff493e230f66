-- `chip::sound::is_sound` meets its contract.
use Rattle.chip.proofs.Clauses.{all_sound}
use Rattle.chip.proofs.sound.is_sound.Goals as goal

pub returns : goal.returns
returns c =
    all_sound c.args.device.row c.args.s _ c.received_sound.ensures c.cycle_sound.ensures
    c.resting_sound.ensures c.selected_sound.ensures c.page_sound.ensures c.latch_is_marked.ensures
