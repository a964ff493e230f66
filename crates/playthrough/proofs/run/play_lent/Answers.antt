-- `playthrough::run::play_lent` meets its contract.
use Rattle.playthrough.proofs.Loading.{load_fits, loaded}
use Rattle.playthrough.proofs.run.play_lent.Goals as goal

pub load-loaded-requires : goal.load-loaded-requires
load-loaded-requires g c =
    let given = c.args.world.now in
    load_fits c.args.device given.cells.now given.identification.now given.latch.now given.counts.now c.requires _ _ _ _ _ _
    c.prepare.ensures c.device-known.result.row c.device-known.ensures

pub play_loaded-requires : goal.play_loaded-requires
play_loaded-requires g c =
    let given = c.args.world.now in
    loaded c.args.device given.cells.now given.identification.now given.latch.now given.counts.now c.requires _ _ _ _ _ _
    c.prepare.ensures c.in-Ok.stored c.in-Ok-load.state c.in-Ok-load.ensures _ _ _
    c.load-loaded.auto.cells c.load-loaded.auto.identification c.count_pages.auto.counts _ c.count_pages.ensures
