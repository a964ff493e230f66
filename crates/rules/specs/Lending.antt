-- The code's World as the rules see it, and that behind a reference to it each buffer is still the one that the caller lent, and as long: a
-- World holds references, and whoever is handed it might put others in their place.
use Rattle.std.specs.Prelude.{◌≡◌, length}
use Rattle.rules.specs.World.{World, world_of}
use Rattle.rules.specs.declared.world.World.{World as Lending}

abbrev pub world_in : Lending → World
world_in w = world_of w.state w.cells.now w.identification.now w.latch.now w.counts.now

abbrev pub AreSame : Lending → Lending → Type 0
AreSame v w =
    (v.cells.ghost_name ≡ w.cells.ghost_name)
    × (v.identification.ghost_name ≡ w.identification.ghost_name)
    × (v.latch.ghost_name ≡ w.latch.ghost_name)
    × (v.counts.ghost_name ≡ w.counts.ghost_name)
    × (length v.cells.now ≡ length w.cells.now)
    × (length v.identification.now ≡ length w.identification.now)
    × (length v.latch.now ≡ length w.latch.now)
    × (length v.counts.now ≡ length w.counts.now)
