-- `replay::compare::is_good` meets its contract: preparing and running leave the buffers as long as they were.
use Prim.Native.Nat.{ℕ}
use mathlib.Core.Path.{sym, ap, ◌∙◌}
use lib.ListN.{length}
use Rattle.rules.specs.World.{World}
use Rattle.rules.specs.Trace.{Progress}
use Rattle.m95.proofs.Calling.{run-long}
use Rattle.replay.proofs.compare.is_good.Goals as goal

pub is_left-are_cells-requires : goal.is_left-are_cells-requires
is_left-are_cells-requires c =
    let long : World → ℕ = λ (w : World). length w.cells in
    ap (λ (p : Progress). long p.world) c.run-ran.ensures.outcome ∙ (run-long _ _ _ _ _ c.requires.enough).0
    ∙ c.prepare-ready.auto.cells ∙ c.requires.long.0 ∙ sym c.copy_from_slice.ensures.len

pub is_left-is_page-requires : goal.is_left-is_page-requires
is_left-is_page-requires c =
    let long : World → ℕ = λ (w : World). length w.identification in
    ap (λ (p : Progress). long p.world) c.run-ran.ensures.outcome ∙ (run-long _ _ _ _ _ c.requires.enough).1
    ∙ c.prepare-ready.auto.identification ∙ c.requires.long.1 ∙ sym c.copy_from_slice-2.ensures.len
