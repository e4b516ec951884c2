use Rattle.std.proofs.Common.{ap, ◌∙◌}
use Rattle.sealed_world.specs.SealedWorlds.{world_cells}
use Rattle.sealed_world.proofs.CountedCells.{cells_exact}
use Rattle.sealed_world.proofs.world.SealedWorld.cells.Goals as goal

pub returns : goal.returns
returns c =
    let w = c.self.inside in
    record { cells = c.cells.ensures.cells ∙ cells_exact (record { site = w.site; functors = w.functors; store = w.store }) c.self.invariant.0 ∙ ap world_cells c.self.view_is }
