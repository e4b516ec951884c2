use Rattle.std.proofs.Common.{◌≡◌, ◌+◌, sym, ap, subst, ◌∙◌}
use Rattle.topos_model.specs.types.Types.{Presheaf}
use Rattle.topos_model.specs.statements.Cells.{presheaf_cells}
use Rattle.sealed_world.specs.SealedWorlds.{CountedWorld, world_cells, with_presheaf}
use Rattle.sealed_world.proofs.CountedCells.{cells_exact, next_cells}
use Rattle.sealed_world.proofs.world.SealedWorld.room.Goals as goal

pub returns-clause-room : goal.returns-clause-room
returns-clause-room c =
    let w = c.self.inside in
    subst (λ (w : CountedWorld). c.room.result + world_cells w ≡ w.budget) c.self.view_is
    (ap (λ n. c.room.result + n) (sym (cells_exact (record { site = w.site; functors = w.functors; store = w.store }) c.self.invariant.0)) ∙ c.room.ensures.room)

pub returns-clause-next : goal.returns-clause-next
returns-clause-next c =
    let w = c.self.inside in
    subst (λ (v : CountedWorld). (X : Presheaf) → world_cells (with_presheaf v X) ≡ world_cells v + presheaf_cells v.site.category X) c.self.view_is
    (next_cells (record { site = w.site; functors = w.functors; store = w.store }) c.self.invariant.0)
