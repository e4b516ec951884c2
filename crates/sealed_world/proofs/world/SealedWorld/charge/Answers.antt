use Rattle.std.proofs.Common.{◌≡◌, ◌+◌, ◌<◌, ◌≤◌, ap, subst, ◌∙◌, arith}
use Rattle.std.specs.Prelude.{OnOk, OnErr}
use Rattle.std.proofs.lemmas.Result.{on_ok_weaker, on_err_weaker}
use Rattle.finite_lists.specs.Members.{In}
use Rattle.topos_model.specs.declared.ty.Ty.{Omega}
use Rattle.functor_store.specs.Store.{Store}
use Rattle.sealed_world.specs.SealedWorlds.{CountedWorld, InStore, seen, types_in, world_cells, with_charges}
use Rattle.sealed_world.proofs.CountedCells.{cells_exact}
use Rattle.sealed_world.proofs.Growing.{charged_or_not, charged_types, charged_seen}
use Rattle.sealed_world.proofs.TruthValues.{values_kept}
use Rattle.sealed_world.proofs.world.SealedWorld.charge.Goals as goal

pub invariant_of-self : goal.invariant_of-self
invariant_of-self c =
    let w = c.self.inside in
    let v : InStore = record { site = w.site; functors = w.functors; store = w.store } in (
      charged_or_not _ _ v c.args.cells c.charge.new.self c.charge.result c.charge.ensures.ok c.charge.ensures.over c.self.invariant.0,
      values_kept w.site (types_in w.store) (types_in c.charge.new.self) w.truth_values (λ i. subst (λ l. In l Omega) (charged_types _ _ v c.args.cells c.charge.new.self c.charge.result c.charge.ensures.ok c.charge.ensures.over) i) c.self.invariant.1,
      c.self.invariant.2,
      c.self.invariant.3,
    )

pub returns-clause-ok : goal.returns-clause-ok
returns-clause-ok c =
    let w = c.self.inside in
    let same = cells_exact (record { site = w.site; functors = w.functors; store = w.store }) c.self.invariant.0 in
    subst (λ (v : CountedWorld). OnOk c.charge.result ((seen (record { site = w.site; functors = w.functors; store = c.charge.new.self }) ≡ with_charges v c.args.cells) × (world_cells v + c.args.cells ≤ v.budget))) c.self.view_is
    (on_ok_weaker c.charge.result (λ e. (ap (λ (t : Store). seen (record { site = w.site; functors = w.functors; store = t })) e.0 ∙ charged_seen (record { site = w.site; functors = w.functors; store = w.store }) c.args.cells, let l = e.1 in omega (arith, l, same))) c.charge.ensures.ok)

pub returns-clause-over : goal.returns-clause-over
returns-clause-over c =
    let w = c.self.inside in
    let same = cells_exact (record { site = w.site; functors = w.functors; store = w.store }) c.self.invariant.0 in
    subst (λ (v : CountedWorld). OnErr c.charge.result ((seen (record { site = w.site; functors = w.functors; store = c.charge.new.self }) ≡ v) × (v.budget < world_cells v + c.args.cells))) c.self.view_is
    (on_err_weaker c.charge.result (λ e. (ap (λ (t : Store). seen (record { site = w.site; functors = w.functors; store = t })) e.0, let l = e.1 in omega (arith, l, same))) c.charge.ensures.over)
