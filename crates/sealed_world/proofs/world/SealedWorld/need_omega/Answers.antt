use Rattle.std.proofs.Common.{◌≡◌, ◌+◌, ◌<◌, ◌≤◌, inl, inr, [], ◌∷◌, Err, sym, subst, ◌∙◌, arith}
use Rattle.topos_model.specs.declared.ty.Ty.{Ty, Omega}
use Rattle.topos_model.specs.statements.Cells.{cells_of}
use Rattle.functor_store.specs.Store.{Store, cells, IsFreeKey}
use Rattle.sealed_functors.specs.Rows.{IsOverExactly}
use Rattle.type_rows.specs.TypeRows.{IsAdded}
use Rattle.omega_object.specs.declared.omega.Omega.{Omega as Values}
use Rattle.omega_object.specs.Tables.{IsNeeded}
use Rattle.sealed_world.specs.SealedWorlds.{CountedWorld, InStore, seen, types_in, world_cells, cells_with, IsGrownBy, HasTypes}
use Rattle.sealed_world.proofs.CountedCells.{seen_in}
use Rattle.sealed_world.proofs.OmegaParts.{omega_unnamed}
use Rattle.sealed_world.proofs.Growing.{not_grown, one_world, one_grown, over_kept, nothing_more, found_none, found_some, with_new_type}
use Rattle.sealed_world.proofs.TruthValues.{values_there}
use Rattle.sealed_world.proofs.world.SealedWorld.need_omega.Goals as goal

-- a type that was not there was added
was_added : (T : Ty) (old new : Store) → IsNeeded T old new → IsFreeKey old.sealed T → IsAdded T old new
was_added T old new (inl h) free = absurd (free h.0.0 h.0.1 h.0.2)
was_added T old new (inr h) free = h.1

pub returns-then-is_some-clause-ok : goal.returns-then-is_some-clause-ok
returns-then-is_some-clause-ok c =
    let there = found_some _ _ c.find.result c.find.ensures.place (sym c.is_some.ensures ∙ c.if-is_some.true) in
    let w = c.self.inside in
    record {
      grown = not_grown (Omega ∷ []) c.args.self.now;
      all = subst (λ (v : CountedWorld). HasTypes (Omega ∷ []) v) c.self.view_is (λ T i u. elim i [ inl e ↦ seen_in w.store T (there.0, there.1.0, there.1.1 ∙ e) u | inr n ↦ absurd n ]);
    }

pub returns-then-is_some-clause-over : goal.returns-then-is_some-clause-over
returns-then-is_some-clause-over c =
    let there = found_some _ _ c.find.result c.find.ensures.place (sym c.is_some.ensures ∙ c.if-is_some.true) in
    let w = c.self.inside in
    let v : InStore = record { site = w.site; functors = w.functors; store = w.store } in
    let within = nothing_more (seen v) (Omega ∷ []) (λ T i u. elim i [ inl e ↦ seen_in w.store T (there.0, there.1.0, there.1.1 ∙ e) u | inr n ↦ absurd n ]) in
    let within' = subst (λ (v : CountedWorld). cells_with v (Omega ∷ []) ≤ world_cells v) c.self.view_is within in
    λ over. omega (arith, within', over, c.room-room.ensures.room)

pub returns-in-Err-clause-over : goal.returns-in-Err-clause-over
returns-in-Err-clause-over c =
    let w = c.self.inside in
    let v : InStore = record { site = w.site; functors = w.functors; store = w.store } in
    let free = found_none _ _ c.find.result c.find.ensures.place (sym c.is_some.ensures ∙ c.if-is_some.false) in
    let same : cells w.store + cells_of w.site w.functors Omega ≡ cells_with (seen v) (Omega ∷ []) = with_new_type v Omega c.self.invariant.0 omega_unnamed free in
    subst (λ (v : CountedWorld). IsOverExactly {A = Unit {0}} (Err c.in-Err.fault) (v.budget < cells_with v (Omega ∷ []))) c.self.view_is
    (over_kept Values (Unit {0}) c.in-Err.fault _ _ (λ over. let o = over.1 in omega (arith, o, same)) (c.in-Err.ensures.over w.functors))

pub invariant_of-self : goal.invariant_of-self
invariant_of-self c =
    let w = c.self.inside in
    let v : InStore = record { site = w.site; functors = w.functors; store = w.store } in
    let free = found_none _ _ c.find.result c.find.ensures.place (sym c.is_some.ensures ∙ c.if-is_some.false) in (
      one_world v Omega c.need.new.store (was_added Omega w.store c.need.new.store c.in-Ok.ensures.needed free) c.self.invariant.0 free (c.need.ensures.faithful w.functors c.self.invariant.0.faithful),
      values_there w.site (types_in c.need.new.store) c.in-Ok.values c.in-Ok.ensures.values,
      c.self.invariant.2,
      c.self.invariant.3,
    )

pub returns-in-Ok-clause-ok : goal.returns-in-Ok-clause-ok
returns-in-Ok-clause-ok c =
    let w = c.self.inside in
    let v : InStore = record { site = w.site; functors = w.functors; store = w.store } in
    let free = found_none _ _ c.find.result c.find.ensures.place (sym c.is_some.ensures ∙ c.if-is_some.false) in
    subst (λ (v : CountedWorld). IsGrownBy (Omega ∷ []) v (seen (record { site = w.site; functors = w.functors; store = c.need.new.store }))) c.self.view_is
    (one_grown v Omega c.need.new.store (was_added Omega w.store c.need.new.store c.in-Ok.ensures.needed free) omega_unnamed)

pub returns-in-Ok-clause-over : goal.returns-in-Ok-clause-over
returns-in-Ok-clause-over c =
    let w = c.self.inside in
    let v : InStore = record { site = w.site; functors = w.functors; store = w.store } in
    let free = found_none _ _ c.find.result c.find.ensures.place (sym c.is_some.ensures ∙ c.if-is_some.false) in
    let same : cells w.store + cells_of w.site w.functors Omega ≡ cells_with (seen v) (Omega ∷ []) = with_new_type v Omega c.self.invariant.0 omega_unnamed free in
    subst (λ (v : CountedWorld). v.budget < cells_with v (Omega ∷ []) → ⊥) c.self.view_is
    (λ over. c.in-Ok.ensures.over w.functors (free, omega (arith, over, same)))
