use Rattle.std.proofs.Common.{◌≡◌, ◌+◌, ◌<◌, ℕ, List, inl, inr, length, Err, sym, subst, arith}
use Rattle.finite_lists.specs.Members.{In}
use Rattle.topos_model.specs.declared.ty.Ty.{Ty, Base, Omega}
use Rattle.topos_model.specs.statements.Needs.{parts}
use Rattle.functor_store.specs.Store.{Store, cells}
use Rattle.sealed_functors.specs.Rows.{IsOverExactly}
use Rattle.exponentials.specs.Needed.{new_cells, IsExtended}
use Rattle.sealed_world.specs.SealedWorlds.{CountedWorld, InStore, IsInStore, seen, types_in, cells_with, IsGrown, IsGrownBy}
use Rattle.sealed_world.proofs.CountedCells.{in_seen, cells_wanted}
use Rattle.sealed_world.proofs.Growing.{extended_world, extended_grown, extended_all, grown_only, over_kept}
use Rattle.sealed_world.proofs.TruthValues.{values_kept}
use Rattle.sealed_world.proofs.world.SealedWorld.need_parts.Goals as goal

-- truth values that are a part were sealed before
was_there : (v : InStore) (types : List Ty) (new : Store) → IsInStore v → IsExtended types v.store new → (In types Omega → In (types_in v.store) Omega) → In (types_in new) Omega → In (types_in v.store) Omega
was_there v types new h e before i =
    elim (grown_only types (seen v) (seen (record v { store = new })) (extended_grown v types new h e) Omega i) [ inl there ↦ there | inr j ↦ before j ]

pub need-requires-clause-omega : goal.need-requires-clause-omega
need-requires-clause-omega c = λ i. (in_seen c.self.inside.store Omega (subst (λ (v : CountedWorld). In v.types Omega) (sym c.self.view_is) (c.requires.omega i))).0

pub invariant_of-self : goal.invariant_of-self
invariant_of-self c =
    let w = c.self.inside in
    let v : InStore = record { site = w.site; functors = w.functors; store = w.store } in
    let T = c.args.ty.now in (
      extended_world v (parts T) c.need.new.store c.self.invariant.0 c.need.ensures.added (c.need.ensures.faithful w.functors c.self.invariant.0.faithful),
      values_kept w.site (types_in w.store) (types_in c.need.new.store) w.truth_values
          (was_there v (parts T) c.need.new.store c.self.invariant.0 c.need.ensures.added (subst (λ (u : CountedWorld). In (parts T) Omega → In u.types Omega) (sym c.self.view_is) c.requires.omega)) c.self.invariant.1,
      c.self.invariant.2,
      c.self.invariant.3,
    )

pub invariant_of-self-2 : goal.invariant_of-self-2
invariant_of-self-2 c =
    let w = c.self.inside in
    let v : InStore = record { site = w.site; functors = w.functors; store = w.store } in
    let T = c.args.ty.now in (
      extended_world v (parts T) c.need.new.store c.self.invariant.0 c.need.ensures.added (c.need.ensures.faithful w.functors c.self.invariant.0.faithful),
      values_kept w.site (types_in w.store) (types_in c.need.new.store) w.truth_values
          (was_there v (parts T) c.need.new.store c.self.invariant.0 c.need.ensures.added (subst (λ (u : CountedWorld). In (parts T) Omega → In u.types Omega) (sym c.self.view_is) c.requires.omega)) c.self.invariant.1,
      c.self.invariant.2,
      c.self.invariant.3,
    )

pub returns-in-Err-clause-err : goal.returns-in-Err-clause-err
returns-in-Err-clause-err c =
    let w = c.self.inside in
    subst (λ (v : CountedWorld). IsGrown (parts c.args.ty.now) v (seen (record { site = w.site; functors = w.functors; store = c.need.new.store }))) c.self.view_is
    (extended_grown (record { site = w.site; functors = w.functors; store = w.store }) (parts c.args.ty.now) c.need.new.store c.self.invariant.0 c.need.ensures.added)

pub returns-clause-ok : goal.returns-clause-ok
returns-clause-ok c =
    let w = c.self.inside in
    subst (λ (v : CountedWorld). IsGrownBy (parts c.args.ty.now) v (seen (record { site = w.site; functors = w.functors; store = c.need.new.store }))) c.self.view_is
    (record {
      grown = extended_grown (record { site = w.site; functors = w.functors; store = w.store }) (parts c.args.ty.now) c.need.new.store c.self.invariant.0 c.need.ensures.added;
      all = extended_all (record { site = w.site; functors = w.functors; store = w.store }) (parts c.args.ty.now) c.need.new.store c.self.invariant.0 c.need.ensures.added c.in_default.ensures.held;
    })

pub returns-in-Err-clause-over : goal.returns-in-Err-clause-over
returns-in-Err-clause-over c =
    let w = c.self.inside in
    let v : InStore = record { site = w.site; functors = w.functors; store = w.store } in
    let T = c.args.ty.now in
    let same : cells w.store + new_cells w.site w.functors w.store (parts T) ≡ cells_with (seen v) (parts T) =
    cells_wanted v c.self.invariant.0 (parts T) (subst (λ (v : CountedWorld). (n : ℕ) → In (parts T) (Base n) → n < length v.functors) (sym c.self.view_is) c.requires.named) in
    subst (λ (v : CountedWorld). IsOverExactly {A = Unit {0}} (Err c.in-Err.fault) (v.budget < cells_with v (parts T))) c.self.view_is
    (over_kept ℕ (Unit {0}) c.in-Err.fault _ _ (λ over. omega (arith, over, same)) (c.in-Err.ensures.over w.functors c.self.invariant.0.faithful))

pub returns-clause-over : goal.returns-clause-over
returns-clause-over c =
    let w = c.self.inside in
    let v : InStore = record { site = w.site; functors = w.functors; store = w.store } in
    let T = c.args.ty.now in
    let same : cells w.store + new_cells w.site w.functors w.store (parts T) ≡ cells_with (seen v) (parts T) =
    cells_wanted v c.self.invariant.0 (parts T) (subst (λ (v : CountedWorld). (n : ℕ) → In (parts T) (Base n) → n < length v.functors) (sym c.self.view_is) c.requires.named) in
    subst (λ (v : CountedWorld). v.budget < cells_with v (parts T) → ⊥) c.self.view_is
    (λ over. c.in_default.ensures.over w.functors c.self.invariant.0.faithful (omega (arith, over, same)))
