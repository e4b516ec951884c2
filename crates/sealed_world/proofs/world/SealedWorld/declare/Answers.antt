use Rattle.std.proofs.Common.{◌≡◌, ◌<◌, ◌++◌, ◌∷◌, ℕ, [], List, Some, slice_get, get_or, Err, length, sym, ap, subst, ◌∙◌, arith}
use Rattle.std.proofs.lemmas.Option.{get_or_from_slice_get}
use Rattle.std.proofs.lemmas.List.{get_or_push}
use Rattle.finite_lists.specs.Members.{In}
use Rattle.topos_model.specs.declared.ty.Ty.{Base, Omega}
use Rattle.topos_model.specs.types.Types.{Presheaf}
use Rattle.topos_model.specs.statements.Cells.{presheaf_cells}
use Rattle.functor_store.specs.Store.{Store, IsFreeKey}
use Rattle.functor_store.specs.Faithful.{IsFaithful}
use Rattle.sealed_functors.specs.Rows.{IsOverExactly}
use Rattle.type_rows.specs.TypeRows.{IsAdded}
use Rattle.sealed_world.specs.SealedWorlds.{CountedWorld, InStore, IsInStore, seen, types_in, world_cells, with_presheaf}
use Rattle.sealed_world.proofs.CountedCells.{cells_exact, next_cells}
use Rattle.sealed_world.proofs.Growing.{next_world, next_seen, next_is_free, over_kept}
use Rattle.sealed_world.proofs.TruthValues.{values_kept}
use Rattle.sealed_world.proofs.MarkedSheaves.{still_sheaves}
use Rattle.sealed_world.proofs.world.SealedWorld.declare.Goals as goal

last_of : (fs : List Presheaf) (X : Presheaf) (all : List Presheaf) (n : ℕ) (Y : Presheaf) → n ≡ length fs → all ≡ fs ++ X ∷ [] → slice_get all n ≡ Some Y → Y ≡ X
last_of fs X all n Y e is there = sym (get_or_from_slice_get all n Y X there) ∙ ap (λ l. get_or l n X) is ∙ get_or_push fs X X n (sym e)

-- the next presheaf, as the calls gave it
module _ (v : InStore) (h : IsInStore v) (n : ℕ) (X Y : Presheaf) (all : List Presheaf) (new : Store) (is_next : n ≡ length v.functors) (pushed : all ≡ v.functors ++ X ∷ []) (same : Y ≡ X)
    (added : IsAdded (Base n) v.store new) (faithful : (functors : List Presheaf) → length functors ≡ n → IsFaithful v.site functors v.store → IsFaithful v.site (functors ++ Y ∷ []) new) where
  given_world : IsInStore (record { site = v.site; functors = all; store = new })
  given_world =
      subst (λ (l : List Presheaf). IsInStore (record { site = v.site; functors = l; store = new })) (sym pushed)
      (next_world v (Base n) new added X (ap Base is_next) h (subst (λ m. IsFreeKey v.store.sealed (Base m)) (sym is_next) (next_is_free v h))
      (subst (λ Z. IsFaithful v.site (v.functors ++ Z ∷ []) new) same (faithful v.functors (sym is_next) h.faithful)))

  given_seen : seen (record { site = v.site; functors = all; store = new }) ≡ with_presheaf (seen v) X
  given_seen = ap (λ (l : List Presheaf). seen (record { site = v.site; functors = l; store = new })) pushed ∙ next_seen v (Base n) new added X (ap Base is_next)

pub returns-in-Err-clause-over : goal.returns-in-Err-clause-over
returns-in-Err-clause-over c =
    let w = c.self.inside in
    let v : InStore = record { site = w.site; functors = w.functors; store = w.store } in
    let same = cells_exact v c.self.invariant.0 in
    let next = next_cells v c.self.invariant.0 c.args.functor in
    let cost : presheaf_cells w.site.category c.get-declared.result.now ≡ presheaf_cells w.site.category c.args.functor = ap (presheaf_cells w.site.category) (last_of w.functors c.args.functor c.push.new.self c.len-number.result c.get-declared.result.now c.len-number.ensures c.in_ok-push.ensures.ok c.get-declared.ensures) in
    subst (λ (v : CountedWorld). IsOverExactly {A = Unit {0}} (Err c.in-Err.fault) (v.budget < world_cells (with_presheaf v c.args.functor))) c.self.view_is
    (over_kept ℕ (Unit {0}) c.in-Err.fault _ _ (λ over. omega (arith, over, same, cost, next)) c.in-Err.ensures.over)

pub invariant_of-self-in_default : goal.invariant_of-self-in_default
invariant_of-self-in_default c =
    let w = c.self.inside in
    let v : InStore = record { site = w.site; functors = w.functors; store = w.store } in
    let last = last_of w.functors c.args.functor c.push.new.self c.len-number.result c.get-declared.result.now c.len-number.ensures c.in_ok-push.ensures.ok c.get-declared.ensures in
    let given = (given_world v c.self.invariant.0 c.len-number.result c.args.functor c.get-declared.result.now c.push.new.self c.seal_functor.new.store
    c.len-number.ensures c.in_ok-push.ensures.ok last c.in_default.ensures.ok c.in_default.ensures.faithful) in
    let same = given_seen v c.self.invariant.0 c.len-number.result c.args.functor c.get-declared.result.now c.push.new.self c.seal_functor.new.store
    c.len-number.ensures c.in_ok-push.ensures.ok last c.in_default.ensures.ok c.in_default.ensures.faithful in (
      given,
      values_kept w.site (types_in w.store) (types_in c.seal_functor.new.store) w.truth_values (λ i. subst (λ l. In l Omega) (ap (λ (v : CountedWorld). v.types) same) i) c.self.invariant.1,
      still_sheaves w.site w.functors c.args.functor c.push.new.self w.sheaves c.in_ok-push.ensures.ok c.self.invariant.2,
      c.self.invariant.3,
    )

pub returns-clause-ok : goal.returns-clause-ok
returns-clause-ok c =
    let w = c.self.inside in
    subst (λ (v : CountedWorld). seen (record { site = w.site; functors = c.push.new.self; store = c.seal_functor.new.store }) ≡ with_presheaf v c.args.functor) c.self.view_is
    (given_seen (record { site = w.site; functors = w.functors; store = w.store }) c.self.invariant.0 c.len-number.result c.args.functor c.get-declared.result.now c.push.new.self c.seal_functor.new.store
    c.len-number.ensures c.in_ok-push.ensures.ok (last_of w.functors c.args.functor c.push.new.self c.len-number.result c.get-declared.result.now c.len-number.ensures c.in_ok-push.ensures.ok c.get-declared.ensures) c.in_default.ensures.ok c.in_default.ensures.faithful)

pub returns-clause-over : goal.returns-clause-over
returns-clause-over c =
    let w = c.self.inside in
    let v : InStore = record { site = w.site; functors = w.functors; store = w.store } in
    let same = cells_exact v c.self.invariant.0 in
    let next = next_cells v c.self.invariant.0 c.args.functor in
    let cost : presheaf_cells w.site.category c.get-declared.result.now ≡ presheaf_cells w.site.category c.args.functor = ap (presheaf_cells w.site.category) (last_of w.functors c.args.functor c.push.new.self c.len-number.result c.get-declared.result.now c.len-number.ensures c.in_ok-push.ensures.ok c.get-declared.ensures) in
    subst (λ (v : CountedWorld). v.budget < world_cells (with_presheaf v c.args.functor) → ⊥) c.self.view_is
    (λ over. c.in_default.ensures.over (omega (arith, over, same, cost, next)))
