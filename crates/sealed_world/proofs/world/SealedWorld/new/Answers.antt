use Rattle.std.proofs.Common.{◌≡◌, ℕ, List, [], None, sym, ap, subst, refl, ◌∙◌}
use Rattle.topos_model.specs.categories.Category.{Category}
use Rattle.topos_model.specs.topologies.Cover.{Site}
use Rattle.topos_model.specs.types.Types.{Presheaf}
use Rattle.functor_store.specs.Store.{Store}
use Rattle.sealed_world.specs.SealedWorlds.{CountedWorld, InStore, IsInStore, seen, types_in}
use Rattle.sealed_world.proofs.Growing.{bare_store, bare_in_store, bare_seen}
use Rattle.sealed_world.proofs.TruthValues.{no_values}
use Rattle.sealed_world.proofs.MarkedSheaves.{none_marked}
use Rattle.sealed_world.proofs.world.SealedWorld.new.Goals as goal

-- a store without functors over the ends of the category
bare_is : (s : Site) (functors : List Presheaf) (store : Store) (objects budget : ℕ) (ends : List (ℕ × ℕ)) → functors ≡ [] → store ≡ record { objects = objects; ends = ends; budget = budget; charges = 0; sealed = []; building = None } →
    objects ≡ s.category.objects → ends ≡ s.category.ends → ◌≡◌ {A = InStore} (record { site = s; functors = functors; store = store }) (record { site = s; functors = []; store = bare_store s budget })
bare_is s functors store objects budget ends e f g h = rw (e, f, g, h) refl

pub invariant_of-result : goal.invariant_of-result
invariant_of-result c =
    let s = c.args.site in
    let objects = c.objects.ensures.count ∙ ap (λ (k : Category). k.objects) c.cat-3.ensures in
    let ends = c.in_ok-ends.ensures.ends ∙ ap (λ (k : Category). k.ends) c.cat-2.ensures in
    let is = bare_is s c.new-2.result c.in_ok-store.store c.objects.result c.args.budget c.in_ok-ends.ends c.new-2.ensures c.in_ok-store.ensures.value objects ends in (
      subst IsInStore (sym is) (bare_in_store s c.args.budget),
      no_values s (types_in c.in_ok-store.store) (ap (λ (v : CountedWorld). v.types) (ap seen is ∙ bare_seen s c.args.budget)),
      none_marked s c.new-2.result c.new-3.result c.new-3.ensures,
      c.in_ok-stages.ensures,
    )

pub returns : goal.returns
returns c =
    let s = c.args.site in
    let objects = c.objects.ensures.count ∙ ap (λ (k : Category). k.objects) c.cat-3.ensures in
    let ends = c.in_ok-ends.ensures.ends ∙ ap (λ (k : Category). k.ends) c.cat-2.ensures in
    record { value = ap seen (bare_is s c.new-2.result c.in_ok-store.store c.objects.result c.args.budget c.in_ok-ends.ends c.new-2.ensures c.in_ok-store.ensures.value objects ends) ∙ bare_seen s c.args.budget }
