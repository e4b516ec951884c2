-- What the tables of a formula give at a tuple.
use Rattle.std.proofs.Common.{◌≡◌, ℕ, ◌<◌, Bool, List, [], length, get_or, sym, ap, subst, ◌∙◌}
use Rattle.topos_model.specs.declared.ty.Ty.{Ty, Omega}
use Rattle.topos_model.specs.declared.value.Val.{Val}
use Rattle.topos_model.specs.topologies.Cover.{Site}
use Rattle.topos_model.specs.formulas.Forcing.{World, Assigned, Property, tuples}
use Rattle.functor_store.specs.Faithful.{IsFaithful, Stands}
use Rattle.truth_tables.specs.Tables.{IsEntry, bit, number}
use Rattle.truth_tables.proofs.Standing.{counts_long, counts_at, object_in, tuple_in, has_entry}
use Rattle.element_values.specs.declared.elements.Elements.{Elements}
use Rattle.element_values.specs.Known.{IsElement, IsTuple}
use Rattle.formula_answers.specs.Stages.{AreCounted, AreTruths, AreSieves}

module _ (e : Elements) (w : World) (Γ : List Ty) (sizes : List ℕ) where
  -- there are as many objects as numbers of tuples
  pub objects_counted : AreCounted e w Γ sizes → length sizes ≡ w.site.category.objects
  objects_counted h = ap length h.counted ∙ counts_long w Γ

  -- and as many tuples at each
  pub tuples_counted : AreCounted e w Γ sizes → (c : ℕ) → c < length sizes → get_or sizes c 0 ≡ length (tuples w Γ c)
  tuples_counted h c low = ap (λ l. get_or l c 0) h.counted ∙ counts_at w Γ c (object_in w Γ sizes h.counted c low)

  pub store_faithful : AreCounted e w Γ sizes → IsFaithful w.site w.functors e.store.now
  store_faithful h = subst (λ s. IsFaithful s w.functors e.store.now) (sym h.world.site) h.world.faithful

  module _ (c k : ℕ) (low : c < length sizes) (inside : k < get_or sizes c 0) where
    pub tuple_low : AreCounted e w Γ sizes → k < length (tuples w Γ c)
    tuple_low h = tuple_in w Γ sizes h.counted c k low inside

    pub tuple_known : AreCounted e w Γ sizes → IsTuple e w Γ c k
    tuple_known h = record {
      world = h.world;
      readable = h.readable;
      object = subst (λ (s : Site). c < s.category.objects) h.world.site (object_in w Γ sizes h.counted c low);
      within = tuple_low h;
    }

    pub truth_there : (φ : Property) (truths : List (List Bool)) → AreTruths e w Γ sizes φ truths → IsEntry truths c k
    truth_there φ truths h = has_entry w Γ truths c k h.stands.over (object_in w Γ sizes h.tuples.counted c low) (tuple_low h.tuples)

    pub truth_is : (φ : Property) (truths : List (List Bool)) → AreTruths e w Γ sizes φ truths → bit truths c k ≡ φ c (get_or (tuples w Γ c) k [])
    truth_is φ truths h = h.stands.truths c k (object_in w Γ sizes h.tuples.counted c low) (tuple_low h.tuples)

    module _ (v : ℕ → Assigned → Val) (numbers : List (List ℕ)) (h : AreSieves e w Γ sizes v numbers) where
      pub number_there : IsEntry numbers c k
      number_there = has_entry w Γ numbers c k h.stands.over (object_in w Γ sizes h.tuples.counted c low) (tuple_low h.tuples)

      stands : Stands w.site w.functors Omega c (number numbers c k) (v c (get_or (tuples w Γ c) k []))
      stands = h.stands.stands c k (object_in w Γ sizes h.tuples.counted c low) (tuple_low h.tuples)

      pub stands_here : Stands e.site.now w.functors Omega c (number numbers c k) (v c (get_or (tuples w Γ c) k []))
      stands_here = subst (λ s. Stands s w.functors Omega c (number numbers c k) (v c (get_or (tuples w Γ c) k []))) h.tuples.world.site stands

      pub sieve_known : IsElement e w.functors Omega c (number numbers c k)
      sieve_known = record {
        faithful = h.tuples.world.faithful;
        readable = h.omega;
        object = (tuple_known h.tuples).object;
        within = stands_here.within;
      }
