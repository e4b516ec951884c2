-- Worked examples: limits, images and colimits of sets that have their universal property, and lists that break a part of it.
-- Sets show each property; of graphs the coequalizer stands in WorkedCoequalizers, Kan extensions in files of their own. The others of graphs are left out: a map from or to a graph that is not known
-- is a list of unknown length at the vertices and at the edges, and each such proof is a special case of the lemmas on its construction, no shorter than they are.
use Rattle.std.proofs.Common.{◌≡◌, ℕ, zero, suc, ◌<◌, inl, inr, [], ◌∷◌, get_or, refl, sym, ap, ◌+◌, ◌++◌, ◌∙◌, arith}
use Rattle.topos_model.specs.types.Types.{Presheaf}
use Rattle.topos_model.specs.Laws.{size}
use Rattle.topos_model.specs.presheaves.Maps.{Components, component, apply, IsNatural, after}
use Rattle.topos_model.specs.presheaves.Limits.{IsProduct, IsEqualizer, IsPullback, IsImage}
use Rattle.topos_model.specs.presheaves.Colimits.{LeastPlacesRise, IsInitial, IsCoproduct, IsPushout}
use Rattle.topos_model.proofs.ShortLists.{one_component}
use Rattle.topos_model.proofs.LawTests.{least_place, least_places_rise}
use Rattle.topos_model.proofs.SmallSets.{after_element, after_one, both_entries, both_once, differ, element_after, empty_map, empty_map_only, first_of_two, from_one_injective, into_one_same, map_of, no_map_to_none, no_member}
use Rattle.topos_model.proofs.SmallSets.{none, none_lawful, nowhere_equal, one, one_has_no_pair, one_lawful, one_to_one, only_entry, second_of_two, set_map, two, two_are_too_many, two_lawful, two_to_one}
use Rattle.topos_model.proofs.SmallCategories.{point}

-- a list with a number too many is no map
too_long : IsNatural point one one (map_of (0 ∷ 0 ∷ [])) → ⊥
too_long h = let e : 2 ≡ 1 = h.total 0 (omega arith) in omega (arith, e)

-- two elements over the one pair
product_factors_twice : IsProduct point one one two (map_of (0 ∷ 0 ∷ [])) (map_of (0 ∷ 0 ∷ [])) → ⊥
unfolding after
product_factors_twice h =
    two_are_too_many {P = λ (u : Components). IsNatural point one two u × (after (map_of (0 ∷ 0 ∷ [])) u ≡ map_of (0 ∷ [])) × (after (map_of (0 ∷ 0 ∷ [])) u ≡ map_of (0 ∷ []))}
    (map_of (0 ∷ [])) (map_of (1 ∷ []))
    (first_of_two, refl, refl) (second_of_two, refl, refl)
    (differ (0 ∷ []) (1 ∷ []) (λ e. omega (arith, e)))
    (h.factors one (map_of (0 ∷ [])) (map_of (0 ∷ [])) one_lawful one_to_one one_to_one)

-- the higher of two elements first
product_out_of_order : IsProduct point two one two (map_of (1 ∷ 0 ∷ [])) (map_of (0 ∷ 0 ∷ [])) → ⊥
product_out_of_order h = elim (h.order 0 0 1 (omega arith) (omega arith) (omega arith)) [ inl less ↦ omega (arith, less) | inr same ↦ omega (arith, same.0) ]

one_times_one : IsProduct point one one one (map_of (0 ∷ [])) (map_of (0 ∷ []))
one_times_one = record {
  functor = one_lawful;
  first = one_to_one;
  second = one_to_one;
  factors = λ F m n lawful mn nn.
      (m, (mn, after_one F m mn, after_one F m mn ∙ into_one_same F m n mn nn), λ u p. into_one_same F u m p.0 mn);
  order = λ c a b hc hab hb. absurd (one_has_no_pair c a b hc hab hb);
}

-- a map equals itself at an element that is left out
equalizer_leaves_out : IsEqualizer point one one (map_of (0 ∷ [])) (map_of (0 ∷ [])) none (map_of []) → ⊥
unfolding after
equalizer_leaves_out h = let u = h.factors one (map_of (0 ∷ [])) one_lawful one_to_one refl in no_map_to_none u.0 u.1.0

-- pairs that are left out
pullback_leaves_out : IsPullback point two two one (map_of (0 ∷ 0 ∷ [])) (map_of (0 ∷ 0 ∷ [])) one (map_of (0 ∷ [])) (map_of (0 ∷ [])) → ⊥
unfolding after
pullback_leaves_out h =
    let u = h.factors one (map_of (0 ∷ [])) (map_of (1 ∷ [])) one_lawful first_of_two second_of_two refl in
    differ (0 ∷ []) (1 ∷ []) (λ e. omega (arith, e)) (sym (after_one one u.0 u.1.0 ∙ into_one_same one u.0 (map_of (0 ∷ [])) u.1.0 one_to_one) ∙ u.1.2)

-- the whole codomain of a map that leaves out an element
image_too_large : IsImage point two two (map_of (0 ∷ 0 ∷ [])) two (map_of (0 ∷ 0 ∷ [])) (map_of (0 ∷ 1 ∷ [])) → ⊥
unfolding after
image_too_large h =
    let u = h.factors one (map_of (0 ∷ 0 ∷ [])) (map_of (0 ∷ [])) one_lawful two_to_one first_of_two from_one_injective refl in
    let e : map_of (0 ∷ 0 ∷ []) ≡ map_of (0 ∷ 1 ∷ []) = sym (after_one two u.0 u.1.0 ∙ into_one_same two u.0 (map_of (0 ∷ 0 ∷ [])) u.1.0 two_to_one) ∙ u.1.1 in
    let w : 0 ≡ 1 = ap (λ (m : Components). apply m 0 1) e in omega (arith, w)

none_initial : IsInitial point none
none_initial = record { functor = none_lawful; factors = λ F lawful. (map_of [], empty_map none F refl, λ u n. empty_map_only none F u refl n) }

one_not_initial : IsInitial point one → ⊥
one_not_initial h = let u = h.factors none none_lawful in no_map_to_none u.0 u.1

-- two different elements are equal nowhere
equalizer_of_unequal : IsEqualizer point one two (map_of (0 ∷ [])) (map_of (1 ∷ [])) none (map_of [])
unfolding after
equalizer_of_unequal = record {
  functor = none_lawful;
  inclusion = empty_map none one refl;
  equal = refl;
  factors = λ F l lawful n e.
      let s = nowhere_equal F l n e in
      (map_of [], (empty_map F none s, sym (empty_map_only F one l s n)), λ u p. empty_map_only F none u s p.0);
  order = λ c a b hc hab hb. absurd (no_member none c b refl hc hb);
}

-- the second's elements first
coproduct_out_of_order : IsCoproduct point one one two (map_of (1 ∷ [])) (map_of (0 ∷ [])) → ⊥
coproduct_out_of_order h = let e : 1 ≡ 0 = h.first_order 0 0 (omega arith) (omega arith) in omega (arith, e)

-- two elements made one
coproduct_glued : IsCoproduct point one one one (map_of (0 ∷ [])) (map_of (0 ∷ [])) → ⊥
coproduct_glued h =
    let u = h.factors two (map_of (0 ∷ [])) (map_of (1 ∷ [])) two_lawful first_of_two second_of_two in
    differ (0 ∷ []) (1 ∷ []) (λ e. omega (arith, e)) (sym u.1.1 ∙ u.1.2)

-- and what is glued along nothing
pushout_glued : IsPushout point none one one (map_of []) (map_of []) one (map_of (0 ∷ [])) (map_of (0 ∷ [])) → ⊥
unfolding after
pushout_glued h =
    let u = h.factors two (map_of (0 ∷ [])) (map_of (1 ∷ [])) two_lawful first_of_two second_of_two refl in
    differ (0 ∷ []) (1 ∷ []) (λ e. omega (arith, e)) (sym u.1.1 ∙ u.1.2)

-- the second's elements first
pushout_out_of_order : IsPushout point none one one (map_of []) (map_of []) two (map_of (1 ∷ [])) (map_of (0 ∷ [])) → ⊥
pushout_out_of_order h =
    let r = h.order 0 (omega arith) in
    let w : 1 < 0 = r.rise 0 1 1 0 (omega arith) (omega arith) (least_place (1 ∷ 0 ∷ []) 0 1 refl refl refl) (least_place (1 ∷ 0 ∷ []) 1 0 refl refl refl) in
    omega arith

-- two different elements have no common one
disjoint_pullback : IsPullback point one one two (map_of (0 ∷ [])) (map_of (1 ∷ [])) none (map_of []) (map_of [])
unfolding after
disjoint_pullback = record {
  functor = none_lawful;
  first = empty_map none one refl;
  second = empty_map none one refl;
  equal = refl;
  factors = λ F l r lawful n o e.
      let s = nowhere_equal F l n (e ∙ ap (λ (k : Components). after (map_of (1 ∷ [])) k) (into_one_same F r l o n)) in
      (map_of [], (empty_map F none s, sym (empty_map_only F one l s n), sym (empty_map_only F one r s o)), λ u p. empty_map_only F none u s p.0);
  order = λ c a b hc hab hb. absurd (no_member none c b refl hc hb);
}

constant_value : (F : Presheaf) (d i : Components) → IsNatural point two F d → IsNatural point F two i → after i d ≡ map_of (0 ∷ 0 ∷ []) → apply i 0 (apply d 0 0) ≡ 0
unfolding after
constant_value F d i n o e =
    ap (λ (k : Components). apply k 0 0)
    (ap (λ (k : Components). after k (map_of (apply d 0 0 ∷ apply d 0 1 ∷ []))) (sym (one_component i o.objects)) ∙ ap (λ (k : Components). after i k) (sym (both_entries d F n)) ∙ e)

value_within : (F : Presheaf) (d : Components) → IsNatural point two F d → (x : ℕ) → x < 1 → get_or (apply d 0 0 ∷ []) x 0 < size F 0
value_within F d n zero h = n.within 0 0 (omega arith) (omega arith)
value_within F d n (suc x) h = absurd (omega arith)

-- the domain of a map that is not injective
image_not_injective : IsImage point two two (map_of (0 ∷ 0 ∷ [])) two (map_of (0 ∷ 1 ∷ [])) (map_of (0 ∷ 0 ∷ [])) → ⊥
image_not_injective h = let e : 0 ≡ 1 = h.injective 0 0 1 (omega arith) (omega arith) (omega arith) refl in omega (arith, e)

-- the one value of a constant map is its image
constant_image : IsImage point two two (map_of (0 ∷ 0 ∷ [])) one (map_of (0 ∷ 0 ∷ [])) (map_of (0 ∷ []))
unfolding after
constant_image = record {
  functor = one_lawful;
  onto = two_to_one;
  inclusion = first_of_two;
  equal = refl;
  injective = from_one_injective;
  factors = λ F d i lawful n o injective e.
      let z = constant_value F d i n o e in (
        map_of (apply d 0 0 ∷ []),
        (set_map one F (apply d 0 0 ∷ []) one_lawful lawful refl (value_within F d n), element_after i (apply d 0 0) o.objects ∙ ap (λ (x : ℕ). map_of (x ∷ [])) z),
        λ v p.
            let w : apply i 0 (apply v 0 0) ≡ 0 = after_element i (map_of (0 ∷ [])) (apply v 0 0) o.objects (ap (λ (k : Components). after i k) (sym (only_entry v F p.0)) ∙ p.1) in
            let a : apply v 0 0 < size F 0 = p.0.within 0 0 (omega arith) (omega arith) in
            let b : apply d 0 0 < size F 0 = n.within 0 0 (omega arith) (omega arith) in
            only_entry v F p.0 ∙ ap (λ (x : ℕ). map_of (x ∷ [])) (injective 0 (apply v 0 0) (apply d 0 0) (omega arith) a b (w ∙ sym z)),
      );
  order = λ c a b hc hab hb. absurd (one_has_no_pair c a b hc hab hb);
}

first_place : (c x : ℕ) → c < 1 → x < size one c → apply (map_of (0 ∷ [])) c x ≡ x
first_place zero zero hc hx = refl
first_place zero (suc x) hc hx = absurd (omega arith)
first_place (suc c) x hc hx = absurd (omega arith)

second_place : (c y : ℕ) → c < 1 → y < size one c → apply (map_of (1 ∷ [])) c y ≡ size one c + y
second_place zero zero hc hy = refl
second_place zero (suc y) hc hy = absurd (omega arith)
second_place (suc c) y hc hy = absurd (omega arith)

one_and_one : IsCoproduct point one one two (map_of (0 ∷ [])) (map_of (1 ∷ []))
one_and_one = record {
  functor = two_lawful;
  first = first_of_two;
  second = second_of_two;
  factors = λ F m n lawful a b. both_once F m n lawful a b;
  first_order = first_place;
  second_order = second_place;
}

both_rise : (c : ℕ) → c < 1 → LeastPlacesRise (size two c) (component (map_of (0 ∷ [])) c ++ component (map_of (1 ∷ [])) c)
both_rise zero h = least_places_rise 2 (0 ∷ 1 ∷ []) (0 ∷ 1 ∷ []) refl refl refl refl
both_rise (suc c) h = absurd (omega arith)

-- glued along nothing
one_beside_one : IsPushout point none one one (map_of []) (map_of []) two (map_of (0 ∷ [])) (map_of (1 ∷ []))
unfolding after
one_beside_one = record {
  functor = two_lawful;
  first = first_of_two;
  second = second_of_two;
  equal = refl;
  factors = λ F m n lawful a b e. both_once F m n lawful a b;
  order = both_rise;
}
