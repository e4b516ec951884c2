-- The elements of each type rise strictly in the order of the type.
use Rattle.std.proofs.Common.{◌≡◌, ℕ, ◌<◌, ◌⊎◌, inl, inr, List, sym, ◌∙◌, subst, arith}
use Rattle.topos_model.specs.declared.ty.Ty.{Ty, Base, One, Omega, Two', Pow', Fun', more_of-Ty as only, end_of-Ty as end}
use Rattle.topos_model.specs.declared.value.Val.{Val, El, Two, Sv, Sub, Fn}
use Rattle.finite_lists.specs.Rising.{Rising, SublistBelow}
use Rattle.topos_model.specs.types.Order.{AssignmentBelow, Below}
use Rattle.topos_model.specs.categories.Category.{into, dom, sieves}
use Rattle.topos_model.specs.topologies.Cover.{Site}
use Rattle.topos_model.specs.types.Types.{Presheaf, places, base_elements, omega_elements, two_elements, pow_elements, fun_elements, elements}
use Rattle.topos_model.specs.types.Values.{number_of, first_of, second_of, arrows_of, entries_of, assigns_of}
use Rattle.topos_model.proofs.ValueEquations.{number_of-El, first_of-Two, second_of-Two, arrows_of-Sv, entries_of-Sub, assigns_of-Fn}
use Rattle.finite_lists.proofs.Lists.{In-map_from}
use Rattle.sieve_table.proofs.SieveMembers.{Distinct-into}
use Rattle.type_laws.proofs.Places.{Distinct-places}
use Rattle.type_laws.proofs.Presheaves.{Distinct-elements}
use Rattle.finite_lists.proofs.RisingLists.{Rising-filter, Rising-map, Rising-flat_map, Rising-range, Rising-sublists, SublistBelow-irreflexive}
use Rattle.type_laws.proofs.RisingAssignments.{Rising-assignments, AssignmentBelow-irreflexive}

-- an order of parts, at the values that are made of them
read_back : {A : Type 0} (part : Val → A) (made : A → Val) (below : A → A → Type 0) → ((x : A) → part (made x) ≡ x) →
    (x y : A) → below x y → below (part (made x)) (part (made y))
read_back part made below back x y h = subst (λ z. below z (part (made y))) (sym (back x)) (subst (λ z. below x z) (sym (back y)) h)

module _ (s : Site) (functors : List Presheaf) where
  pub Rising-elements : (T : Ty) (c : ℕ) → Rising (Below s functors T c) (elements s functors T c)
  unfolding elements base_elements omega_elements sieves two_elements pow_elements fun_elements
  Rising-elements (Base n) c =
      Rising-map (λ m n. m < n) (λ u v. number_of u < number_of v) El _ (λ x y i j h. read_back number_of El (λ m n. m < n) number_of-El x y h) (Rising-range 0 _)
  Rising-elements One c = (λ y i. i, tt)
  Rising-elements Omega c =
      Rising-map (SublistBelow (into s.category c)) (λ u v. SublistBelow (into s.category c) (arrows_of u) (arrows_of v)) Sv _
      (λ x y i j h. read_back arrows_of Sv (SublistBelow (into s.category c)) arrows_of-Sv x y h)
      (Rising-filter _ _ _ (Rising-filter _ _ _ (Rising-sublists (into s.category c) (Distinct-into s.category c))))
  Rising-elements (Two' a (only S end) b (only T end)) c =
      Rising-flat_map (Below s functors S c) (PairBelow S T c) _ (elements s functors S c) (Rising-elements S c)
      (λ u i.
      Rising-map (Below s functors T c) (PairBelow S T c) (λ v. Two u v) (elements s functors T c)
      (λ v w j k h. inr (first_of-Two u v ∙ sym (first_of-Two u w), read_back second_of (λ v. Two u v) (Below s functors T c) (second_of-Two u) v w h)) (Rising-elements T c))
      (λ u x v w i j h k l.
      let m = In-map_from (λ v. Two u v) (elements s functors T c) v k in
      let n = In-map_from (λ v. Two x v) (elements s functors T c) w l in
      subst (λ v. PairBelow S T c v w) m.2
      (subst (λ w. PairBelow S T c (Two u m.0) w) n.2
      (inl (subst (λ z. Below s functors S c z (first_of (Two x n.0))) (sym (first_of-Two u m.0)) (subst (λ z. Below s functors S c u z) (sym (first_of-Two x n.0)) h)))))
    where
      PairBelow : Ty → Ty → ℕ → Val → Val → Type 0
      PairBelow S T c u v = Below s functors S c (first_of u) (first_of v) ⊎ ((first_of u ≡ first_of v) × Below s functors T c (second_of u) (second_of v))
  Rising-elements (Pow' a (only T end)) c =
      Rising-map (SublistBelow (places s (elements s functors T) c)) (λ u v. SublistBelow (places s (elements s functors T) c) (entries_of u) (entries_of v)) Sub _
      (λ x y i j h. read_back entries_of Sub (SublistBelow (places s (elements s functors T) c)) entries_of-Sub x y h)
      (Rising-filter _ _ _ (Rising-sublists (places s (elements s functors T) c) (Distinct-places s (elements s functors T) c (Distinct-elements s functors T))))
  Rising-elements (Fun' a (only S end) b (only T end)) c =
      Rising-map (AssignmentBelow (λ f. Below s functors T (dom s.category f))) (λ u v. AssignmentBelow (λ f. Below s functors T (dom s.category f)) (assigns_of u) (assigns_of v)) Fn _
      (λ x y i j h. read_back assigns_of Fn (AssignmentBelow (λ f. Below s functors T (dom s.category f))) assigns_of-Fn x y h)
      (Rising-filter _ _ _ (Rising-assignments _ (λ f. Below s functors T (dom s.category f)) (places s (elements s functors S) c) (λ f. Rising-elements T (dom s.category f))))

  -- so the order is strict, and no element stands twice
  pub Below-irreflexive : (T : Ty) (c : ℕ) (u : Val) → Below s functors T c u u → ⊥
  Below-irreflexive (Base n) c u h = omega arith
  Below-irreflexive One c u h = h
  Below-irreflexive Omega c u h = SublistBelow-irreflexive _ _ h
  Below-irreflexive (Two' a (only S end) b (only T end)) c u (inl h) = Below-irreflexive S c (first_of u) h
  Below-irreflexive (Two' a (only S end) b (only T end)) c u (inr h) = Below-irreflexive T c (second_of u) h.1
  Below-irreflexive (Pow' a (only T end)) c u h = SublistBelow-irreflexive _ _ h
  Below-irreflexive (Fun' a (only S end) b (only T end)) c u h =
      AssignmentBelow-irreflexive (λ f. Below s functors T (dom s.category f)) (λ f. Below-irreflexive T (dom s.category f)) _ h
