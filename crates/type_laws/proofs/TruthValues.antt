-- The closed sieves, as values, are a presheaf.
use Rattle.std.proofs.Common.{◌≡◌, ℕ, List, sym, ◌∙◌, ap, subst}
use Rattle.topos_model.specs.declared.value.Val.{Val, Sv}
use Rattle.finite_lists.specs.Members.{In, Distinct}
use Rattle.topos_model.specs.categories.Category.{Category, into, dom, compose, sieves, pull}
use Rattle.topos_model.specs.topologies.Cover.{Site, covers}
use Rattle.topos_model.specs.Laws.{IsCategory, IsInto}
use Rattle.topos_model.specs.types.Types.{is_closed_sieve, omega_elements, omega_along}
use Rattle.topos_model.specs.types.Values.{same_numbers}
use Rattle.topos_model.proofs.ValueEquations.{arrows_of-Sv}
use Rattle.type_laws.proofs.Selectors.{Sv-equal}
use Rattle.finite_lists.proofs.Lists.{In-filter, In-filter_from, In-map, In-map_from, all_each, each_all, any_some, some_any}
use Rattle.finite_lists.proofs.DistinctLists.{Distinct-filter, Distinct-map, Distinct-sublists}
use Rattle.topos_model.proofs.ArrowsInto.{In-into, In-into_from}
use Rattle.sieve_table.proofs.SieveMembers.{Distinct-into}
use Rattle.type_laws.proofs.Arrows.{IsSieve, has_In, In_has, pull_In, sieves_In, In_sieves, pull_sieve, pull_identity, pull_composite}
use Rattle.type_laws.proofs.Covers.{or_not, or_not_from}
use Rattle.type_laws.proofs.Places.{IsPresheaf}
use Rattle.type_laws.proofs.Same.{numbers_equal, numbers_self}

module _ (s : Site) where
  abbrev k : Category
  k = s.category

  pub record IsClosedSieve (c : ℕ) (S : List ℕ) : Type 0 where
    pub sieve : IsSieve k c S
    pub closed : (f : ℕ) → IsInto k c f → In (covers s (dom k f)) (pull k f S) → In S f

  -- the elements of Omega are exactly the closed sieves
  pub omega_In : (c : ℕ) (S : List ℕ) → IsClosedSieve c S → In (omega_elements s c) (Sv S)
  unfolding omega_elements is_closed_sieve
  omega_In c S h =
      In-map Sv _ S (In-filter _ _ S (sieves_In k c S h.sieve) (each_all _ (into k c) (λ f i.
      or_not_from _ _ (λ t.
      let m = any_some (same_numbers (pull k f S)) (covers s (dom k f)) t in
      In_has f S (h.closed f (In-into_from k c f i) (subst (λ R. In (covers s (dom k f)) R) (sym (numbers_equal _ _ m.2)) m.1))))))

  pub In_omega : (c : ℕ) (v : Val) → In (omega_elements s c) v → (S : List ℕ) × IsClosedSieve c S × (Sv S ≡ v)
  unfolding omega_elements is_closed_sieve
  In_omega c v h =
      let m = In-map_from Sv _ v h in
      let n = In-filter_from (is_closed_sieve s c) (sieves k c) m.0 m.1 in (
        m.0,
        record {
          sieve = In_sieves k c m.0 n.0;
          closed = λ f i r.
              has_In f m.0 (or_not _ _ (all_each _ (into k c) f n.1 (In-into k c f i)) (some_any (same_numbers (pull k f m.0)) (covers s (dom k f)) (pull k f m.0) r (numbers_self (pull k f m.0))));
        },
        m.2,
      )

  pub omega_along_Sv : (f : ℕ) (S : List ℕ) → omega_along s f (Sv S) ≡ Sv (pull k f S)
  unfolding omega_along
  omega_along_Sv f S = ap (λ x. Sv (pull k f x)) (arrows_of-Sv S)

  module _ (laws : IsCategory k) where
    pub omega_within : (c f : ℕ) (S : List ℕ) → IsInto k c f → IsClosedSieve c S → IsClosedSieve (dom k f) (pull k f S)
    omega_within c f S i h = record {
      sieve = pull_sieve k laws c f S i h.sieve;
      closed = λ g j r.
          let q = laws.composite c f g i j in
          pull_In k c f g S j
          (h.closed (compose k f g) q.0
          (subst (λ d. In (covers s d) (pull k (compose k f g) S)) (sym q.1)
          (subst (λ R. In (covers s (dom k g)) R) (pull_composite k laws c f g S i j) r)));
    }

    pub omega_presheaf : IsPresheaf k (omega_elements s) (omega_along s)
    omega_presheaf = record {
      within = λ c f v i h.
          let m = In_omega c v h in
          subst (λ u. In (omega_elements s (dom k f)) (omega_along s f u)) m.2
          (subst (λ u. In (omega_elements s (dom k f)) u) (sym (omega_along_Sv f m.0)) (omega_In (dom k f) _ (omega_within c f m.0 i m.1)));
      identity = λ c v low h.
          let m = In_omega c v h in
          subst (λ u. omega_along s c u ≡ u) m.2 (omega_along_Sv c m.0 ∙ ap Sv (pull_identity k laws c m.0 low m.1.sieve.member));
      composite = λ c f g v i j h.
          let m = In_omega c v h in
          subst (λ u. omega_along s g (omega_along s f u) ≡ omega_along s (compose k f g) u) m.2
          (ap (omega_along s g) (omega_along_Sv f m.0) ∙ omega_along_Sv g _ ∙ ap Sv (pull_composite k laws c f g m.0 i j) ∙ sym (omega_along_Sv (compose k f g) m.0));
    }

  pub Distinct-omega : (c : ℕ) → Distinct (omega_elements s c)
  unfolding omega_elements sieves
  Distinct-omega c =
      Distinct-map Sv _ Sv-equal
      (Distinct-filter _ _ (Distinct-filter _ _ (Distinct-sublists _ (Distinct-into k c))))
