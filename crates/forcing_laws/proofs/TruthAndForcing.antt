-- Where a truth value holds the identity, and the closed sieve of the arrows along which a formula is forced.
use Rattle.std.proofs.Common.{◌≡◌, ℕ, Bool, List, filter, refl, sym, ◌∙◌, ap, subst}
use Rattle.topos_model.specs.declared.ty.Ty.{Ty, Omega}
use Rattle.topos_model.specs.declared.context.MapTy.{MapTy}
use Rattle.topos_model.specs.declared.value.Val.{Val, Sv}
use Rattle.finite_lists.specs.Members.{In}
use Rattle.topos_model.specs.categories.Category.{Category, has, into, dom, pull}
use Rattle.topos_model.specs.Laws.{IsInto}
use Rattle.topos_model.specs.topologies.LeastCovers.{least}
use Rattle.topos_model.specs.types.Types.{omega_along}
use Rattle.topos_model.specs.types.Values.{arrows_of}
use Rattle.topos_model.specs.formulas.Forcing.{World, Assigned, Property, along, by_value, by_forcing}
use Rattle.finite_lists.proofs.Lists.{same_tests, In-filter, In-filter_from, filter_same, sublist_kept}
use Rattle.topos_model.proofs.ValueEquations.{arrows_of-Sv}
use Rattle.topos_model.proofs.ArrowsInto.{In-into, In-into_from}
use Rattle.topos_model.proofs.TypeEquations.{restr-Omega}
use Rattle.sieve_table.proofs.SieveMembers.{Distinct-into, In-pull_from}
use Rattle.type_laws.proofs.Arrows.{has_In, In_has, pull_In}
use Rattle.type_laws.proofs.LeastCovers.{closed_sieve_least}
use Rattle.type_laws.proofs.TruthValues.{IsClosedSieve, omega_along_Sv}
use Rattle.type_laws.proofs.Readings.{elements_Omega, Omega_elements}
use Rattle.type_laws.proofs.Made.{sieve_made, sieve_made_along}
use Rattle.topos_model.specs.formulas.TermLaws.{IsWorld}
use Rattle.forcing_laws.proofs.Tuples.{Tuple, least_cover, tuple_along, at_composite, at_identity}
use Rattle.forcing_laws.proofs.Properties.{IsProperty, IsValue, IsTruth, Means}
use Rattle.forcing_laws.proofs.Operators.{least_arrow}

module _ (w : World) {maps : List MapTy} (world : IsWorld w maps) where
  abbrev k : Category
  k = w.site.category

  -- the identity lies in the sieve pulled along f exactly if f lies in the sieve
  pull_unit : (c f : ℕ) (S : List ℕ) → IsInto k c f → has (dom k f) (pull k f S) ≡ has f S
  pull_unit c f S i =
      let e = world.category.right_neutral c f i in
      same_tests _ _
      (λ h. In_has f S (subst (λ g. In S g) e (In-pull_from k f (dom k f) S (has_In _ _ h)).1))
      (λ h. In_has _ _ (pull_In k c f (dom k f) S (world.category.identity (dom k f) (world.category.ends f i.0).0).0 (subst (λ g. In S g) (sym e) (has_In f S h))))

  -- a term that has a value, of type Omega
  module _ (Γ : List Ty) (v : ℕ → Assigned → Val) (h : IsValue w Γ Omega v) where
    abbrev holds : Property
    holds c a = has c (arrows_of (v c a))

    closed : (c : ℕ) (a : Assigned) → Tuple w Γ c a → IsClosedSieve w.site c (arrows_of (v c a)) × (Sv (arrows_of (v c a)) ≡ v c a)
    closed c a t =
        let m = elements_Omega w.site w.functors c (v c a) (h.within c a t) in
        let e : m.0 ≡ arrows_of (v c a) = sym (arrows_of-Sv m.0) ∙ ap arrows_of m.2 in
        (subst (λ S. IsClosedSieve w.site c S) e m.1, ap Sv (sym e) ∙ m.2)

    holds_along : (c f : ℕ) (a : Assigned) → Tuple w Γ c a → IsInto k c f → holds (dom k f) (along w f a) ≡ has f (arrows_of (v c a))
    holds_along c f a t i =
        ap (λ u. has (dom k f) (arrows_of u)) (h.natural c f a t i ∙ restr-Omega w.site w.functors f (v c a))
        ∙ ap (λ u. has (dom k f) (arrows_of u)) (sym (ap (omega_along w.site f) (closed c a t).1) ∙ omega_along_Sv w.site f (arrows_of (v c a)))
        ∙ ap (has (dom k f)) (arrows_of-Sv (pull k f (arrows_of (v c a))))
        ∙ pull_unit c f (arrows_of (v c a)) i

    value_truth : IsTruth w Γ (by_value w v)
    value_truth = record {
      property = record {
        monotone = λ c f a t i e.
            let S = (closed c a t).0 in
            let id = world.category.identity c t.low in
            let m = S.sieve.downward c f (has_In c _ e) (subst (λ d. IsInto k d f) (sym id.1) i) in
            holds_along c f a t i ∙ In_has f _ (subst (λ g. In (arrows_of (v c a)) g) (world.category.left_neutral c f i) m);
        local = λ c a t e.
            let id = world.category.identity c t.low in
            In_has c _ (closed_sieve_least w.site world.category (least w.site) (least_cover w world) c c (arrows_of (v c a)) (closed c a t).0 id.0 (λ g m.
            let m' = subst (λ d. In (least w.site d) g) id.1 m in
            let i = least_arrow w world c g m' in
            subst (λ g. In (arrows_of (v c a)) g) (sym (world.category.left_neutral c g i)) (has_In g _ (sym (holds_along c g a t i) ∙ e g m'))));
      };
      sieve = λ c a t.
          let S = closed c a t in
          sym S.1
          ∙ ap Sv (sym (sublist_kept (λ f. has f (arrows_of (v c a))) (into k c) (arrows_of (v c a)) (Distinct-into k c) S.0.sieve.member (λ f i. has_In f _) (λ f. In_has f _))
          ∙ filter_same _ _ (into k c) (λ f i. sym (holds_along c f a t (In-into_from k c f i))));
    }

  pub value_means : (Γ : List Ty) (U : Ty) (v : ℕ → Assigned → Val) → IsValue w Γ U v → Means w Γ U (by_value w v)
  value_means Γ U v h = record {
    value = h;
    identity = λ c a t. refl;
    truth = λ e. value_truth Γ v (subst (λ T. IsValue w Γ T v) e h);
  }

  -- a formula
  module _ (Γ : List Ty) (φ : Property) (h : IsProperty w Γ φ) where
    abbrev test : ℕ → Assigned → ℕ → Bool
    test c a f = φ (dom k f) (along w f a)

    made : (c : ℕ) (a : Assigned) → Tuple w Γ c a → IsClosedSieve w.site c (filter (test c a) (into k c))
    made c a t =
        sieve_made w.site world.category c (test c a)
        (λ f g i j e. at_composite w world φ Γ c f g a t i j ∙ h.monotone (dom k f) g (along w f a) (tuple_along w world Γ c f a t i) j e)
        (λ f R i r e.
        h.local (dom k f) (along w f a) (tuple_along w world Γ c f a t i) (λ g m.
        sym (at_composite w world φ Γ c f g a t i (least_arrow w world (dom k f) g m)) ∙ e g ((least_cover w world).within (dom k f) g R r m)))

    pub forcing_means : Means w Γ Omega (by_forcing w φ)
    forcing_means = record {
      value = record {
        within = λ c a t. Omega_elements w.site w.functors c _ (made c a t);
        natural = λ c f a t i.
            sym (restr-Omega w.site w.functors f _ ∙ omega_along_Sv w.site f (filter (test c a) (into k c)) ∙ ap Sv (sieve_made_along w.site world.category c f (test c a) i
            ∙ filter_same _ _ (into k (dom k f)) (λ g j. at_composite w world φ Γ c f g a t i (In-into_from k (dom k f) g j))));
      };
      identity = λ c a t.
          let id = (world.category.identity c t.low).0 in
          same_tests _ _
          (λ p. In_has c _ (subst (λ S. In S c) (sym (arrows_of-Sv _)) (In-filter (test c a) (into k c) c (In-into k c c id) (at_identity w world φ Γ c a t ∙ p))))
          (λ p. sym (at_identity w world φ Γ c a t) ∙ (In-filter_from (test c a) (into k c) c (subst (λ S. In S c) (arrows_of-Sv _) (has_In c _ p))).1);
      truth = λ e. record { property = h; sieve = λ c a t. refl };
    }
