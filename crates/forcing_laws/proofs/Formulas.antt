-- Equations, membership and unique existence are monotone and local.
use Rattle.std.proofs.Common.{◌≡◌, ℕ, Bool, true, List, [], ◌∷◌, get_or, inl, inr, length, filter, refl, sym, ◌∙◌, ap, subst, arith, eqb}
use Rattle.std.proofs.lemmas.Bool.{eqb-true, eq-eqb}
use Rattle.topos_model.specs.declared.ty.Ty.{Ty, Pow}
use Rattle.topos_model.specs.declared.context.MapTy.{MapTy}
use Rattle.topos_model.specs.declared.value.Val.{Val, Star, Sub}
use Rattle.finite_lists.specs.Members.{In, Distinct}
use Rattle.topos_model.specs.topologies.Sheaves.{OfSheaves}
use Rattle.topos_model.specs.categories.Category.{Category, dom, compose}
use Rattle.topos_model.specs.Laws.{IsInto}
use Rattle.topos_model.specs.topologies.LeastCovers.{least}
use Rattle.topos_model.specs.types.Types.{in_entries, pow_along, elements, restr}
use Rattle.topos_model.specs.types.Values.{same, entries_of}
use Rattle.topos_model.specs.formulas.Forcing.{World, Assigned, Property, values, along, unique_forced}
use Rattle.finite_lists.proofs.Lists.{In-filter, In-filter_from}
use Rattle.finite_lists.proofs.DistinctLists.{Distinct-filter}
use Rattle.type_laws.proofs.Same.{same_equal, same_self}
use Rattle.topos_model.proofs.TypeEquations.{restr-Pow}
use Rattle.topos_model.proofs.ValueEquations.{entries_of-Sub}
use Rattle.type_laws.proofs.Places.{entry, entries_In, In_entries, places_In}
use Rattle.type_laws.proofs.Presheaves.{Distinct-elements}
use Rattle.type_laws.proofs.Sheaves.{types_sheaf}
use Rattle.type_laws.proofs.LeastCovers.{IsValueSheaf, closed_subset_least}
use Rattle.type_laws.proofs.Subsets.{IsClosedSubset, narrowed, pow_along_Sub}
use Rattle.type_laws.proofs.Readings.{elements_Pow, read_subset, subset_read}
use Rattle.topos_model.specs.formulas.TermLaws.{IsWorld}
use Rattle.forcing_laws.proofs.Tuples.{Tuple, type_presheaf, least_cover, source_low, tuple_along, tuple_bound, at_composite}
use Rattle.forcing_laws.proofs.Properties.{IsGlued, IsProperty, IsValue}
use Rattle.forcing_laws.proofs.Operators.{least_arrow, always_property}

-- the member that alone passes
abbrev pub the : (Val → Bool) → List Val → Val
the p xs = get_or (filter p xs) 0 Star

single : (ys : List Val) → length ys ≡ 1 → ys ≡ get_or ys 0 Star ∷ []
single [] e = absurd (omega (arith, e))
single (y ∷ []) e = refl
single (y ∷ z ∷ ys) e = absurd (omega (arith, e))

only_member : (x y : Val) → In (x ∷ []) y → x ≡ y
only_member x y (inl e) = e
only_member x y (inr h) = absurd h

one_passes : (p : Val → Bool) (xs : List Val) → eqb (length (filter p xs)) 1 ≡ true →
    In xs (the p xs) × (p (the p xs) ≡ true) × ((y : Val) → In xs y → p y ≡ true → the p xs ≡ y)
one_passes p xs h =
    let e = single (filter p xs) (eqb-true _ _ h) in
    let m = In-filter_from p xs (the p xs) (subst (λ l. In l (the p xs)) (sym e) (inl refl)) in
    (m.0, m.1, λ y i j. only_member (the p xs) y (subst (λ l. In l y) e (In-filter p xs y i j)))

distinct_single : (ys : List Val) (y : Val) → Distinct ys → In ys y → ((z : Val) → In ys z → z ≡ y) → length ys ≡ 1
distinct_single [] y d i h = absurd i
distinct_single (z ∷ []) y d i h = refl
distinct_single (z ∷ x ∷ ys) y d i h = absurd (d.0 (inl (h x (inr (inl refl)) ∙ sym (h z (inl refl)))))

passes_one : (p : Val → Bool) (xs : List Val) (x : Val) → Distinct xs → In xs x → p x ≡ true → ((y : Val) → In xs y → p y ≡ true → y ≡ x) →
    eqb (length (filter p xs)) 1 ≡ true
passes_one p xs x d i e h =
    eq-eqb _ _ (distinct_single (filter p xs) x (Distinct-filter p xs d) (In-filter p xs x i e) (λ z j. let m = In-filter_from p xs z j in h z m.0 m.1))

module _ (w : World) {maps : List MapTy} (world : IsWorld w maps) where
  abbrev k : Category
  k = w.site.category

  abbrev el : Ty → ℕ → List Val
  el T = elements w.site w.functors T

  abbrev rs : Ty → ℕ → Val → Val
  rs T = restr w.site w.functors T

  pub sheaf_type : (T : Ty) → OfSheaves w.site w.functors T → IsValueSheaf w.site.category (least w.site) (elements w.site w.functors T) (restr w.site w.functors T)
  sheaf_type T h = types_sheaf w.site world.category (least w.site) (least_cover w world) w.functors world.functors T h

  -- t = u
  pub eq_property : (Γ : List Ty) (T : Ty) (t u : ℕ → Assigned → Val) → OfSheaves w.site w.functors T → IsValue w Γ T t → IsValue w Γ T u → IsProperty w Γ (λ c a. same (t c a) (u c a))
  eq_property Γ T t u sheaves p q = record {
    monotone = λ c f a h i e.
        let v = p.natural c f a h i ∙ ap (rs T f) (same_equal _ _ e) ∙ sym (q.natural c f a h i) in
        subst (λ x. same (t (dom k f) (along w f a)) x ≡ true) v (same_self _);
    local = λ c a h e.
        let v = (sheaf_type T sheaves).separated c (t c a) (u c a) h.low (p.within c a h) (q.within c a h) (λ f m.
        let i = least_arrow w world c f m in
        sym (p.natural c f a h i) ∙ same_equal _ _ (e f m) ∙ q.natural c f a h i) in
        subst (λ x. same (t c a) x ≡ true) v (same_self _);
  }

  -- t in u
  module _ (Γ : List Ty) (T : Ty) (t u : ℕ → Assigned → Val) (p : IsValue w Γ T t) (q : IsValue w Γ (Pow T) u) where
    abbrev holds : Property
    holds c a = in_entries c (t c a) (entries_of (u c a))

    subset : (c : ℕ) (a : Assigned) → Tuple w Γ c a → IsClosedSubset w.site (el T) (rs T) c (entries_of (u c a)) × (Sub (entries_of (u c a)) ≡ u c a)
    subset c a h =
        let m = elements_Pow w.site w.functors T c (u c a) (q.within c a h) in
        let e : m.0 ≡ entries_of (u c a) = sym (entries_of-Sub m.0) ∙ ap entries_of m.2 in
        (subst (λ l. IsClosedSubset w.site (el T) (rs T) c l) e m.1, ap Sub (sym e) ∙ m.2)

    entries_along : (c f : ℕ) (a : Assigned) → Tuple w Γ c a → IsInto k c f → entries_of (u (dom k f) (along w f a)) ≡ narrowed w.site (el T) (rs T) f (entries_of (u c a))
    entries_along c f a h i =
        ap entries_of (q.natural c f a h i ∙ restr-Pow w.site w.functors T f (u c a) ∙ sym (ap (pow_along w.site (el T) f) (subset c a h).1) ∙ pow_along_Sub w.site (el T) (rs T) f (entries_of (u c a)))
        ∙ entries_of-Sub _

    to_along : (c f : ℕ) (a : Assigned) → Tuple w Γ c a → IsInto k c f → In (entries_of (u c a)) (entry f (rs T f (t c a))) → holds (dom k f) (along w f a) ≡ true
    to_along c f a h i m =
        In_entries (dom k f) (t (dom k f) (along w f a)) _
        (subst (λ l. In l (entry (dom k f) (t (dom k f) (along w f a)))) (sym (entries_along c f a h i))
        (subst (λ v. In (narrowed w.site (el T) (rs T) f (entries_of (u c a))) (entry (dom k f) v)) (sym (p.natural c f a h i))
        (subset_read w.site (el T) (rs T) c f (rs T f (t c a)) (entries_of (u c a)) world.category (source_low w world c f i) i ((type_presheaf w world T).within c f (t c a) i (p.within c a h)) m)))

    from_along : (c f : ℕ) (a : Assigned) → Tuple w Γ c a → IsInto k c f → holds (dom k f) (along w f a) ≡ true → In (entries_of (u c a)) (entry f (rs T f (t c a)))
    from_along c f a h i e =
        read_subset w.site (el T) (rs T) c f (rs T f (t c a)) (entries_of (u c a)) world.category i
        (subst (λ v. In (narrowed w.site (el T) (rs T) f (entries_of (u c a))) (entry (dom k f) v)) (p.natural c f a h i)
        (subst (λ l. In l (entry (dom k f) (t (dom k f) (along w f a)))) (entries_along c f a h i) (entries_In (dom k f) _ _ e)))

    pub member_property : IsProperty w Γ (λ c a. in_entries c (t c a) (entries_of (u c a)))
    member_property = record {
      monotone = λ c f a h i e.
          let id = world.category.identity c h.low in
          to_along c f a h i
          (subst (λ g. In (entries_of (u c a)) (entry g (rs T f (t c a)))) (world.category.left_neutral c f i)
          ((subset c a h).0.downward (entry c (t c a)) f (entries_In c _ _ e) (subst (λ d. IsInto k d f) (sym id.1) i)));
      local = λ c a h e.
          let id = world.category.identity c h.low in
          In_entries c (t c a) (entries_of (u c a))
          (closed_subset_least w.site world.category (least w.site) (least_cover w world) (el T) (rs T) c (entry c (t c a)) (entries_of (u c a)) (subset c a h).0
          (places_In w.site (el T) c (entry c (t c a)) id.0 (subst (λ d. In (el T d) (t c a)) (sym id.1) (p.within c a h)))
          (λ g m.
          let m' = subst (λ d. In (least w.site d) g) id.1 m in
          let i = least_arrow w world c g m' in
          subst (λ f. In (entries_of (u c a)) (entry f (rs T g (t c a)))) (sym (world.category.left_neutral c g i)) (from_along c g a h i (e g m'))));
    }

  -- exactly one value
  module _ (Γ : List Ty) (T : Ty) (φ : Property) (sheaves : OfSheaves w.site w.functors T) (h : IsProperty w (T ∷ Γ) φ) where
    abbrev test : ℕ → Assigned → Val → Bool
    test c a b = φ c ((T, b) ∷ a)

    abbrev once : Property
    once c a = eqb (length (filter (λ b. φ c ((T, b) ∷ a)) (values w T c))) 1

    carried : (c f : ℕ) (a : Assigned) (b : Val) → Tuple w Γ c a → IsInto k c f → In (values w T c) b → test c a b ≡ true → test (dom k f) (along w f a) (rs T f b) ≡ true
    unfolding along
    carried c f a b t i m e = h.monotone c f ((T, b) ∷ a) (tuple_bound w world Γ T c a b t m) i e

    glued : (c : ℕ) (a : Assigned) (b : Val) → Tuple w Γ c a → In (values w T c) b → ((f : ℕ) → In (least w.site c) f → test (dom k f) (along w f a) (rs T f b) ≡ true) → test c a b ≡ true
    unfolding along
    glued c a b t m e = h.local c ((T, b) ∷ a) (tuple_bound w world Γ T c a b t m) e

    -- the one at f
    abbrev at : Assigned → ℕ → Val
    at a f = the (test (dom k f) (along w f a)) (values w T (dom k f))

    once_local : IsGlued w Γ once
    once_local c a t e =
        let sheaf = sheaf_type T sheaves in
        let one : (f : ℕ) → In (least w.site c) f →
        In (values w T (dom k f)) (at a f) × (test (dom k f) (along w f a) (at a f) ≡ true) × ((y : Val) → In (values w T (dom k f)) y → test (dom k f) (along w f a) y ≡ true → at a f ≡ y) =
        λ f m. one_passes (test (dom k f) (along w f a)) (values w T (dom k f)) (e f m) in
        let matching : (f g : ℕ) → In (least w.site c) f → IsInto k (dom k f) g → rs T g (at a f) ≡ at a (compose k f g) =
        λ f g m j.
        let i = least_arrow w world c f m in
        let n = ((least_cover w world).sieve c).downward f g m j in
        let tf = tuple_along w world Γ c f a t i in
        let q = one (compose k f g) n in
        let inside : In (values w T (dom k (compose k f g))) (rs T g (at a f)) =
        subst (λ d. In (values w T d) (rs T g (at a f))) (sym (world.category.composite c f g i j).1) ((type_presheaf w world T).within (dom k f) g (at a f) j (one f m).0) in
        sym (q.2 (rs T g (at a f)) inside
        (at_composite w world (λ d x. φ d ((T, rs T g (at a f)) ∷ x)) Γ c f g a t i j
        ∙ carried (dom k f) g (along w f a) (at a f) tf j (one f m).0 (one f m).1)) in
        let v = sheaf.amalgam c (at a) t.low (λ f m. (one f m).0) matching in
        passes_one (test c a) (values w T c) v.0 (Distinct-elements w.site w.functors T c) v.1
        (glued c a v.0 t v.1 (λ f m. subst (λ b. test (dom k f) (along w f a) b ≡ true) (sym (v.2 f m)) (one f m).1))
        (λ y i e'.
        sheaf.separated c y v.0 t.low i v.1 (λ f m.
        let j = least_arrow w world c f m in
        sym ((one f m).2 (rs T f y) ((type_presheaf w world T).within c f y j i) (carried c f a y t j i e')) ∙ sym (v.2 f m)))

    pub unique_property : IsProperty w Γ (unique_forced w T φ)
    unfolding unique_forced
    unique_property = always_property w world Γ once once_local
