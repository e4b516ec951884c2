-- Every type whose functors are sheaves is a sheaf of values.
use Rattle.std.proofs.Common.{◌≡◌, ℕ, ◌<◌, ◌⊎◌, inl, inr, List, [], ◌∷◌, length, map, refl, sym, ◌∙◌, ap, subst, arith, eqb}
use Rattle.std.specs.List.{All}
use Rattle.std.proofs.lemmas.Bool.{cases_lt, cases_Bool, eqb-true, eq-eqb, cond-true, cond-false}
use Rattle.std.proofs.lemmas.List.{get_or_past}
use Rattle.std.proofs.Math.ListN.{length-map}
use Rattle.topos_model.specs.declared.ty.Ty.{Ty, Base, One, Omega, Two', Pow', Fun', more_of-Ty as only, end_of-Ty as end}
use Rattle.topos_model.specs.declared.value.Val.{Val, El, Star, Two}
use Rattle.finite_lists.specs.Members.{In}
use Rattle.topos_model.specs.categories.Category.{Category, dom, compose}
use Rattle.topos_model.specs.topologies.Cover.{Site, covers}
use Rattle.topos_model.specs.Laws.{IsCategory, IsInto, IsFunctor, act, size}
use Rattle.topos_model.specs.topologies.Sheaves.{IsSheaf, element_at}
use Rattle.topos_model.specs.types.Types.{Presheaf, base_elements, base_along, two_elements, two_along, functor, elements, restr}
use Rattle.topos_model.specs.types.Values.{number_of, first_of, second_of}
use Rattle.topos_model.specs.topologies.Sheaves.{OfSheaves}
use Rattle.topos_model.proofs.ValueEquations.{number_of-El, first_of-Two, second_of-Two}
use Rattle.type_laws.proofs.Selectors.{El-equal, Two-first, Two-second, Two-same}
use Rattle.type_laws.proofs.LeastCovers.{IsLeast, IsValueSheaf, arrow}
use Rattle.type_laws.proofs.TruthValuesGlue.{omega_sheaf}
use Rattle.type_laws.proofs.SubsetsGlue.{pow_sheaf}
use Rattle.type_laws.proofs.FunctionsGlue.{fun_sheaf}
use Rattle.type_laws.proofs.Presheaves.{base_In, In_base, base_along_El, two_In, In_two, two_along_Two, Distinct-elements, types_presheaf}

-- the entry of a tabulated family
pub element_at-map : (φ : ℕ → ℕ) (S : List ℕ) (f : ℕ) → In S f → element_at S (map φ S) f ≡ φ f
element_at-map φ [] f h = absurd h
element_at-map φ (g ∷ S) f h =
    elim (cases_Bool (eqb g f)) [
      | inl e ↦ cond-true (eqb g f) (φ g) (element_at S (map φ S) f) e ∙ ap φ (eqb-true g f e)
      | inr e ↦
          cond-false (eqb g f) (φ g) (element_at S (map φ S) f) e
          ∙ element_at-map φ S f (elim h [ inl i ↦ absurd (let j = eq-eqb g f i in cc) | inr i ↦ i ])
    ]

module _ (s : Site) (laws : IsCategory s.category) (M : ℕ → List ℕ) (least : IsLeast s M) where
  abbrev k : Category
  k = s.category

  module _ (X : Presheaf) (sheaf : IsSheaf s X) where
    -- the one amalgamation of a family that is given by a function
    base_amalgam : (c : ℕ) (φ : ℕ → ℕ) → c < k.objects → ((f : ℕ) → In (M c) f → φ f < size X (dom k f)) →
        ((f g : ℕ) → In (M c) f → IsInto k (dom k f) g → act X g (φ f) ≡ φ (compose k f g)) →
        (x : ℕ) × (x < size X c) × ((f : ℕ) → In (M c) f → act X f x ≡ φ f) × ((y : ℕ) → y < size X c → ((f : ℕ) → In (M c) f → act X f y ≡ φ f) → y ≡ x)
    base_amalgam c φ object low agree =
        let covered : In (covers s c) (M c) = least.above c (M c) object (least.sieve c) (λ f m. m) in
        let one = sheaf c (M c) (map φ (M c)) object covered (record {
          count = length-map (M c) φ;
          within = λ f h. rw (element_at-map φ (M c) f h) (low f h);
          agree = λ f g h j. ap (act X g) (element_at-map φ (M c) f h) ∙ agree f g h j ∙ sym (element_at-map φ (M c) (compose k f g) ((least.sieve c).downward f g h j));
        }) in (
          one.0,
          one.1.within,
          λ f i. one.1.restricts f i ∙ element_at-map φ (M c) f i,
          λ y y' e. one.2 y (record { within = y'; restricts = λ f h. e f h ∙ sym (element_at-map φ (M c) f h) }),
        )

    base_glue : (c : ℕ) (t : ℕ → Val) → c < k.objects → ((f : ℕ) → In (M c) f → In (base_elements X (dom k f)) (t f)) →
        ((f g : ℕ) → In (M c) f → IsInto k (dom k f) g → base_along X g (t f) ≡ t (compose k f g)) →
        (v : Val) × In (base_elements X c) v × ((f : ℕ) → In (M c) f → base_along X f v ≡ t f)
    base_glue c t object h matching =
        let known : (f : ℕ) → In (M c) f → (number_of (t f) < size X (dom k f)) × (El (number_of (t f)) ≡ t f) =
        λ f i.
        let m = In_base X (dom k f) (t f) (h f i) in
        let e : m.0 ≡ number_of (t f) = sym (number_of-El m.0) ∙ ap number_of m.2 in
        (subst (λ x. x < size X (dom k f)) e m.1, subst (λ x. El x ≡ t f) e m.2) in
        let x = base_amalgam c (λ f. number_of (t f)) object (λ f i. (known f i).0)
        (λ f g i j. sym (number_of-El _) ∙ ap number_of (sym (base_along_El X g (number_of (t f))) ∙ ap (base_along X g) (known f i).1 ∙ matching f g i j)) in
        (El x.0, base_In X c x.0 x.1, λ f i. base_along_El X f x.0 ∙ ap El (x.2 f i) ∙ (known f i).1)

    base_separated : IsFunctor k X → (c : ℕ) (u v : Val) → c < k.objects → In (base_elements X c) u → In (base_elements X c) v → ((f : ℕ) → In (M c) f → base_along X f u ≡ base_along X f v) → u ≡ v
    base_separated lawful c u v object h j same =
        let m = In_base X c u h in
        let n = In_base X c v j in
        let one = base_amalgam c (λ f. act X f m.0) object
        (λ f i. lawful.within c f m.0 (arrow s laws M least c f i) m.1)
        (λ f g i l. lawful.composite c f g m.0 (arrow s laws M least c f i) l m.1) in
        let e : m.0 ≡ one.0 = one.3 m.0 m.1 (λ f i. refl) in
        let e' : n.0 ≡ one.0 =
        one.3 n.0 n.1 (λ f i.
        El-equal _ _ (sym (base_along_El X f n.0) ∙ ap (base_along X f) n.2 ∙ sym (same f i) ∙ ap (base_along X f) (sym m.2) ∙ base_along_El X f m.0)) in
        sym m.2 ∙ ap El (e ∙ sym e') ∙ n.2

    pub base_sheaf : IsFunctor k X ⊎ ((c : ℕ) → size X c ≡ 0) → IsValueSheaf k M (base_elements X) (base_along X)
    base_sheaf lawful = record {
      separated = λ c u v low h j same.
          elim lawful [
            | inl l ↦ base_separated l c u v low h j same
            | inr none ↦ absurd (let m = In_base X c u h in omega (arith, none c))
          ];
      amalgam = base_glue;
    }

  pub one_sheaf : IsValueSheaf k M (λ c. Star ∷ []) (λ f v. Star)
  one_sheaf = record {
    separated = λ c u v low h j same. sym (star u h) ∙ star v j;
    amalgam = λ c t low h matching. (Star, inl refl, λ f i. star (t f) (h f i));
  }
    where
      star : (v : Val) → In (Star ∷ []) v → Star ≡ v
      star v (inl e) = e
      star v (inr n) = absurd n

  module _ (values values' : ℕ → List Val) (restrict restrict' : ℕ → Val → Val) where
    abbrev along : ℕ → Val → Val
    along = two_along restrict restrict'

    -- the restriction of a pair, by its parts
    two_restricted : (f : ℕ) (u v w z : Val) → Two u v ≡ w → along f w ≡ z → Two (restrict f u) (restrict' f v) ≡ z
    two_restricted f u v w z e h = sym (two_along_Two values values' restrict restrict' f u v) ∙ ap (along f) e ∙ h

    two_parts : (c : ℕ) (w : Val) → In (two_elements values values' c) w → In (values c) (first_of w) × In (values' c) (second_of w) × (Two (first_of w) (second_of w) ≡ w)
    two_parts c w h =
        let m = In_two values values' restrict restrict' c w h in
        let e : m.0 ≡ first_of w = sym (first_of-Two m.0 m.1) ∙ ap first_of m.4 in
        let e' : m.1 ≡ second_of w = sym (second_of-Two m.0 m.1) ∙ ap second_of m.4 in
        (subst (λ u. In (values c) u) e m.2, subst (λ u. In (values' c) u) e' m.3, sym (Two-same _ _ _ _ e e') ∙ m.4)

    two_separated : IsValueSheaf k M values restrict → IsValueSheaf k M values' restrict' → (c : ℕ) (w x : Val) → c < k.objects →
        In (two_elements values values' c) w → In (two_elements values values' c) x → ((f : ℕ) → In (M c) f → along f w ≡ along f x) → w ≡ x
    two_separated p q c w x low h j same =
        let m = two_parts c w h in
        let n = two_parts c x j in
        let both : (f : ℕ) → In (M c) f → Two (restrict f (first_of w)) (restrict' f (second_of w)) ≡ Two (restrict f (first_of x)) (restrict' f (second_of x)) =
        λ f i. two_restricted f (first_of w) (second_of w) w _ m.2 (same f i ∙ sym (two_restricted f (first_of x) (second_of x) x (along f x) n.2 refl)) in
        let e : first_of w ≡ first_of x = p.separated c (first_of w) (first_of x) low m.0 n.0 (λ f i. Two-first _ _ _ _ (both f i)) in
        let e' : second_of w ≡ second_of x = q.separated c (second_of w) (second_of x) low m.1 n.1 (λ f i. Two-second _ _ _ _ (both f i)) in
        sym m.2 ∙ Two-same (first_of w) (second_of w) (first_of x) (second_of x) e e' ∙ n.2

    two_sheaf : IsValueSheaf k M values restrict → IsValueSheaf k M values' restrict' → IsValueSheaf k M (two_elements values values') (two_along restrict restrict')
    two_sheaf p q = record {
      separated = two_separated p q;
      amalgam = λ c t low h matching.
          let known : (f : ℕ) → In (M c) f → In (values (dom k f)) (first_of (t f)) × In (values' (dom k f)) (second_of (t f)) × (Two (first_of (t f)) (second_of (t f)) ≡ t f) =
          λ f i. two_parts (dom k f) (t f) (h f i) in
          let both : (f g : ℕ) → In (M c) f → IsInto k (dom k f) g → Two (restrict g (first_of (t f))) (restrict' g (second_of (t f))) ≡ t (compose k f g) =
          λ f g i j. two_restricted g (first_of (t f)) (second_of (t f)) (t f) (t (compose k f g)) (known f i).2 (matching f g i j) in
          let a = p.amalgam c (λ f. first_of (t f)) low (λ f i. (known f i).0) (λ f g i j. sym (first_of-Two _ _) ∙ ap first_of (both f g i j)) in
          let b = q.amalgam c (λ f. second_of (t f)) low (λ f i. (known f i).1) (λ f g i j. sym (second_of-Two _ _) ∙ ap second_of (both f g i j)) in (
            Two a.0 b.0,
            two_In values values' restrict restrict' c a.0 b.0 a.1 b.1,
            λ f i. two_along_Two values values' restrict restrict' f a.0 b.0 ∙ Two-same _ _ _ _ (a.2 f i) (b.2 f i) ∙ (known f i).2,
          );
    }

  module _ (functors : List Presheaf) (lawful : All (IsFunctor s.category) functors) where
    functor_sheaf : (n : ℕ) → IsSheaf s (functor s functors n) → IsValueSheaf k M (base_elements (functor s functors n)) (base_along (functor s functors n))
    functor_sheaf n sheaf =
        base_sheaf (functor s functors n) sheaf
        (elim (cases_lt n (length functors)) [
          | inl low ↦ inl (lawful n _ low)
          | inr past ↦ inr (λ c. ap (λ X. size X c) (get_or_past functors n _ past))
        ])

    -- each matching family of elements on a least cover has exactly one amalgamation
    pub types_sheaf : (T : Ty) → OfSheaves s functors T → IsValueSheaf k M (elements s functors T) (restr s functors T)
    unfolding elements
    types_sheaf (Base n) h = functor_sheaf n h
    types_sheaf One h = one_sheaf
    types_sheaf Omega h = omega_sheaf s laws M least
    types_sheaf (Two' a (only S end) b (only T end)) h =
        two_sheaf (elements s functors S) (elements s functors T) (restr s functors S) (restr s functors T) (types_sheaf S h.0) (types_sheaf T h.1)
    types_sheaf (Pow' a (only T end)) h =
        pow_sheaf s laws M least (elements s functors T) (restr s functors T) (types_presheaf s functors laws lawful T) (Distinct-elements s functors T)
    types_sheaf (Fun' a (only S end) b (only T end)) h =
        fun_sheaf s laws M least
        (elements s functors S) (restr s functors S) (types_presheaf s functors laws lawful S) (Distinct-elements s functors S)
        (elements s functors T) (restr s functors T) (types_presheaf s functors laws lawful T) (types_sheaf T h.1)
