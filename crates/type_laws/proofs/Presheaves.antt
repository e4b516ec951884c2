-- Every type is a presheaf of values, with no element twice.
use Rattle.std.proofs.Common.{◌≡◌, ℕ, ◌<◌, inl, inr, List, [], ◌∷◌, length, map, refl, sym, ◌∙◌, ap, subst, arith}
use Rattle.std.specs.List.{range_with_len, All}
use Rattle.std.proofs.lemmas.Bool.{cases_lt}
use Rattle.std.proofs.lemmas.List.{get_or_past}
use Rattle.topos_model.specs.declared.ty.Ty.{Ty, Base, One, Omega, Two', Pow', Fun', more_of-Ty as only, end_of-Ty as end}
use Rattle.topos_model.specs.declared.value.Val.{Val, El, Star, Two}
use Rattle.finite_lists.specs.Members.{In, Distinct}
use Rattle.topos_model.specs.categories.Category.{Category, dom, compose}
use Rattle.topos_model.specs.topologies.Cover.{Site}
use Rattle.topos_model.specs.Laws.{IsCategory, IsFunctor, act, size}
use Rattle.topos_model.specs.types.Types.{Presheaf, base_elements, base_along, two_elements, two_along, functor, elements, restr}
use Rattle.topos_model.specs.types.Values.{second_of}
use Rattle.topos_model.specs.statements.Needs.{parts}
use Rattle.topos_model.proofs.ValueEquations.{number_of-El, first_of-Two, second_of-Two}
use Rattle.type_laws.proofs.Selectors.{El-equal, Two-first, Two-second, Two-same}
use Rattle.finite_lists.proofs.Lists.{In-append_left, In-append_right, In-map, In-map_from, In-flat_map, In-flat_map_from}
use Rattle.finite_lists.proofs.DistinctLists.{Distinct-map, Distinct-flat_map, Distinct-range, In-range, In-range_from}
use Rattle.type_laws.proofs.Places.{IsPresheaf}
use Rattle.type_laws.proofs.TruthValues.{omega_presheaf, Distinct-omega}
use Rattle.type_laws.proofs.Subsets.{pow_presheaf, Distinct-pow}
use Rattle.type_laws.proofs.Functions.{fun_presheaf, Distinct-fun}

-- a functor
pub base_In : (X : Presheaf) (c x : ℕ) → x < size X c → In (base_elements X c) (El x)
unfolding base_elements
base_In X c x h = In-map El _ x (In-range 0 (size X c) x (omega arith) (omega arith))

pub In_base : (X : Presheaf) (c : ℕ) (v : Val) → In (base_elements X c) v → (x : ℕ) × (x < size X c) × (El x ≡ v)
unfolding base_elements
In_base X c v h =
    let m = In-map_from El (range_with_len 0 (size X c)) v h in
    let r = In-range_from 0 (size X c) m.0 m.1 in
    (m.0, omega arith, m.2)

pub base_along_El : (X : Presheaf) (f x : ℕ) → base_along X f (El x) ≡ El (act X f x)
unfolding base_along
base_along_El X f x = ap (λ n. El (act X f n)) (number_of-El x)

pub base_presheaf : (k : Category) (X : Presheaf) → IsFunctor k X → IsPresheaf k (base_elements X) (base_along X)
base_presheaf k X h = record {
  within = λ c f v i m.
      let x = In_base X c v m in
      subst (λ u. In (base_elements X (dom k f)) (base_along X f u)) x.2
      (subst (λ u. In (base_elements X (dom k f)) u) (sym (base_along_El X f x.0)) (base_In X (dom k f) (act X f x.0) (h.within c f x.0 i x.1)));
  identity = λ c v low m.
      let x = In_base X c v m in
      subst (λ u. base_along X c u ≡ u) x.2 (base_along_El X c x.0 ∙ ap El (h.identity c x.0 low x.1));
  composite = λ c f g v i j m.
      let x = In_base X c v m in
      subst (λ u. base_along X g (base_along X f u) ≡ base_along X (compose k f g) u) x.2
      (ap (base_along X g) (base_along_El X f x.0) ∙ base_along_El X g (act X f x.0) ∙ ap El (h.composite c f g x.0 i j x.1) ∙ sym (base_along_El X (compose k f g) x.0));
}

-- a functor with no elements
pub empty_presheaf : (k : Category) (X : Presheaf) → ((c : ℕ) → size X c ≡ 0) → IsPresheaf k (base_elements X) (base_along X)
empty_presheaf k X none = record {
  within = λ c f v i m. absurd (never c v m);
  identity = λ c v low m. absurd (never c v m);
  composite = λ c f g v i j m. absurd (never c v m);
}
  where
    never : (c : ℕ) (v : Val) → In (base_elements X c) v → ⊥
    never c v m = let x = In_base X c v m in omega (arith, none c)

pub Distinct-base : (X : Presheaf) (c : ℕ) → Distinct (base_elements X c)
unfolding base_elements
Distinct-base X c = Distinct-map El _ El-equal (Distinct-range 0 (size X c))

-- pairs
module _ (values values' : ℕ → List Val) (restrict restrict' : ℕ → Val → Val) where
  pub two_In : (c : ℕ) (u v : Val) → In (values c) u → In (values' c) v → In (two_elements values values' c) (Two u v)
  unfolding two_elements
  two_In c u v h j = In-flat_map _ (values c) u _ h (In-map (λ v. Two u v) (values' c) v j)

  pub In_two : (c : ℕ) (w : Val) → In (two_elements values values' c) w → (u v : Val) × In (values c) u × In (values' c) v × (Two u v ≡ w)
  unfolding two_elements
  In_two c w h =
      let m = In-flat_map_from (λ u. map (λ v. Two u v) (values' c)) (values c) w h in
      let n = In-map_from (λ v. Two m.0 v) (values' c) w m.2 in
      (m.0, n.0, m.1, n.1, n.2)

  pub two_along_Two : (f : ℕ) (u v : Val) → two_along restrict restrict' f (Two u v) ≡ Two (restrict f u) (restrict' f v)
  unfolding two_along
  two_along_Two f u v =
      ap (λ x. Two (restrict f x) (restrict' f (second_of (Two u v)))) (first_of-Two u v) ∙ ap (λ y. Two (restrict f u) (restrict' f y)) (second_of-Two u v)

  pub two_presheaf : (k : Category) → IsPresheaf k values restrict → IsPresheaf k values' restrict' → IsPresheaf k (two_elements values values') (two_along restrict restrict')
  two_presheaf k p q = record {
    within = λ c f w i h.
        let m = In_two c w h in
        subst (λ z. In (two_elements values values' (dom k f)) (two_along restrict restrict' f z)) m.4
        (subst (λ z. In (two_elements values values' (dom k f)) z) (sym (two_along_Two f m.0 m.1)) (two_In (dom k f) _ _ (p.within c f m.0 i m.2) (q.within c f m.1 i m.3)));
    identity = λ c w low h.
        let m = In_two c w h in
        subst (λ z. two_along restrict restrict' c z ≡ z) m.4
        (two_along_Two c m.0 m.1 ∙ Two-same _ _ _ _ (p.identity c m.0 low m.2) (q.identity c m.1 low m.3));
    composite = λ c f g w i j h.
        let m = In_two c w h in
        subst (λ z. two_along restrict restrict' g (two_along restrict restrict' f z) ≡ two_along restrict restrict' (compose k f g) z) m.4
        (ap (two_along restrict restrict' g) (two_along_Two f m.0 m.1)
        ∙ two_along_Two g (restrict f m.0) (restrict' f m.1)
        ∙ Two-same _ _ _ _ (p.composite c f g m.0 i j m.2) (q.composite c f g m.1 i j m.3)
        ∙ sym (two_along_Two (compose k f g) m.0 m.1));
  }

  pub Distinct-two : (c : ℕ) → Distinct (values c) → Distinct (values' c) → Distinct (two_elements values values' c)
  unfolding two_elements
  Distinct-two c d e =
      Distinct-flat_map _ (values c) d
      (λ u i. Distinct-map (λ v. Two u v) (values' c) (λ v w. Two-second u v u w) e)
      (λ u x w h j.
      let m = In-map_from (λ v. Two u v) (values' c) w h in
      let n = In-map_from (λ v. Two x v) (values' c) w j in
      Two-first u m.0 x n.0 (m.2 ∙ sym n.2))

pub one_presheaf : (k : Category) → IsPresheaf k (λ c. Star ∷ []) (λ f v. Star)
one_presheaf k = record {
  within = λ c f v i h. inl refl;
  identity = λ c v low h. elim h [ inl e ↦ e | inr n ↦ absurd n ];
  composite = λ c f g v i j h. refl;
}

module _ (s : Site) (functors : List Presheaf) where
  -- no type has an element twice
  pub Distinct-elements : (T : Ty) (c : ℕ) → Distinct (elements s functors T c)
  unfolding elements
  Distinct-elements (Base n) c = Distinct-base (functor s functors n) c
  Distinct-elements One c = (λ h. h, tt)
  Distinct-elements Omega c = Distinct-omega s c
  Distinct-elements (Two' a (only S end) b (only T end)) c =
      Distinct-two (elements s functors S) (elements s functors T) (restr s functors S) (restr s functors T) c (Distinct-elements S c) (Distinct-elements T c)
  Distinct-elements (Pow' a (only T end)) c = Distinct-pow s (elements s functors T) (restr s functors T) c (Distinct-elements T)
  Distinct-elements (Fun' a (only S end) b (only T end)) c =
      Distinct-fun s (elements s functors S) (restr s functors S) (elements s functors T) (restr s functors T) c (Distinct-elements T)

  -- the same for a type by itself, of whose functors it is asked
  pub type_presheaf : IsCategory s.category → (T : Ty) → ((n : ℕ) → In (parts T) (Base n) → IsPresheaf s.category (base_elements (functor s functors n)) (base_along (functor s functors n))) →
      IsPresheaf s.category (elements s functors T) (restr s functors T)
  unfolding elements parts
  type_presheaf laws (Base n) named = named n (inl refl)
  type_presheaf laws One named = one_presheaf s.category
  type_presheaf laws Omega named = omega_presheaf s laws
  type_presheaf laws (Two' a (only S end) b (only T end)) named =
      two_presheaf (elements s functors S) (elements s functors T) (restr s functors S) (restr s functors T) s.category
      (type_presheaf laws S (λ n i. named n (inr (In-append_left (parts S) (parts T) (Base n) i))))
      (type_presheaf laws T (λ n i. named n (inr (In-append_right (parts S) (parts T) (Base n) i))))
  type_presheaf laws (Pow' a (only T end)) named =
      pow_presheaf s (elements s functors T) (restr s functors T) laws (type_presheaf laws T (λ n i. named n (inr i))) (Distinct-elements T)
  type_presheaf laws (Fun' a (only S end) b (only T end)) named =
      fun_presheaf s (elements s functors S) (restr s functors S) (elements s functors T) (restr s functors T) laws (Distinct-elements S)
      (type_presheaf laws S (λ n i. named n (inr (In-append_left (parts S) (parts T) (Base n) i))))

  module _ (laws : IsCategory s.category) (lawful : All (IsFunctor s.category) functors) where
    functor_presheaf : (n : ℕ) → IsPresheaf s.category (base_elements (functor s functors n)) (base_along (functor s functors n))
    functor_presheaf n =
        elim (cases_lt n (length functors)) [
          | inl low ↦ base_presheaf s.category _ (lawful n _ low)
          | inr past ↦ empty_presheaf s.category _ (λ c. ap (λ X. size X c) (get_or_past functors n _ past))
        ]

    -- restriction leads into the elements, along identities it is the identity, and along composites the composite
    pub types_presheaf : (T : Ty) → IsPresheaf s.category (elements s functors T) (restr s functors T)
    types_presheaf T = type_presheaf laws T (λ n i. functor_presheaf n)
