-- A presheaf of values by numbers is a functor, and a sheaf of values by numbers is a sheaf.
use Rattle.std.proofs.Common.{◌≡◌, ℕ, zero, suc, ◌<◌, true, ◌⊎◌, inl, inr, List, [], ◌∷◌, length, get_or, map, refl, sym, ◌∙◌, ap, subst, arith}
use Rattle.std.proofs.lemmas.Bool.{cases_Bool, cond-true, cond-false}
use Rattle.std.proofs.lemmas.List.{length-map}
use Rattle.std.proofs.lemmas.List.FromFn.{length-map-range_with_len, get_or-map-range_with_len}
use Rattle.topos_model.specs.declared.value.Val.{Val, Star}
use Rattle.finite_lists.specs.Members.{In, Distinct}
use Rattle.topos_model.specs.categories.Category.{Category, cod, dom, compose}
use Rattle.topos_model.specs.topologies.Cover.{Site, covers}
use Rattle.topos_model.specs.Laws.{IsCategory, IsInto, IsFunctor, act, size}
use Rattle.topos_model.specs.topologies.Sheaves.{IsSheaf, element_at}
use Rattle.topos_model.specs.types.Types.{Presheaf}
use Rattle.topos_model.specs.types.Values.{same}
use Rattle.type_laws.specs.Numbered.{place_of, numbered}
use Rattle.type_laws.proofs.Same.{same_equal, same_self}
use Rattle.type_laws.proofs.Places.{IsPresheaf}
use Rattle.type_laws.proofs.Covers.{cover_arrow}
use Rattle.type_laws.proofs.LeastCovers.{IsLeast, IsValueSheaf, arrow, source}

place_here : (u v : Val) (rest : List Val) → u ≡ v → place_of v (u ∷ rest) ≡ 0
unfolding place_of
place_here u v rest e = cond-true (same u v) 0 (suc (place_of v rest)) (subst (λ x. same u x ≡ true) e (same_self u))

place_later : (u v : Val) (rest : List Val) → (u ≡ v → ⊥) → place_of v (u ∷ rest) ≡ suc (place_of v rest)
unfolding place_of
place_later u v rest n =
    elim (cases_Bool (same u v)) [
      | inl e ↦ absurd (n (same_equal u v e))
      | inr e ↦ cond-false (same u v) 0 (suc (place_of v rest)) e
    ]

same_or_not : (u v : Val) → (u ≡ v) ⊎ (u ≡ v → ⊥)
same_or_not u v =
    elim (cases_Bool (same u v)) [
      | inl e ↦ inl (same_equal u v e)
      | inr e ↦ inr (λ h. let passes : same u v ≡ true = subst (λ x. same u x ≡ true) h (same_self u) in cc)
    ]

-- the value at the place of a member
pub at_place_of : (xs : List Val) (v d : Val) → In xs v → (place_of v xs < length xs) × (get_or xs (place_of v xs) d ≡ v)
at_place_of [] v d h = absurd h
at_place_of (u ∷ xs) v d h =
    elim (same_or_not u v) [
      | inl e ↦ subst (λ n. (n < length (u ∷ xs)) × (get_or (u ∷ xs) n d ≡ v)) (sym (place_here u v xs e)) (omega arith, e)
      | inr n ↦
          let r = at_place_of xs v d (elim h [ inl e ↦ absurd (n e) | inr i ↦ i ]) in
          subst (λ n. (n < length (u ∷ xs)) × (get_or (u ∷ xs) n d ≡ v)) (sym (place_later u v xs n)) (omega (arith, r.0), r.1)
    ]

pub get_In : (xs : List Val) (n : ℕ) (d : Val) → n < length xs → In xs (get_or xs n d)
get_In [] n d low = absurd (omega arith)
get_In (u ∷ xs) zero d low = inl refl
get_In (u ∷ xs) (suc n) d low = inr (get_In xs n d (omega arith))

-- the place of the value at a place
pub place_of_at : (xs : List Val) (n : ℕ) (d : Val) → Distinct xs → n < length xs → place_of (get_or xs n d) xs ≡ n
place_of_at [] n d h low = absurd (omega arith)
place_of_at (u ∷ xs) zero d h low = place_here u u xs refl
place_of_at (u ∷ xs) (suc n) d h low =
    place_later u (get_or xs n d) xs (λ e. h.0 (subst (λ v. In xs v) (sym e) (get_In xs n d (omega arith)))) ∙ ap suc (place_of_at xs n d h.1 (omega arith))

module _ (k : Category) (values : ℕ → List Val) (restrict : ℕ → Val → Val) where
  abbrev X : Presheaf
  X = numbered k values restrict

  pub size_numbered : (c : ℕ) → c < k.objects → size (numbered k values restrict) c ≡ length (values c)
  unfolding numbered
  size_numbered c low = get_or-map-range_with_len (λ c. length (values c)) 0 k.objects c c 0 low (omega arith)

  table : (f : ℕ) → f < length k.ends → get_or (numbered k values restrict).along f [] ≡ map (λ v. place_of (restrict f v) (values (dom k f))) (values (cod k f))
  unfolding numbered
  table f low = get_or-map-range_with_len (λ f. map (λ v. place_of (restrict f v) (values (dom k f))) (values (cod k f))) 0 (length k.ends) f f [] low (omega arith)

  pub act_numbered : (c f x : ℕ) (d : Val) → IsInto k c f → x < length (values c) → act (numbered k values restrict) f x ≡ place_of (restrict f (get_or (values c) x d)) (values (dom k f))
  act_numbered c f x d i low =
      ap (λ row. get_or row x 0) (table f i.0 ∙ ap (λ c. map (λ v. place_of (restrict f v) (values (dom k f))) (values c)) i.1)
      ∙ entry (values c) x low
    where
      entry : (xs : List Val) (x : ℕ) → x < length xs → get_or (map (λ v. place_of (restrict f v) (values (dom k f))) xs) x 0 ≡ place_of (restrict f (get_or xs x d)) (values (dom k f))
      entry [] x low = absurd (omega arith)
      entry (u ∷ xs) zero low = refl
      entry (u ∷ xs) (suc x) low = entry xs x (omega arith)

  module _ (laws : IsCategory k) (presheaf : IsPresheaf k values restrict) (distinct : (c : ℕ) → Distinct (values c)) where
    object : (c f : ℕ) → IsInto k c f → c < k.objects
    object c f i = subst (λ d. d < k.objects) i.1 (laws.ends f i.0).1

    below : (c x : ℕ) → c < k.objects → x < size X c → x < length (values c)
    below c x low h = subst (λ n. x < n) (size_numbered c low) h

    -- the restriction of the x-th element is the element of the restricted number
    pub value_act : (c f x : ℕ) (d : Val) → IsInto k c f → x < length (values c) → get_or (values (dom k f)) (act X f x) d ≡ restrict f (get_or (values c) x d)
    value_act c f x d i low =
        ap (λ n. get_or (values (dom k f)) n d) (act_numbered c f x d i low)
        ∙ (at_place_of (values (dom k f)) _ d (presheaf.within c f (get_or (values c) x d) i (get_In (values c) x d low))).1

    numbered_within : (c f x : ℕ) → IsInto k c f → x < size X c → act X f x < size X (dom k f)
    numbered_within c f x i h =
        let low = below c x (object c f i) h in
        subst (λ n. n < size X (dom k f)) (sym (act_numbered c f x Star i low))
        (subst (λ n. place_of (restrict f (get_or (values c) x Star)) (values (dom k f)) < n) (sym (size_numbered (dom k f) (laws.ends f i.0).0))
        (at_place_of (values (dom k f)) _ Star (presheaf.within c f (get_or (values c) x Star) i (get_In (values c) x Star low))).0)

    pub numbered_functor : IsFunctor k (numbered k values restrict)
    unfolding numbered
    numbered_functor = record {
      objects = length-map-range_with_len (λ c. length (values c)) 0 k.objects;
      arrows = length-map-range_with_len (λ f. map (λ v. place_of (restrict f v) (values (dom k f))) (values (cod k f))) 0 (length k.ends);
      total = λ c f i.
          ap length (table f i.0) ∙ length-map (values (cod k f)) _ ∙ ap (λ c. length (values c)) i.1 ∙ sym (size_numbered c (object c f i));
      within = numbered_within;
      identity = λ c x low h.
          let id = laws.identity c low in
          let x' = below c x low h in
          act_numbered c c x Star id.0 x'
          ∙ ap (λ d. place_of (restrict c (get_or (values c) x Star)) (values d)) id.1
          ∙ ap (λ v. place_of v (values c)) (presheaf.identity c _ low (get_In (values c) x Star x'))
          ∙ place_of_at (values c) x Star (distinct c) x';
      composite = λ c f g x i j h.
          let x' = below c x (object c f i) h in
          let q = laws.composite c f g i j in
          act_numbered (dom k f) g (act X f x) Star j (below (dom k f) (act X f x) (laws.ends f i.0).0 (numbered_within c f x i h))
          ∙ ap (λ v. place_of (restrict g v) (values (dom k g))) (value_act c f x Star i x')
          ∙ ap (λ v. place_of v (values (dom k g))) (presheaf.composite c f g _ i j (get_In (values c) x Star x'))
          ∙ ap (λ d. place_of (restrict (compose k f g) (get_or (values c) x Star)) (values d)) (sym q.1)
          ∙ sym (act_numbered c (compose k f g) x Star q.0 x');
    }

module _ (s : Site) (laws : IsCategory s.category) (M : ℕ → List ℕ) (least : IsLeast s M)
    (values : ℕ → List Val) (restrict : ℕ → Val → Val) (presheaf : IsPresheaf s.category values restrict) (distinct : (c : ℕ) → Distinct (values c)) (sheaf : IsValueSheaf s.category M values restrict) where
  abbrev k' : Category
  k' = s.category

  -- values that agree on a cover are equal
  pub separated_cover : (c : ℕ) (S : List ℕ) (u v : Val) → c < k'.objects → In (covers s c) S → In (values c) u → In (values c) v → ((f : ℕ) → In S f → restrict f u ≡ restrict f v) → u ≡ v
  separated_cover c S u v low r h j same = sheaf.separated c u v low h j (λ f m. same f (least.within c f S r m))

  -- a matching family on a cover has an amalgamation
  pub glue_cover : (c : ℕ) (S : List ℕ) (t : ℕ → Val) → c < k'.objects → In (covers s c) S → ((f : ℕ) → In S f → In (values (dom k' f)) (t f)) →
      ((f g : ℕ) → In S f → IsInto k' (dom k' f) g → restrict g (t f) ≡ t (compose k' f g)) →
      (v : Val) × In (values c) v × ((f : ℕ) → In S f → restrict f v ≡ t f)
  glue_cover c S t low r h matching =
      let v = sheaf.amalgam c t low (λ f m. h f (least.within c f S r m)) (λ f g m. matching f g (least.within c f S r m)) in (
        v.0,
        v.1,
        λ f m.
            let i = cover_arrow s c f S r m in
            sheaf.separated (dom k' f) (restrict f v.0) (t f) (source s laws M least c f i) (presheaf.within c f v.0 i v.1) (h f m) (λ g n.
            let j = arrow s laws M least (dom k' f) g n in
            presheaf.composite c f g v.0 i j v.1 ∙ v.2 (compose k' f g) (least.sink c f g i n) ∙ sym (matching f g m j)),
      )

  abbrev Y : Presheaf
  Y = numbered k' values restrict

  pub numbered_sheaf : IsSheaf s (numbered s.category values restrict)
  numbered_sheaf c S family low r matching =
      let r' = r in
      let φ : ℕ → ℕ = element_at S family in
      let t : ℕ → Val = λ f. get_or (values (dom k' f)) (φ f) Star in
      let inside : (f : ℕ) → In S f → φ f < length (values (dom k' f)) =
      λ f m.
      let i = cover_arrow s c f S r' m in
      subst (λ n. φ f < n) (size_numbered k' values restrict (dom k' f) (source s laws M least c f i)) (matching.within f m) in
      let member : (f : ℕ) → In S f → In (values (dom k' f)) (t f) = λ f m. get_In (values (dom k' f)) (φ f) Star (inside f m) in
      let agree : (f g : ℕ) → In S f → IsInto k' (dom k' f) g → restrict g (t f) ≡ t (compose k' f g) =
      λ f g m j.
      let i = cover_arrow s c f S r' m in
      sym (value_act k' values restrict laws presheaf distinct (dom k' f) g (φ f) Star j (inside f m))
      ∙ ap (λ n. get_or (values (dom k' g)) n Star) (matching.agree f g m j)
      ∙ ap (λ d. get_or (values d) (φ (compose k' f g)) Star) (sym (laws.composite c f g i j).1) in
      let v : (v : Val) × In (values c) v × ((f : ℕ) → In S f → restrict f v ≡ t f) = glue_cover c S t low r' member agree in
      let place = at_place_of (values c) v.0 Star v.1 in (
        place_of v.0 (values c),
        record {
          within = subst (λ n. place_of v.0 (values c) < n) (sym (size_numbered k' values restrict c low)) place.0;
          restricts = λ f m'.
              act_numbered k' values restrict c f (place_of v.0 (values c)) Star (cover_arrow s c f S r' m') place.0
              ∙ ap (λ u. place_of (restrict f u) (values (dom k' f))) place.1
              ∙ ap (λ u. place_of u (values (dom k' f))) (v.2 f m')
              ∙ place_of_at (values (dom k' f)) (φ f) Star (distinct (dom k' f)) (inside f m');
        },
        λ y h.
            let y' : y < length (values c) = subst (λ n. y < n) (size_numbered k' values restrict c low) h.within in
            let same : get_or (values c) y Star ≡ v.0 =
            separated_cover c S _ v.0 low r' (get_In (values c) y Star y') v.1 (λ f m.
            sym (value_act k' values restrict laws presheaf distinct c f y Star (cover_arrow s c f S r' m) y')
            ∙ ap (λ n. get_or (values (dom k' f)) n Star) (h.restricts f m)
            ∙ sym (v.2 f m)) in
            sym (place_of_at (values c) y Star (distinct c) y') ∙ ap (λ u. place_of u (values c)) same,
      )
