-- The elements of a sealed type for which a property holds, by their numbers.
use Rattle.std.proofs.Common.{◌≡◌, ℕ, ◌<◌, Bool, true, List, [], length, get_or, map, refl, sym, ap, ap₂, subst, ◌∙◌, arith}
use Rattle.std.specs.List.{range_with_len}
use Rattle.std.proofs.lemmas.List.{length-map}
use Rattle.std.proofs.lemmas.List.FromFn.{length-map-range_with_len, get_or-map-range_with_len}
use Rattle.std.proofs.lemmas.Simd.{map-map}
use Rattle.finite_lists.specs.Members.{In}
use Rattle.finite_lists.proofs.Lists.{map_same, In_at, In-filter, In-filter_from}
use Rattle.finite_lists.proofs.DistinctLists.{In-range_from, Distinct-filter}
use Rattle.topos_model.specs.declared.ty.Ty.{Ty}
use Rattle.topos_model.specs.declared.value.Val.{Val, Star}
use Rattle.topos_model.specs.categories.Category.{Category, dom, cod}
use Rattle.topos_model.specs.topologies.Cover.{Site}
use Rattle.topos_model.specs.Laws.{IsCategory, IsFunctor}
use Rattle.topos_model.specs.types.Types.{Presheaf, elements, restr}
use Rattle.topos_model.specs.statements.Cells.{objects_of}
use Rattle.type_laws.specs.Numbered.{place_of, numbered}
use Rattle.type_laws.proofs.Numbering.{numbered_functor}
use Rattle.type_laws.proofs.Places.{IsPresheaf}
use Rattle.type_laws.proofs.Presheaves.{types_presheaf, Distinct-elements}
use Rattle.functor_store.specs.Store.{Store, functor_at, restriction_along}
use Rattle.functor_store.specs.Faithful.{HasElements, Stands}
use Rattle.truth_tables.specs.Tables.{row}
use Rattle.term_objects.specs.KeptElements.{true_numbers, true_counts, kept_along, moved, AreTruths, AreKept}
use Rattle.term_objects.specs.TermObjects.{TrueElements, IsPart, kept_elements as kept, kept_numbers as numbers}
use Rattle.term_objects.proofs.KeptElements.{kept_values, kept_numbers, kept_place}
use Rattle.term_objects.proofs.NumberedPresheaves.{same_numbered}
use Rattle.term_objects.proofs.SealedPresheaves.{sealed_elements}

counts_long : (truths : List Bool) → length (true_counts truths) ≡ length truths
unfolding true_counts
counts_long truths = length-map-range_with_len _ 0 (length truths)

module _ (store : Store) (id : ℕ) (truths : List (List Bool)) (s : Site) (functors : List Presheaf) (T : Ty) (p : ℕ → Val → Bool) (laws : IsCategory s.category) (h : TrueElements s.category store id truths s functors T p) where
  abbrev els : ℕ → List Val
  els c = elements s functors T c

  abbrev N : ℕ → List ℕ
  N c = numbers s functors T p c

  has : HasElements s functors T (functor_at store.sealed id)
  has = sealed_elements s functors laws store T id h.faithful h.sealed

  truths_long : length truths ≡ s.category.objects
  truths_long = ap length h.truths_are ∙ length-map-range_with_len (λ c. map (p c) (els c)) 0 s.category.objects

  truths_at : (c : ℕ) → c < s.category.objects → get_or truths c [] ≡ map (p c) (els c)
  truths_at c object = ap (λ l. get_or l c []) h.truths_are ∙ get_or-map-range_with_len (λ c. map (p c) (els c)) 0 s.category.objects c c [] object (omega arith)

  numbers_at : (c : ℕ) → c < s.category.objects → true_numbers (get_or truths c []) ≡ N c
  numbers_at c object = ap true_numbers (truths_at c object) ∙ kept_numbers (p c) (els c)

  number_low : (c x : ℕ) → In (N c) x → (x < length (els c)) × (p c (get_or (els c) x Star) ≡ true)
  number_low c x i =
      let m = In-filter_from (λ x. p c (get_or (els c) x Star)) (range_with_len 0 (length (els c))) x i in
      let r = In-range_from 0 (length (els c)) x m.0 in
      (omega (arith, r.1), m.1)

  -- where a kept element goes along an arrow
  stands : (f x : ℕ) → f < length s.category.ends → x < length (els (cod s.category f)) →
      Stands s functors T (dom s.category f) (restriction_along s.category.ends (functor_at store.sealed id) f x) (restr s functors T f (get_or (els (cod s.category f)) x Star))
  stands f x arrow low = has.restrictions f x arrow (omega (arith, low, has.sizes (cod s.category f) (laws.ends f arrow).1))

  moved_is : (f x : ℕ) → moved store id f x ≡ restriction_along s.category.ends (functor_at store.sealed id) f x
  moved_is f x = ap (λ ends. restriction_along ends (functor_at store.sealed id) f x) h.faithful.ends

  pub are_truths : (objects : ℕ) → objects ≡ s.category.objects → AreTruths store id objects truths
  are_truths objects counted = record {
    sealed = h.sealed.low;
    site = counted ∙ sym h.faithful.objects;
    objects_long = truths_long ∙ sym counted;
    elements = λ c low.
        let object : c < s.category.objects = omega (arith, low, counted) in
        ap length (truths_at c object) ∙ length-map (els c) (p c) ∙ sym (has.sizes c object);
  }

  module _ (all_numbers places : List (List ℕ)) (n : all_numbers ≡ row s.category.objects (λ c. true_numbers (get_or truths c []))) (q : places ≡ row s.category.objects (λ c. true_counts (get_or truths c []))) where
    numbers_of : (c : ℕ) → c < s.category.objects → get_or all_numbers c [] ≡ N c
    numbers_of c object = ap (λ l. get_or l c []) n ∙ get_or-map-range_with_len (λ c. true_numbers (get_or truths c [])) 0 s.category.objects c c [] object (omega arith) ∙ numbers_at c object

    places_of : (c : ℕ) → c < s.category.objects → get_or places c [] ≡ true_counts (map (p c) (els c))
    places_of c object =
        ap (λ l. get_or l c []) q ∙ get_or-map-range_with_len (λ c. true_counts (get_or truths c [])) 0 s.category.objects c c [] object (omega arith) ∙ ap true_counts (truths_at c object)

    places_count : (c : ℕ) → c < s.category.objects → length (get_or places c []) ≡ length (els c)
    places_count c object = ap length (places_of c object) ∙ counts_long (map (p c) (els c)) ∙ length-map (els c) (p c)

    member : (f t : ℕ) → f < length s.category.ends → t < length (get_or all_numbers (cod s.category f) []) → In (N (cod s.category f)) (get_or (get_or all_numbers (cod s.category f) []) t 0)
    member f t arrow low =
        let c = cod s.category f in
        subst (λ l. In l (get_or (get_or all_numbers c []) t 0)) (numbers_of c (laws.ends f arrow).1) (In_at (get_or all_numbers c []) t 0 low)

    pub are_kept : AreKept s.category store id all_numbers places
    are_kept = record {
      sealed = h.sealed.low;
      ends = h.faithful.ends;
      numbers_long = ap length n ∙ length-map-range_with_len (λ c. true_numbers (get_or truths c [])) 0 s.category.objects;
      places_long = ap length q ∙ length-map-range_with_len (λ c. true_counts (get_or truths c [])) 0 s.category.objects;
      elements = λ f t arrow low.
          let c = cod s.category f in
          let x = number_low c _ (member f t arrow low) in
          omega (arith, x.0, has.sizes c (laws.ends f arrow).1);
      within = λ f t arrow low.
          let x = get_or (get_or all_numbers (cod s.category f) []) t 0 in
          let inside = number_low (cod s.category f) x (member f t arrow low) in
          let there = (stands f x arrow inside.0).within in
          omega (arith, there, moved_is f x, places_count (dom s.category f) (laws.ends f arrow).0);
    }

    -- the place of the restriction of a kept element
    place_is : (f x : ℕ) → f < length s.category.ends → In (N (cod s.category f)) x →
        get_or (get_or places (dom s.category f) []) (moved store id f x) 0 ≡ place_of (restr s functors T f (get_or (els (cod s.category f)) x Star)) (kept s functors T p (dom s.category f))
    place_is f x arrow i =
        let c = cod s.category f in
        let d = dom s.category f in
        let ends = laws.ends f arrow in
        let inside = number_low c x i in
        let to = stands f x arrow inside.0 in
        let y = restriction_along s.category.ends (functor_at store.sealed id) f x in
        let true_there : p d (get_or (els d) y Star) ≡ true =
        subst (λ v. p d v ≡ true) (sym to.is) (h.monotone c f (get_or (els c) x Star) (arrow, refl) (In_at (els c) x Star inside.0) inside.1) in
        ap₂ (λ (l : List ℕ) (m : ℕ). get_or l m 0) (places_of d ends.0) (moved_is f x)
        ∙ sym (kept_place (p d) (els d) y to.within (Distinct-elements s functors T d) true_there)
        ∙ ap (λ v. place_of v (kept s functors T p d)) to.is

    along_is : (f : ℕ) → f < length s.category.ends → kept_along s.category store id all_numbers places f
        ≡ map (λ v. place_of (restr s functors T f v) (kept s functors T p (dom s.category f))) (kept s functors T p (cod s.category f))
    unfolding kept_along
    along_is f arrow =
        let c = cod s.category f in
        let goes : Val → ℕ = λ v. place_of (restr s functors T f v) (kept s functors T p (dom s.category f)) in
        ap (map (λ x. get_or (get_or places (dom s.category f) []) (moved store id f x) 0)) (numbers_of c (laws.ends f arrow).1)
        ∙ map_same (λ x. get_or (get_or places (dom s.category f) []) (moved store id f x) 0) (λ x. goes (get_or (els c) x Star)) (N c) (λ x i. place_is f x arrow i)
        ∙ sym (map-map goes (λ x. get_or (els c) x Star) (N c))
        ∙ sym (ap (map goes) (kept_values (p c) (els c)))

    kept_presheaf : IsPresheaf s.category (kept s functors T p) (restr s functors T)
    kept_presheaf =
        let whole = types_presheaf s functors laws h.lawful T in
        record {
          within = λ c f v into i.
              let m = In-filter_from (p c) (els c) v i in
              In-filter (p (dom s.category f)) (els (dom s.category f)) (restr s functors T f v) (whole.within c f v into m.0) (h.monotone c f v into m.0 m.1);
          identity = λ c v object i. whole.identity c v object (In-filter_from (p c) (els c) v i).0;
          composite = λ c f g v into into' i. whole.composite c f g v into into' (In-filter_from (p c) (els c) v i).0;
        }

    kept_functor : IsFunctor s.category (numbered s.category (kept s functors T p) (restr s functors T))
    kept_functor =
        numbered_functor s.category (kept s functors T p) (restr s functors T) laws kept_presheaf (λ c. Distinct-filter (p c) (els c) (Distinct-elements s functors T c))

    module _ (sizes : List ℕ) (along : List (List ℕ)) (z : sizes ≡ row s.category.objects (λ c. length (true_numbers (get_or truths c []))))
        (a : along ≡ row (length s.category.ends) (kept_along s.category store id all_numbers places)) where
      made_is : record { sizes = sizes; along = along } ≡ numbered s.category (kept s functors T p) (restr s functors T)
      unfolding numbered
      made_is =
          ap₂ (λ sizes along. record { sizes = sizes; along = along })
          (z ∙ map_same (λ c. length (true_numbers (get_or truths c []))) (λ c. length (kept s functors T p c)) (objects_of s.category)
          (λ c i.
          let r = In-range_from 0 s.category.objects c i in
          ap length (numbers_at c (omega (arith, r.1))) ∙ sym (ap length (kept_values (p c) (els c)) ∙ length-map (N c) (λ x. get_or (els c) x Star))))
          (a ∙ map_same (kept_along s.category store id all_numbers places) (λ f. map (λ v. place_of (restr s functors T f v) (kept s functors T p (dom s.category f))) (kept s functors T p (cod s.category f)))
          (range_with_len 0 (length s.category.ends)) (λ f i. let r = In-range_from 0 (length s.category.ends) f i in along_is f (omega (arith, r.1))))

      pub part_lawful : IsFunctor s.category (record { sizes = sizes; along = along })
      part_lawful = subst (IsFunctor s.category) (sym made_is) kept_functor

      pub part_is : (Z : Presheaf) → Z ≡ record { sizes = sizes; along = along } → IsPart s functors T p (record { functor = Z; inclusion = all_numbers })
      part_is Z e = record {
        functor = e ∙ made_is ∙ same_numbered s.category (kept s functors T p) (restr s functors T);
        lawful = subst (IsFunctor s.category) (sym e) part_lawful;
        inclusion = n ∙ map_same (λ c. true_numbers (get_or truths c [])) N (objects_of s.category) (λ c i. let r = In-range_from 0 s.category.objects c i in numbers_at c (omega (arith, r.1)));
      }

-- the same from the rows as they are made
module _ (k : Category) (store : Store) (id : ℕ) (truths : List (List Bool)) (lawful : IsCategory k) (objects : ℕ) (counted : objects ≡ k.objects)
    (s : Site) (functors : List Presheaf) (T : Ty) (p : ℕ → Val → Bool) (h : TrueElements k store id truths s functors T p) where
  laws : IsCategory s.category
  laws = subst IsCategory h.site lawful

  here : TrueElements s.category store id truths s functors T p
  here = subst (λ k. TrueElements k store id truths s functors T p) h.site h

  object_count : objects ≡ s.category.objects
  object_count = counted ∙ ap (λ (k : Category). k.objects) h.site

  pub truths_made : AreTruths store id objects truths
  truths_made = are_truths store id truths s functors T p laws here objects object_count

  module _ (all_numbers places : List (List ℕ)) (n : all_numbers ≡ row objects (λ c. true_numbers (get_or truths c []))) (q : places ≡ row objects (λ c. true_counts (get_or truths c []))) where
    numbers_here : all_numbers ≡ row s.category.objects (λ c. true_numbers (get_or truths c []))
    numbers_here = n ∙ ap (λ m. row m (λ c. true_numbers (get_or truths c []))) object_count

    places_here : places ≡ row s.category.objects (λ c. true_counts (get_or truths c []))
    places_here = q ∙ ap (λ m. row m (λ c. true_counts (get_or truths c []))) object_count

    pub kept_made : AreKept k store id all_numbers places
    kept_made = subst (λ k. AreKept k store id all_numbers places) (sym h.site) (are_kept store id truths s functors T p laws here all_numbers places numbers_here places_here)

    module _ (sizes : List ℕ) (along : List (List ℕ)) (z : sizes ≡ row objects (λ c. length (true_numbers (get_or truths c [])))) (a : along ≡ row (length k.ends) (kept_along k store id all_numbers places)) where
      sizes_here : sizes ≡ row s.category.objects (λ c. length (true_numbers (get_or truths c [])))
      sizes_here = z ∙ ap (λ m. row m (λ c. length (true_numbers (get_or truths c [])))) object_count

      along_here : along ≡ row (length s.category.ends) (kept_along s.category store id all_numbers places)
      along_here = a ∙ ap (λ (k : Category). row (length k.ends) (kept_along k store id all_numbers places)) h.site

      pub lawful_made : IsFunctor k (record { sizes = sizes; along = along })
      lawful_made = subst (λ k. IsFunctor k (record { sizes = sizes; along = along })) (sym h.site) (part_lawful store id truths s functors T p laws here all_numbers places numbers_here places_here sizes along sizes_here along_here)

      pub part_made : (Z : Presheaf) → Z ≡ record { sizes = sizes; along = along } → IsPart s functors T p (record { functor = Z; inclusion = all_numbers })
      part_made = part_is store id truths s functors T p laws here all_numbers places numbers_here places_here sizes along sizes_here along_here
