-- What is known of an element is known of its parts.
use Rattle.std.proofs.Common.{◌≡◌, ℕ, ◌<◌, ◌/◌, ◌%◌, inr, List, length, get_or, map, cond, Some, None, MatchOption, refl, sym, ap, subst, ◌∙◌, arith}
use denote.Bor.{Bor}
use Rattle.std.proofs.lemmas.List.{length-map, get_or-map}
use Rattle.std.proofs.lemmas.Nat.{div-add-mod'}
use Rattle.finite_lists.specs.Members.{In}
use Rattle.finite_lists.proofs.Lists.{In-append_left, In-append_right, In_at}
use Rattle.topos_model.specs.declared.ty.Ty.{Ty, Omega, Two, Pow, Fun}
use Rattle.topos_model.specs.declared.value.Val.{Val, Star, Two as Pair, Sub, Fn}
use Rattle.topos_model.specs.declared.value.Entry.{Entry}
use Rattle.topos_model.specs.categories.Category.{Category, dom}
use Rattle.topos_model.specs.topologies.Cover.{Site}
use Rattle.topos_model.specs.Laws.{IsCategory, IsInto}
use Rattle.topos_model.specs.types.Types.{Presheaf, elements, places, in_entries}
use Rattle.topos_model.specs.types.Values.{entries_of}
use Rattle.topos_model.specs.statements.Needs.{parts}
use Rattle.topos_model.proofs.NeedsEquations.{parts-Two, parts-Pow, parts-Fun}
use Rattle.functor_store.specs.Store.{Store, Functor, functor_at, element_at}
use Rattle.functor_store.specs.Faithful.{Holds, Stands, AreNumbers, place_at as store_place}
use Rattle.omega_object.specs.declared.omega.Omega.{Omega as OmegaTables}
use Rattle.omega_object.specs.Tables.{IsOmegaOn}
use Rattle.sieve_table.proofs.SieveMembers.{domain}
use Rattle.sealed_types.specs.Sealed.{sizes_in}
use Rattle.type_laws.proofs.Places.{entry}
use Rattle.type_rows.specs.TypeRows.{value_at}
use Rattle.forcing_laws.proofs.NamedSheaves.{part_itself}
use Rattle.term_tables.specs.Parts.{IsSealed}
use Rattle.term_tables.proofs.SealedSizes.{size_of, elements_of}
use Rattle.term_tables.proofs.ElementRows.{function_row, subset_row}
use Rattle.term_tables.proofs.PairTables.{pair_stands, some, first_stands, second_stands}
use Rattle.element_values.specs.declared.elements.Elements.{Elements}
use Rattle.element_values.specs.declared.places.Place.{Place}
use Rattle.element_values.specs.declared.places.Image.{Image}
use Rattle.element_values.specs.Known.{Knows, IsReadable, IsElement, HasValue, count_of}
use Rattle.element_values.specs.Places.{places_at, marked, imaged, entry_at, assign_at, IsPlace, IsImage}
use Rattle.element_values.proofs.PlaceLists.{no_place, In_places_at, In_marked, In_imaged, places_are}
use Rattle.element_values.proofs.FormValues.{subset_stands, function_stands}

module _ (e : Elements) where
  abbrev s : Site
  s = e.site.now

  abbrev k : Category
  k = e.site.now.category

  abbrev store : Store
  store = e.store.now

  readable_part : (T P : Ty) → ((Q : Ty) → In (parts P) Q → In (parts T) Q) → IsReadable e T → IsReadable e P
  readable_part T P within h = record { held = λ Q i. h.held Q (within Q i); omega = λ i. h.omega (within Omega i) }

  pub readable_of : (T : Ty) → IsReadable e (Pow T) → IsReadable e T
  readable_of T h = readable_part (Pow T) T (λ Q i. subst (λ l. In l Q) (sym (parts-Pow T)) (inr i)) h

  pub readable_left : (S T : Ty) → IsReadable e (Two S T) → IsReadable e S
  readable_left S T h = readable_part (Two S T) S (λ Q i. subst (λ l. In l Q) (sym (parts-Two S T)) (inr (In-append_left (parts S) (parts T) Q i))) h

  pub readable_right : (S T : Ty) → IsReadable e (Two S T) → IsReadable e T
  readable_right S T h = readable_part (Two S T) T (λ Q i. subst (λ l. In l Q) (sym (parts-Two S T)) (inr (In-append_right (parts S) (parts T) Q i))) h

  pub readable_from : (S T : Ty) → IsReadable e (Fun S T) → IsReadable e S
  readable_from S T h = readable_part (Fun S T) S (λ Q i. subst (λ l. In l Q) (sym (parts-Fun S T)) (inr (In-append_left (parts S) (parts T) Q i))) h

  pub readable_to : (S T : Ty) → IsReadable e (Fun S T) → IsReadable e T
  readable_to S T h = readable_part (Fun S T) T (λ Q i. subst (λ l. In l Q) (sym (parts-Fun S T)) (inr (In-append_right (parts S) (parts T) Q i))) h

  -- the truth values of the site
  pub omega_is : (Ω : Bor OmegaTables) → IsReadable e Omega → e.omega ≡ Some Ω → IsOmegaOn e.site.now Ω.now
  omega_is Ω h is = subst (λ o. MatchOption o ⊥ (λ Ω. IsOmegaOn e.site.now Ω.now)) is (h.omega (part_itself Omega))

  pub has_omega : IsReadable e Omega → e.omega ≡ None → ⊥
  has_omega h is = subst (λ o. MatchOption o ⊥ (λ Ω. IsOmegaOn e.site.now Ω.now)) is (h.omega (part_itself Omega))

  pub itself : (T : Ty) → IsReadable e T → Holds store T
  itself T h = h.held T (part_itself T)

  -- the numbers of elements are those of the store
  pub sealed_count : (functors : List Presheaf) (T : Ty) (id c : ℕ) → Knows e functors → IsSealed store T id → c < k.objects → sizes_in store id c ≡ length (elements s functors T c)
  sealed_count functors T id c h is low = size_of s functors store h T id c is low

  -- they do not depend on the functors
  pub element_under : (functors functors' : List Presheaf) (T : Ty) (c n : ℕ) → IsElement e functors T c n → Knows e functors' → IsElement e functors' T c n
  element_under functors functors' T c n h know =
      let there = itself T h.readable in
      let sealed : IsSealed store T there.0 = record { low = there.1; key = there.2 } in
      let low = h.within in
      record {
        faithful = know;
        readable = h.readable;
        object = h.object;
        within = omega (arith, low, sealed_count functors T there.0 c h.faithful sealed h.object, sealed_count functors' T there.0 c know sealed h.object);
      }

  -- an element at the domain of an arrow of the site's category
  pub place_element : (functors : List Presheaf) (T : Ty) (f d n : ℕ) (cat : Category) → cat ≡ e.site.now.category → d ≡ dom cat f → IsElement e functors T (dom e.site.now.category f) n → IsElement e functors T d n
  place_element functors T f d n cat is there h = subst (λ o. IsElement e functors T o n) (sym (there ∙ ap (λ k. dom k f) is)) h

  module _ (laws : IsCategory e.site.now.category) where
    sizes : (functors : List Presheaf) (T : Ty) (id c : ℕ) → Knows e functors → IsSealed store T id → (f : ℕ) → IsInto k c f → sizes_in store id (dom k f) ≡ length (elements s functors T (dom k f))
    sizes functors T id c h is f i = sealed_count functors T id (dom k f) h is (domain k laws i)

    -- a subset by its row
    module _ (T : Ty) (c n whole part : ℕ) (is_whole : IsSealed e.store.now (Pow T) whole) (is_part : IsSealed e.store.now T part) where
      abbrev F : Functor
      F = functor_at store.sealed whole

      abbrev row : List ℕ
      row = element_at (functor_at store.sealed whole) c n

      abbrev ps : List Place
      ps = places_at k (sizes_in store part) c

      marks : (functors : List Presheaf) → IsElement e functors (Pow T) c n → element_at (functor_at store.sealed whole) c n ≡ map (λ e. cond (in_entries e.arrow e.val (entries_of (value_at s functors (Pow T) c n))) 1 0) (places s (elements s functors T) c)
      marks functors h =
          let has = elements_of s functors store h.faithful (Pow T) whole is_whole in
          let low = h.within in
          subset_row s functors T c (value_at s functors (Pow T) c n) row (has.rows c n h.object (omega (arith, low, has.sizes c h.object)))

      pub marks_long : (functors : List Presheaf) → IsElement e functors (Pow T) c n → length (element_at (functor_at store.sealed whole) c n) ≡ length (places_at k (sizes_in store part) c)
      marks_long functors h =
          ap length (marks functors h) ∙ length-map (places s (elements s functors T) c) _
          ∙ ap length (places_are s functors T (sizes_in store part) c (sizes functors T part c h.faithful is_part)) ∙ length-map ps (entry_at s functors T)

      pub subset_places : (functors : List Presheaf) → IsElement e functors (Pow T) c n → (p : Place) → In (marked (places_at k (sizes_in store part) c) (element_at (functor_at store.sealed whole) c n)) p → IsPlace e T p
      subset_places functors h p i =
          let (arrow, low) = In_places_at k (sizes_in store part) c p (In_marked ps row p i) in
          record {
            arrow = arrow.0;
            element = (
              functors,
              record {
                faithful = h.faithful;
                readable = readable_of T h.readable;
                object = domain k laws arrow;
                within = omega (arith, low, sizes functors T part c h.faithful is_part p.arrow arrow);
              },
            );
          }

      pub subset_value : (functors functors' : List Presheaf) → IsElement e functors (Pow T) c n → Knows e functors' → Stands s functors' (Pow T) c n (Sub (map (entry_at s functors' T) (marked (places_at k (sizes_in store part) c) (element_at (functor_at store.sealed whole) c n))))
      subset_value functors functors' h' know =
          let h = element_under functors functors' (Pow T) c n h' know in
          subset_stands s functors' c n T (sizes_in store part) row h.within (sizes functors' T part c know is_part) (marks functors' h)

    -- a function by its row
    module _ (S T : Ty) (c n whole part : ℕ) (is_whole : IsSealed e.store.now (Fun S T) whole) (is_part : IsSealed e.store.now S part) where
      abbrev values_row : List ℕ
      values_row = element_at (functor_at store.sealed whole) c n

      abbrev domain_places : List Place
      domain_places = places_at k (sizes_in store part) c

      numbers : (functors : List Presheaf) → IsElement e functors (Fun S T) c n → AreNumbers s functors S T c (value_at s functors (Fun S T) c n) (element_at (functor_at store.sealed whole) c n)
      numbers functors h =
          let has = elements_of s functors store h.faithful (Fun S T) whole is_whole in
          let low = h.within in
          function_row s functors S T c (value_at s functors (Fun S T) c n) values_row (has.rows c n h.object (omega (arith, low, has.sizes c h.object)))

      spots : (functors : List Presheaf) → IsElement e functors (Fun S T) c n → places s (elements s functors S) c ≡ map (entry_at s functors S) (places_at k (sizes_in store part) c)
      spots functors h = places_are s functors S (sizes_in store part) c (sizes functors S part c h.faithful is_part)

      pub numbers_long : (functors : List Presheaf) → IsElement e functors (Fun S T) c n → length (element_at (functor_at store.sealed whole) c n) ≡ length (places_at k (sizes_in store part) c)
      numbers_long functors h = (numbers functors h).each_place ∙ ap length (spots functors h) ∙ length-map domain_places (entry_at s functors S)

      pub function_images : (functors : List Presheaf) → IsElement e functors (Fun S T) c n → (q : Image) → In (imaged (places_at k (sizes_in store part) c) (element_at (functor_at store.sealed whole) c n)) q → IsImage e S T q
      function_images functors h q m =
          let long = numbers_long functors h in
          let (i, low, is) = In_imaged domain_places values_row q long m in
          let p = get_or domain_places i no_place in
          let (arrow, below) = In_places_at k (sizes_in store part) c p (In_at domain_places i no_place low) in
          let there : store_place s functors S c i ≡ entry_at s functors S p = ap (λ l. get_or l i (entry 0 Star)) (spots functors h) ∙ get_or-map (entry_at s functors S) domain_places i no_place (entry 0 Star) low in
          let value : get_or values_row i 0 < length (elements s functors T (dom k p.arrow)) =
          subst (λ (x : Entry). get_or values_row i 0 < length (elements s functors T (dom k x.arrow))) there ((numbers functors h).values i (omega (arith, low, long))).within in
          subst (IsImage e S T) is (record {
            arrow = arrow.0;
            element = (
              functors,
              record {
                faithful = h.faithful;
                readable = readable_from S T h.readable;
                object = domain k laws arrow;
                within = omega (arith, below, sizes functors S part c h.faithful is_part p.arrow arrow);
              },
            );
            value = (functors, record { faithful = h.faithful; readable = readable_to S T h.readable; object = domain k laws arrow; within = value });
          })

      pub function_value : (functors functors' : List Presheaf) → IsElement e functors (Fun S T) c n → Knows e functors' → Stands s functors' (Fun S T) c n (Fn (map (assign_at s functors' S T) (imaged (places_at k (sizes_in store part) c) (element_at (functor_at store.sealed whole) c n))))
      function_value functors functors' h' know =
          let h = element_under functors functors' (Fun S T) c n h' know in
          function_stands s functors' c n S T (sizes_in store part) values_row h.within (sizes functors' S part c know is_part) (numbers functors' h)

  -- a pair by its number
  module _ (S T : Ty) (c n count : ℕ) where
    stands : (functors : List Presheaf) → IsElement e functors (Two S T) c n → Stands s functors (Two S T) c n (value_at s functors (Two S T) c n)
    stands functors h = record { within = h.within; is = refl }

    pub count_some : (functors : List Presheaf) → IsElement e functors (Two S T) c n → count ≡ length (elements s functors T c) → 0 < count
    count_some functors h is = some s functors S T c n count _ is (stands functors h)

    pub first_half : (functors : List Presheaf) → IsElement e functors (Two S T) c n → count ≡ length (elements s functors T c) → IsElement e functors S c (n / count)
    first_half functors h is = record {
      faithful = h.faithful;
      readable = readable_left S T h.readable;
      object = h.object;
      within = (first_stands s functors S T c n count _ is (stands functors h)).within;
    }

    pub second_half : (functors : List Presheaf) → IsElement e functors (Two S T) c n → count ≡ length (elements s functors T c) → IsElement e functors T c (n % count)
    second_half functors h is = record {
      faithful = h.faithful;
      readable = readable_right S T h.readable;
      object = h.object;
      within = (second_stands s functors S T c n count _ is (stands functors h)).within;
    }

    pub pair_value : ((functors : List Presheaf) → Knows e functors → count ≡ count_of e functors T c) →
        (u v : Val) → HasValue e S c (n / count) u → HasValue e T c (n % count) v → HasValue e (Two S T) c n (Pair u v)
    pair_value is u v first second functors know =
        subst (λ m. Stands s functors (Two S T) c m (Pair u v)) (div-add-mod' n count) (pair_stands s functors S T c (n / count) (n % count) count u v (is functors know) (first functors know) (second functors know))
