-- The row of a sealed subset and of a sealed function, at the places of the identity.
use Rattle.std.proofs.Common.{◌≡◌, ℕ, ◌<◌, Bool, true, false, cond, eqb, List, length, get_or, map, refl, ap, subst, ◌∙◌, arith}
use denote.Hole.Carrier
use Rattle.std.proofs.lemmas.List.{length-map}
use Rattle.topos_model.specs.declared.ty.Ty.{Ty, Pow, Fun}
use Rattle.topos_model.specs.declared.ty.Ty.TheBlock.{hidden-the_row-Ty-0}
use Rattle.topos_model.specs.declared.value.Val.{Val, Star}
use Rattle.topos_model.specs.declared.value.Entry.{Entry}
use Rattle.topos_model.specs.categories.Category.{dom}
use Rattle.topos_model.specs.topologies.Cover.{Site}
use Rattle.topos_model.specs.Laws.{IsCategory}
use Rattle.topos_model.specs.types.Types.{Presheaf, elements, places, in_entries, at_place}
use Rattle.topos_model.specs.types.Values.{entries_of, assigns_of}
use Rattle.functor_store.specs.Store.{Functor, size_at, element_at}
use Rattle.functor_store.specs.Faithful.{Stands, AreNumbers, IsRow, HasElements, place_at}
use Rattle.omega_object.proofs.Precedence.{mapped_at}
use Rattle.type_laws.proofs.Places.{entry}
use Rattle.term_tables.proofs.FirstPlaces.{few_first, place_first}

module _ (s : Site) (functors : List Presheaf) where
  pub function_row : (S T : Ty) (c : ℕ) (v : Val) (row : List ℕ) → IsRow s functors (Fun S T) c v row → AreNumbers s functors S T c v row
  unfolding hidden-the_row-Ty-0 Carrier.hidden
  function_row S T c v row h = h

  pub subset_row : (T : Ty) (c : ℕ) (v : Val) (row : List ℕ) → IsRow s functors (Pow T) c v row → row ≡ map (λ e. cond (in_entries e.arrow e.val (entries_of v)) 1 0) (places s (elements s functors T) c)
  unfolding hidden-the_row-Ty-0 Carrier.hidden
  subset_row T c v row h = h

  module _ (laws : IsCategory s.category) (c : ℕ) (low : c < s.category.objects) where
    row_of : (T : Ty) (F : Functor) → HasElements s functors T F → (n : ℕ) (v : Val) → Stands s functors T c n v → IsRow s functors T c v (element_at F c n)
    row_of T F h n v p = subst (λ x. IsRow s functors T c x (element_at F c n)) p.is (h.rows c n low (let e = h.sizes c low in let w = p.within in omega (arith, e, w)))

    pub in_size : (T : Ty) (F : Functor) → HasElements s functors T F → (n : ℕ) (v : Val) → Stands s functors T c n v → n < size_at F c
    in_size T F h n v p = let e = h.sizes c low in let w = p.within in omega (arith, e, w)

    module _ (S T : Ty) (F : Functor) (h : HasElements s functors (Fun S T) F) (n j : ℕ) (v u : Val) (p : Stands s functors (Fun S T) c n v) (q : Stands s functors S c j u) where
      numbers : AreNumbers s functors S T c v (element_at F c n)
      numbers = function_row S T c v (element_at F c n) (row_of (Fun S T) F h n v p)

      pub function_place : j < length (element_at F c n)
      function_place = let w = q.within in omega (arith, w, few_first s (elements s functors S) c laws low, numbers.each_place)

      -- a function at a value
      pub function_entry : Stands s functors T c (get_or (element_at F c n) j 0) (at_place c u (assigns_of v))
      function_entry =
          let d = entry 0 Star in
          let o = (laws.identity c low).1 in
          let e : place_at s functors S c j ≡ entry c u = place_first s (elements s functors S) c laws low j d q.within ∙ ap (entry c) q.is in
          subst (λ x. Stands s functors T x (get_or (element_at F c n) j 0) (at_place c u (assigns_of v))) o
          (subst (λ (x : Entry). Stands s functors T (dom s.category x.arrow) (get_or (element_at F c n) j 0) (at_place x.arrow x.val (assigns_of v))) e (numbers.values j function_place))

    module _ (T : Ty) (F : Functor) (h : HasElements s functors (Pow T) F) (n j : ℕ) (v u : Val) (p : Stands s functors (Pow T) c n v) (q : Stands s functors T c j u) where
      abbrev bit_of : Entry → ℕ
      bit_of e = cond (in_entries e.arrow e.val (entries_of v)) 1 0

      bits : element_at F c n ≡ map (λ e. cond (in_entries e.arrow e.val (entries_of v)) 1 0) (places s (elements s functors T) c)
      bits = subset_row T c v (element_at F c n) (row_of (Pow T) F h n v p)

      inside : j < length (places s (elements s functors T) c)
      inside = let w = q.within in omega (arith, w, few_first s (elements s functors T) c laws low)

      pub subset_place : j < length (element_at F c n)
      subset_place = omega (arith, inside, ap length bits, length-map (places s (elements s functors T) c) bit_of)

      -- whether a value is a member
      pub subset_entry : eqb (get_or (element_at F c n) j 0) 1 ≡ in_entries c u (entries_of v)
      subset_entry =
          let d = entry 0 Star in
          let e : get_or (places s (elements s functors T) c) j d ≡ entry c u = place_first s (elements s functors T) c laws low j d q.within ∙ ap (entry c) q.is in
          ap (λ l. eqb (get_or l j 0) 1) bits ∙ ap (λ x. eqb x 1) (mapped_at bit_of (places s (elements s functors T) c) j d 0 inside ∙ ap bit_of e) ∙ is_one (in_entries c u (entries_of v))
        where
          is_one : (b : Bool) → eqb (cond b 1 0) 1 ≡ b
          is_one true = refl
          is_one false = refl
