-- Maps by their tables: between presheaves, with more presheaves, and where they take elements.
use Rattle.std.proofs.Common.{◌≡◌, ℕ, zero, suc, ◌+◌, ◌<◌, ◌≤◌, true, inl, inr, List, [], ◌∷◌, ◌++◌, length, get_or, map, refl, sym, ap, ap₂, subst, ◌∙◌, arith}
use Rattle.std.specs.List.{range_with_len}
use Rattle.std.proofs.lemmas.Bool.{cases_Bool, cases_lt, cond-true, cond-false, ltb-true, lt-ltb}
use Rattle.std.proofs.lemmas.List.{length-map, get_or-map, ext_get_or, get_or_append_left, get_or_push, length_push}
use Rattle.std.proofs.lemmas.List.FromFn.{length-range_with_len, get_or-range_with_len, length-map-range_with_len, get_or-map-range_with_len}
use Rattle.finite_lists.specs.Members.{In}
use Rattle.finite_lists.proofs.Lists.{map_same, all_each, each_all}
use Rattle.finite_lists.proofs.DistinctLists.{In-range_from}
use Rattle.topos_model.specs.declared.ty.Ty.{Ty, Base, One, Omega, Two', Pow', Fun'}
use Rattle.topos_model.specs.declared.value.Val.{Val, El, Star}
use Rattle.topos_model.specs.declared.context.MapTable.{MapTable}
use Rattle.topos_model.specs.categories.Category.{dom, cod}
use Rattle.topos_model.specs.topologies.Cover.{Site}
use Rattle.topos_model.specs.Laws.{IsFunctor, size, act}
use Rattle.topos_model.specs.types.Types.{Presheaf, functor, elements, restr, base_elements, base_along}
use Rattle.topos_model.specs.types.Values.{same}
use Rattle.topos_model.specs.presheaves.Maps.{Components, component, apply, IsNatural}
use Rattle.topos_model.specs.formulas.Forcing.{image_of}
use Rattle.topos_model.specs.statements.Answers.{element_pairs}
use Rattle.topos_model.specs.statements.Cells.{objects_of}
use Rattle.topos_model.specs.statements.Needs.{parts}
use Rattle.topos_model.proofs.TypeEquations.{restr-Base}
use Rattle.topos_model.proofs.ValueEquations.{number_of-El}
use Rattle.term_ranges.specs.Ranges.{is_part_in_range, is_type_in_range}
use Rattle.term_ranges.proofs.RangeEquations.{part_name}
use Rattle.type_laws.specs.Numbered.{numbered, place_of}
use Rattle.type_laws.specs.TypeLaws.{TypeFunctor}
use Rattle.type_laws.proofs.Numbering.{place_of_at}
use Rattle.type_laws.proofs.Presheaves.{Distinct-elements}
use Rattle.type_laws.proofs.Same.{same_equal, same_self}
use Rattle.named_functors.proofs.MoreFunctors.{type_agrees}
use Rattle.formula_answers.specs.MapTables.{no_table, table_at, pairs_at, pairs_of, IsMapTable, AreMapTables}

-- the elements of a presheaf by number are those of the type that names it
module _ (s : Site) (functors : List Presheaf) (n : ℕ) where
  abbrev X : Presheaf
  X = functor s functors n

  abbrev values_at : ℕ → List Val
  values_at c = elements s functors (Base n) c

  pub base_count : (c : ℕ) → length (elements s functors (Base n) c) ≡ size (functor s functors n) c
  unfolding elements base_elements
  base_count c = length-map (range_with_len 0 (size X c)) El ∙ length-range_with_len 0 (size X c)

  pub base_value : (c x : ℕ) → x < size (functor s functors n) c → get_or (elements s functors (Base n) c) x Star ≡ El x
  unfolding elements base_elements
  base_value c x low =
      let z : 0 + x ≡ x = omega arith in
      get_or-map El (range_with_len 0 (size X c)) x 0 Star (omega (arith, low, length-range_with_len 0 (size X c))) ∙ ap El (get_or-range_with_len 0 (size X c) x 0 low ∙ z)

  base_restriction : (f x : ℕ) → restr s functors (Base n) f (El x) ≡ El (act (functor s functors n) f x)
  unfolding base_along
  base_restriction f x = restr-Base s functors n f (El x) ∙ ap (λ m. El (get_or (get_or X.along f []) m 0)) (number_of-El x)

  abbrev row_at : ℕ → List ℕ
  row_at f = map (λ v. place_of (restr s functors (Base n) f v) (elements s functors (Base n) (dom s.category f))) (elements s functors (Base n) (cod s.category f))

  numbered_sizes : (TypeFunctor s functors (Base n)).sizes ≡ map (λ c. length (elements s functors (Base n) c)) (range_with_len 0 s.category.objects)
  unfolding numbered
  numbered_sizes = refl

  numbered_rows : (TypeFunctor s functors (Base n)).along ≡ map row_at (range_with_len 0 (length s.category.ends))
  unfolding numbered
  numbered_rows = refl

  module _ (lawful : IsFunctor s.category (functor s functors n)) where
    sizes_same : (TypeFunctor s functors (Base n)).sizes ≡ (functor s functors n).sizes
    sizes_same =
        numbered_sizes ∙ ext_get_or 0 (map (λ c. length (values_at c)) (range_with_len 0 s.category.objects)) X.sizes
        (length-map-range_with_len (λ c. length (values_at c)) 0 s.category.objects ∙ sym lawful.objects)
        (λ c low.
        let object : c < s.category.objects = omega (arith, low, length-map-range_with_len (λ c. length (values_at c)) 0 s.category.objects) in
        get_or-map-range_with_len (λ c. length (values_at c)) 0 s.category.objects c c 0 object (omega arith) ∙ base_count c)

    row_same : (f : ℕ) → f < length s.category.ends → row_at f ≡ get_or (functor s functors n).along f []
    row_same f arrow =
        let c = cod s.category f in
        let long : length (row_at f) ≡ size X c = length-map (values_at c) _ ∙ base_count c in
        ext_get_or 0 (row_at f) (get_or X.along f []) (long ∙ sym (lawful.total c f (arrow, refl)))
        (λ x low.
        let inside : x < size X c = omega (arith, low, long) in
        let there : x < length (values_at c) = omega (arith, inside, base_count c) in
        let within : act X f x < size X (dom s.category f) = lawful.within c f x (arrow, refl) inside in
        let here : act X f x < length (values_at (dom s.category f)) = omega (arith, within, base_count (dom s.category f)) in
        get_or-map (λ v. place_of (restr s functors (Base n) f v) (values_at (dom s.category f))) (values_at c) x Star 0 there
        ∙ ap (λ v. place_of (restr s functors (Base n) f v) (values_at (dom s.category f))) (base_value c x inside)
        ∙ ap (λ v. place_of v (values_at (dom s.category f))) (base_restriction f x ∙ sym (base_value (dom s.category f) (act X f x) within))
        ∙ place_of_at (values_at (dom s.category f)) (act X f x) Star (Distinct-elements s functors (Base n) (dom s.category f)) here)

    rows_same : (TypeFunctor s functors (Base n)).along ≡ (functor s functors n).along
    rows_same =
        numbered_rows ∙ ext_get_or [] (map row_at (range_with_len 0 (length s.category.ends))) X.along
        (length-map-range_with_len row_at 0 (length s.category.ends) ∙ sym lawful.arrows)
        (λ f low.
        let arrow : f < length s.category.ends = omega (arith, low, length-map-range_with_len row_at 0 (length s.category.ends)) in
        get_or-map-range_with_len row_at 0 (length s.category.ends) f f [] arrow (omega arith) ∙ row_same f arrow)

    pub base_functor : TypeFunctor s functors (Base n) ≡ functor s functors n
    base_functor = ap₂ (λ sizes along. record { sizes = sizes; along = along }) sizes_same rows_same

-- so a natural map between presheaves is its own table
module _ (s : Site) (functors : List Presheaf) (x y : ℕ) (m : Components) where
  abbrev table : MapTable
  table = record { ends = record { dom = Base x; cod = Base y }; rows = m }

  pairs_here : IsNatural s.category (functor s functors x) (functor s functors y) m → (c : ℕ) → c < s.category.objects → pairs_at s functors table c ≡ element_pairs (component m c)
  unfolding pairs_at element_pairs
  pairs_here natural c object =
      let count : length (elements s functors (Base x) c) ≡ length (component m c) = base_count s functors x c ∙ sym (natural.total c object) in
      ap (λ l. map (λ k. (get_or (elements s functors (Base x) c) k Star, get_or (elements s functors (Base y) c) (apply m c k) Star)) (range_with_len 0 l)) count
      ∙ map_same _ _ (range_with_len 0 (length (component m c))) (λ k i.
      let r = In-range_from 0 (length (component m c)) k i in
      let low : k < size (functor s functors x) c = omega (arith, r.1, natural.total c object) in
      ap₂ (λ (u v : Val). (u, v)) (base_value s functors x c k low) (base_value s functors y c (apply m c k) (natural.within c k object low)))

  pub base_pairs : IsFunctor s.category (functor s functors x) → IsFunctor s.category (functor s functors y) → IsNatural s.category (functor s functors x) (functor s functors y) m →
      pairs_of s functors (record { ends = record { dom = Base x; cod = Base y }; rows = m }) ≡ map element_pairs m
  unfolding pairs_of
  base_pairs from to natural =
      let objects = s.category.objects in
      let long : length (map (pairs_at s functors table) (range_with_len 0 objects)) ≡ objects = length-map-range_with_len (pairs_at s functors table) 0 objects in
      ext_get_or [] (map (pairs_at s functors table) (range_with_len 0 objects)) (map element_pairs m) (long ∙ sym (length-map m element_pairs ∙ natural.objects))
      (λ c low.
      let object : c < objects = omega (arith, low, long) in
      get_or-map-range_with_len (pairs_at s functors table) 0 objects c c [] object (omega arith)
      ∙ pairs_here natural c object
      ∙ sym (get_or-map element_pairs m c [] [] (omega (arith, object, natural.objects))))

-- a type whose presheaves are there
part_later : (n n' : ℕ) → n ≤ n' → (P : Ty) → is_part_in_range n P ≡ true → is_part_in_range n' P ≡ true
unfolding is_part_in_range
part_later n n' more (Base m) h = lt-ltb m n' (omega (arith, more, ltb-true m n h))
part_later n n' more One h = refl
part_later n n' more Omega h = refl
part_later n n' more (Two' a u b v) h = refl
part_later n n' more (Pow' a u) h = refl
part_later n n' more (Fun' a u b v) h = refl

pub type_later : (n n' : ℕ) → n ≤ n' → (T : Ty) → is_type_in_range n T ≡ true → is_type_in_range n' T ≡ true
unfolding is_type_in_range
type_later n n' more T h = each_all (is_part_in_range n') (parts T) (λ P i. part_later n n' more P (all_each (is_part_in_range n) (parts T) P h i))

named_low : (n : ℕ) (T : Ty) → is_type_in_range n T ≡ true → (m : ℕ) → In (parts T) (Base m) → m < n
unfolding is_type_in_range
named_low n T h m i = ltb-true m n (sym (part_name n m) ∙ all_each (is_part_in_range n) (parts T) (Base m) h i)

-- one presheaf more changes nothing of a map that is there
module _ (s : Site) (functors : List Presheaf) (X : Presheaf) where
  abbrev all : List Presheaf
  all = functors ++ X ∷ []

  abbrev Same : Ty → Type 0
  Same T = (elements s functors T ≡ elements s (functors ++ X ∷ []) T) × (restr s functors T ≡ restr s (functors ++ X ∷ []) T)

  pub same_later : (T : Ty) → is_type_in_range (length functors) T ≡ true → Same T
  same_later T h = type_agrees s functors all T (λ n i. sym (get_or_append_left functors (X ∷ []) _ n (named_low (length functors) T h n i)))

  pub functor_later : (T : Ty) → is_type_in_range (length functors) T ≡ true → TypeFunctor s functors T ≡ TypeFunctor s (functors ++ X ∷ []) T
  functor_later T h = let e = same_later T h in ap₂ (numbered s.category) e.0 e.1

  module _ (m : MapTable) (h : IsMapTable s functors m) where
    pub table_later : IsMapTable s (functors ++ X ∷ []) m
    table_later =
        let more : length functors ≤ length all = omega (arith, length_push functors X) in
        record {
          domain = type_later (length functors) (length all) more m.ends.dom h.domain;
          codomain = type_later (length functors) (length all) more m.ends.cod h.codomain;
          natural = subst (λ P. IsNatural s.category P (TypeFunctor s all m.ends.cod) m.rows) (functor_later m.ends.dom h.domain)
              (subst (λ Q. IsNatural s.category (TypeFunctor s functors m.ends.dom) Q m.rows) (functor_later m.ends.cod h.codomain) h.natural);
        }

    pub pairs_later : pairs_of s (functors ++ X ∷ []) m ≡ pairs_of s functors m
    unfolding pairs_of pairs_at
    pairs_later =
        sym (ap₂
        (λ (from to : ℕ → List Val). map (λ c. map (λ x. (get_or (from c) x Star, get_or (to c) (get_or (get_or m.rows c []) x 0) Star)) (range_with_len 0 (length (from c)))) (objects_of s.category))
        (same_later m.ends.dom h.domain).0 (same_later m.ends.cod h.codomain).0)

  module _ (tables : List MapTable) (are : AreMapTables s functors tables) where
    pub tables_later : AreMapTables s (functors ++ X ∷ []) tables
    tables_later n low = table_later (table_at tables n) (are n low)

    pub all_pairs_later : map (pairs_of s (functors ++ X ∷ [])) tables ≡ map (pairs_of s functors) tables
    all_pairs_later =
        let long : length (map (pairs_of s all) tables) ≡ length tables = length-map tables (pairs_of s all) in
        ext_get_or [] (map (pairs_of s all) tables) (map (pairs_of s functors) tables) (long ∙ sym (length-map tables (pairs_of s functors)))
        (λ n low.
        let there : n < length tables = omega (arith, low, long) in
        get_or-map (pairs_of s all) tables n no_table [] there ∙ pairs_later (table_at tables n) (are n there) ∙ sym (get_or-map (pairs_of s functors) tables n no_table [] there))

-- one map more
module _ (s : Site) (functors : List Presheaf) (tables : List MapTable) (are : AreMapTables s functors tables) (m : MapTable) (h : IsMapTable s functors m) where
  pub tables_with : AreMapTables s functors (tables ++ m ∷ [])
  tables_with n low = elim (cases_lt n (length tables)) [
    | inl there ↦ subst (IsMapTable s functors) (sym (get_or_append_left tables (m ∷ []) no_table n there)) (are n there)
    | inr past ↦
        let last : length tables ≡ n = omega (arith, low, past, length_push tables m) in
        subst (IsMapTable s functors) (sym (get_or_push tables m no_table n last)) h
  ]

-- the image in a list of pairs by number
image_in : (g h : ℕ → Val) (a n k : ℕ) → a ≤ k → k < a + n → ((x : ℕ) → x < a + n → g x ≡ g k → x ≡ k) → image_of (g k) (map (λ x. (g x, h x)) (range_with_len a n)) ≡ h k
unfolding image_of
image_in g h a zero k low high one = absurd (omega (arith, low, high))
image_in g h a (suc n) k low high one =
    let rest = image_of (g k) (map (λ x. (g x, h x)) (range_with_len (a + 1) n)) in
    elim (cases_Bool (same (g a) (g k))) [
      | inl e ↦ cond-true (same (g a) (g k)) (h a) rest e ∙ ap h (one a (omega arith) (same_equal (g a) (g k) e))
      | inr e ↦
          let other : a ≡ k → ⊥ = λ is. let self : same (g a) (g k) ≡ true = subst (λ j. same (g a) (g j) ≡ true) is (same_self (g a)) in cc in
          let later : a + 1 ≤ k = elim (cases_lt a k) [ inl less ↦ omega (arith, less) | inr more ↦ absurd (other (omega (arith, low, more))) ] in
          cond-false (same (g a) (g k)) (h a) rest e ∙ image_in g h (a + 1) n k later (omega (arith, high)) (λ x inside is. one x (omega (arith, inside)) is)
    ]

-- where a map takes an element
module _ (s : Site) (functors : List Presheaf) (m : MapTable) (c k : ℕ) where
  pub table_image : k < length (elements s functors m.ends.dom c) →
      image_of (get_or (elements s functors m.ends.dom c) k Star) (pairs_at s functors m c) ≡ get_or (elements s functors m.ends.cod c) (get_or (get_or m.rows c []) k 0) Star
  unfolding pairs_at
  table_image low =
      let from = elements s functors m.ends.dom c in
      image_in (λ x. get_or from x Star) (λ x. get_or (elements s functors m.ends.cod c) (get_or (get_or m.rows c []) x 0) Star) 0 (length from) k (omega arith) (omega (arith, low))
      (λ x inside is.
      let distinct = Distinct-elements s functors m.ends.dom c in
      sym (place_of_at from x Star distinct (omega (arith, inside))) ∙ ap (λ v. place_of v from) is ∙ place_of_at from k Star distinct low)
