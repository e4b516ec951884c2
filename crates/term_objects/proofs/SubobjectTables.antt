-- The elements of a type that satisfy a formula: as true elements, and as a subobject that is declared, with its inclusion by a table.
use Rattle.std.proofs.Common.{◌≡◌, ℕ, ◌<◌, Bool, true, false, List, [], ◌∷◌, ◌++◌, length, get_or, map, sym, ap, subst, ◌∙◌, arith}
use Rattle.std.specs.List.{range_with_len, All}
use Rattle.std.proofs.lemmas.List.{length-map, get_or-map, ext_get_or}
use Rattle.std.proofs.lemmas.List.FromFn.{length-map-range_with_len, get_or-map-range_with_len}
use Rattle.finite_lists.specs.Members.{In, Distinct}
use Rattle.finite_lists.proofs.Lists.{In_at, In-filter_from, map_same}
use Rattle.finite_lists.proofs.DistinctLists.{In-range_from, Distinct-filter}
use Rattle.topos_model.specs.declared.ty.Ty.{Ty, Base}
use Rattle.topos_model.specs.declared.term.Term.{Term}
use Rattle.topos_model.specs.declared.value.Val.{Val, Star}
use Rattle.topos_model.specs.declared.context.MapTable.{MapTable}
use Rattle.topos_model.specs.categories.Category.{Category, dom}
use Rattle.topos_model.specs.Laws.{IsCategory, IsFunctor, IsInto}
use Rattle.topos_model.specs.types.Types.{elements, restr}
use Rattle.topos_model.specs.formulas.Forcing.{World, forces}
use Rattle.topos_model.specs.formulas.TermLaws.{IsWorld}
use Rattle.topos_model.specs.statements.Cells.{objects_of}
use Rattle.topos_model.specs.statements.Answers.{numbers_with, satisfying}
use Rattle.term_ranges.specs.Ranges.{is_type_in_range}
use Rattle.type_laws.specs.Numbered.{numbered}
use Rattle.type_laws.proofs.Presheaves.{Distinct-elements}
use Rattle.forcing_laws.proofs.Theorem.{forcing_is_monotone}
use Rattle.functor_store.specs.Store.{Store}
use Rattle.functor_store.specs.Faithful.{IsFaithful}
use Rattle.truth_tables.specs.Tables.{row}
use Rattle.truth_tables.specs.Standing.{IsTruthTable}
use Rattle.truth_tables.proofs.Standing.{counts_long}
use Rattle.term_tables.specs.Parts.{IsSealed}
use Rattle.sealed_world.specs.SealedWorlds.{CountedWorld}
use Rattle.formula_answers.specs.MapTables.{ends_of, pairs_of, IsMapTable}
use Rattle.formula_answers.specs.Formulas.{world_of, IsFormulaOver}
use Rattle.term_objects.specs.declared.made.Subobject.{Subobject}
use Rattle.term_objects.specs.TermObjects.{TrueElements, IsPart, satisfying_numbers, IsSubobject}
use Rattle.term_objects.proofs.NumberTables.{AreImageNumbers}
use Rattle.term_objects.proofs.NumberedPresheaves.{same_numbered}
use Rattle.term_objects.proofs.KeptElements.{kept_values}
use Rattle.term_objects.proofs.TermNumbers.{tuples_long, tuple_one, tuple_in, along_one, counts_one}
use Rattle.term_objects.proofs.TypePresheaves.{part_table, part_pairs}

module _ (w : CountedWorld) (tables : List MapTable) (T : Ty) (φ : Term) where
  abbrev W : World
  W = world_of w tables

  abbrev els : ℕ → List Val
  els c = elements w.site w.functors T c

  -- whether an element satisfies the formula
  abbrev pub satisfies : ℕ → Val → Bool
  satisfies c v = forces (world_of w tables) φ c ((T, v) ∷ [])

  module _ (h : IsFormulaOver w tables (T ∷ []) φ) (lawful : IsWorld (world_of w tables) (ends_of tables)) where
    monotone : (c f : ℕ) (v : Val) → IsInto w.site.category c f → In (els c) v → satisfies c v ≡ true → satisfies (dom w.site.category f) (restr w.site w.functors T f v) ≡ true
    monotone c f v into i holds =
        let object : c < w.site.category.objects = subst (λ d. d < w.site.category.objects) into.1 (lawful.category.ends f into.0).1 in
        ap (forces W φ (dom w.site.category f)) (sym (along_one W T f v))
        ∙ forcing_is_monotone W (ends_of tables) (T ∷ []) φ lawful h.typing h.sheaves c ((T, v) ∷ []) object (tuple_in W T c v i) f into holds

    module _ (truths : List (List Bool)) (stands : IsTruthTable (world_of w tables) (T ∷ []) (forces (world_of w tables) φ) truths) where
      row_is : (c : ℕ) → c < w.site.category.objects → get_or truths c [] ≡ map (satisfies c) (els c)
      row_is c object =
          let long : length (get_or truths c []) ≡ length (els c) = stands.over.tuples c (omega (arith, object, counts_long W (T ∷ []))) ∙ counts_one W T c object in
          ext_get_or false (get_or truths c []) (map (satisfies c) (els c)) (long ∙ sym (length-map (els c) (satisfies c)))
          (λ x inside.
          let low : x < length (els c) = omega (arith, inside, long) in
          stands.truths c x object (omega (arith, low, tuples_long W T c)) ∙ ap (forces W φ c) (tuple_one W T c x low) ∙ sym (get_or-map (satisfies c) (els c) x Star false low))

      rows_are : truths ≡ map (λ c. map (satisfies c) (els c)) (objects_of w.site.category)
      rows_are =
          let rows = map (λ c. map (satisfies c) (els c)) (objects_of w.site.category) in
          let long : length truths ≡ w.site.category.objects = stands.over.objects ∙ counts_long W (T ∷ []) in
          ext_get_or [] truths rows (long ∙ sym (length-map-range_with_len (λ c. map (satisfies c) (els c)) 0 w.site.category.objects))
          (λ c low.
          let object : c < w.site.category.objects = omega (arith, low, long) in
          row_is c object ∙ sym (get_or-map-range_with_len (λ c. map (satisfies c) (els c)) 0 w.site.category.objects c c [] object (omega arith)))

      pub true_elements : (k : Category) (store : Store) (id : ℕ) → k ≡ w.site.category → IsFaithful w.site w.functors store → IsSealed store T id →
          TrueElements k store id truths w.site w.functors T (λ c v. forces (world_of w tables) φ c ((T, v) ∷ []))
      true_elements k store id same faithful sealed = record { site = same; lawful = lawful.functors; faithful = faithful; sealed = sealed; truths_are = rows_are; monotone = monotone }

  pub part_satisfies : (made : Subobject) → IsPart w.site w.functors T (λ c v. forces (world_of w tables) φ c ((T, v) ∷ [])) made → IsSubobject w tables T φ made
  unfolding satisfying satisfying_numbers
  part_satisfies made part = record { functor = part.functor; lawful = part.lawful; inclusion = part.inclusion }

  satisfying_values : (c : ℕ) → satisfying W T φ c ≡ map (λ x. get_or (els c) x Star) (satisfying_numbers W T φ c)
  unfolding satisfying satisfying_numbers
  satisfying_values c = kept_values (satisfies c) (els c)

  number_low : (c x : ℕ) → In (satisfying_numbers W T φ c) x → x < length (els c)
  unfolding satisfying_numbers
  number_low c x i =
      let m = In-filter_from (λ x. satisfies c (get_or (els c) x Star)) (range_with_len 0 (length (els c))) x i in
      let r = In-range_from 0 (length (els c)) x m.0 in
      omega (arith, r.1)

  -- the numbers of a subobject give its elements
  module _ (made : Subobject) (h : IsSubobject w tables T φ made) where
    inclusion_at : (c : ℕ) → c < w.site.category.objects → get_or made.inclusion c [] ≡ satisfying_numbers W T φ c
    inclusion_at c object = ap (λ l. get_or l c []) h.inclusion ∙ get_or-map-range_with_len (satisfying_numbers W T φ) 0 w.site.category.objects c c [] object (omega arith)

    pub inclusion_long : length made.inclusion ≡ w.site.category.objects
    inclusion_long = ap length h.inclusion ∙ length-map-range_with_len (satisfying_numbers W T φ) 0 w.site.category.objects

    pub inclusion_within : (c x : ℕ) → c < length made.inclusion → In (get_or made.inclusion c []) x → x < length (elements w.site w.functors T c)
    inclusion_within c x low i = number_low c x (subst (λ l. In l x) (inclusion_at c (omega (arith, low, inclusion_long))) i)

    pub inclusion_values : row (length made.inclusion) (λ c. map (λ x. get_or (elements w.site w.functors T c) x Star) (get_or made.inclusion c [])) ≡ map (satisfying (world_of w tables) T φ) (objects_of w.site.category)
    inclusion_values =
        ap (λ n. row n (λ c. map (λ x. get_or (els c) x Star) (get_or made.inclusion c []))) inclusion_long
        ∙ map_same (λ c. map (λ x. get_or (els c) x Star) (get_or made.inclusion c [])) (satisfying W T φ) (objects_of w.site.category)
        (λ c i.
        let r = In-range_from 0 w.site.category.objects c i in
        ap (map (λ x. get_or (els c) x Star)) (inclusion_at c (omega (arith, r.1))) ∙ sym (satisfying_values c))

  satisfying_some : (c : ℕ) (v : Val) → In (satisfying (world_of w tables) T φ c) v → In (elements w.site w.functors T c) v
  unfolding satisfying
  satisfying_some c v i = (In-filter_from (satisfies c) (els c) v i).0

  satisfying_once : (c : ℕ) → Distinct (satisfying (world_of w tables) T φ c)
  unfolding satisfying
  satisfying_once c = Distinct-filter (satisfies c) (els c) (Distinct-elements w.site w.functors T c)

  -- the subobject declared after the others
  module _ (made : Subobject) (h : IsSubobject w tables T φ made) (range : is_type_in_range (length w.functors) T ≡ true) (laws : IsCategory w.site.category) (lawful : All (IsFunctor w.site.category) w.functors) where
    row_at : (c : ℕ) → c < w.site.category.objects → get_or made.inclusion c [] ≡ satisfying_numbers W T φ c
    row_at = inclusion_at made h

    count_at : (c : ℕ) → length (satisfying W T φ c) ≡ length (satisfying_numbers W T φ c)
    count_at c = ap length (satisfying_values c) ∙ length-map (satisfying_numbers W T φ c) (λ x. get_or (els c) x Star)

    number_at : (c x : ℕ) → c < w.site.category.objects → get_or (get_or made.inclusion c []) x 0 ≡ get_or (satisfying_numbers W T φ c) x 0
    number_at c x object = ap (λ l. get_or l x 0) (row_at c object)

    their_numbers : AreImageNumbers w.site.category.objects (satisfying (world_of w tables) T φ) (elements w.site w.functors T) (λ c v. v) made.inclusion
    their_numbers = record {
      objects_long = inclusion_long made h;
      total = λ c object. ap length (row_at c object) ∙ sym (count_at c);
      within = λ c x object low.
          subst (λ n. n < length (els c)) (sym (number_at c x object))
          (number_low c (get_or (satisfying_numbers W T φ c) x 0) (In_at (satisfying_numbers W T φ c) x 0 (omega (arith, low, count_at c))));
      is = λ c x object low.
          ap (λ n. get_or (els c) n Star) (number_at c x object)
          ∙ sym (ap (λ l. get_or l x Star) (satisfying_values c) ∙ get_or-map (λ x. get_or (els c) x Star) (satisfying_numbers W T φ c) x 0 Star (omega (arith, low, count_at c)));
    }

    functor_is : made.functor ≡ numbered w.site.category (satisfying (world_of w tables) T φ) (restr w.site w.functors T)
    functor_is = h.functor ∙ sym (same_numbered w.site.category (satisfying (world_of w tables) T φ) (restr w.site w.functors T))

    pub subobject_table : IsMapTable w.site (w.functors ++ made.functor ∷ []) (record { ends = record { dom = Base (length w.functors); cod = T }; rows = made.inclusion })
    subobject_table =
        part_table w.site w.functors T range laws lawful (satisfying (world_of w tables) T φ) satisfying_once satisfying_some made.functor functor_is h.lawful made.inclusion their_numbers

    pub subobject_pairs : pairs_of w.site (w.functors ++ made.functor ∷ []) (record { ends = record { dom = Base (length w.functors); cod = T }; rows = made.inclusion })
        ≡ map (λ c. numbers_with (satisfying (world_of w tables) T φ c)) (objects_of w.site.category)
    subobject_pairs =
        part_pairs w.site w.functors T range laws lawful (satisfying (world_of w tables) T φ) satisfying_once satisfying_some made.functor functor_is h.lawful made.inclusion their_numbers
