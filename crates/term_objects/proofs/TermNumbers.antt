-- The values of a term over one variable, by numbers: a map table.
use Rattle.std.proofs.Common.{◌≡◌, ℕ, suc, ◌<◌, true, List, [], ◌∷◌, length, get_or, map, refl, sym, ap, subst, ◌∙◌, arith, append-nil}
use Rattle.std.specs.List.{range_with_len, list_all}
use Rattle.std.proofs.lemmas.Bool.{and_from}
use Rattle.std.proofs.lemmas.List.{length-map, get_or-map}
use Rattle.finite_lists.specs.Members.{In}
use Rattle.finite_lists.proofs.Lists.{map_same, In-map}
use Rattle.finite_lists.proofs.DistinctLists.{In-range_from}
use Rattle.topos_model.specs.declared.ty.Ty.{Ty}
use Rattle.topos_model.specs.declared.term.Term.{Term}
use Rattle.topos_model.specs.declared.value.Val.{Val, Star}
use Rattle.topos_model.specs.declared.context.MapTable.{MapTable}
use Rattle.topos_model.specs.categories.Category.{dom}
use Rattle.topos_model.specs.Laws.{IsInto}
use Rattle.topos_model.specs.types.Types.{elements, restr}
use Rattle.topos_model.specs.presheaves.Maps.{IsNatural}
use Rattle.topos_model.specs.formulas.Forcing.{World, values, along, value, tuples}
use Rattle.topos_model.specs.formulas.TermLaws.{IsWorld}
use Rattle.topos_model.specs.statements.Cells.{objects_of}
use Rattle.topos_model.specs.statements.Answers.{values_of}
use Rattle.term_ranges.specs.Ranges.{is_type_in_range, is_term_in_range}
use Rattle.term_ranges.specs.RangeLaws.{are_ends_in_range}
use Rattle.term_ranges.proofs.NamedTypes.{found_in_range}
use Rattle.type_laws.specs.TypeLaws.{TypeFunctor}
use Rattle.type_laws.proofs.Presheaves.{types_presheaf, Distinct-elements}
use Rattle.forcing_laws.proofs.Theorem.{values_restrict}
use Rattle.truth_tables.specs.Standing.{counts, tuple_at, IsNumberTable}
use Rattle.truth_tables.proofs.Standing.{counts_long, counts_at}
use Rattle.sealed_world.specs.SealedWorlds.{CountedWorld}
use Rattle.formula_answers.specs.MapTables.{ends_of, table_at, pairs_at, pairs_of}
use Rattle.formula_answers.specs.Formulas.{world_of, IsTermOver}
use Rattle.term_objects.specs.TermObjects.{IsTermMap}
use Rattle.term_objects.proofs.NumberTables.{map_places, AreImageNumbers, natural_numbers}

-- the tuples of one variable
module _ (w : World) (T : Ty) where
  pub tuples_one : (c : ℕ) → tuples w (T ∷ []) c ≡ map (λ v. (T, v) ∷ []) (values w T c)
  unfolding tuples
  tuples_one c = append-nil (map (λ v. (T, v) ∷ []) (values w T c))

  pub tuples_long : (c : ℕ) → length (tuples w (T ∷ []) c) ≡ length (values w T c)
  tuples_long c = ap length (tuples_one c) ∙ length-map (values w T c) (λ v. (T, v) ∷ [])

  pub tuple_one : (c x : ℕ) → x < length (values w T c) → tuple_at w (T ∷ []) c x ≡ (T, get_or (values w T c) x Star) ∷ []
  tuple_one c x low = ap (λ l. get_or l x []) (tuples_one c) ∙ get_or-map (λ v. (T, v) ∷ []) (values w T c) x Star [] low

  pub tuple_in : (c : ℕ) (v : Val) → In (values w T c) v → In (tuples w (T ∷ []) c) ((T, v) ∷ [])
  tuple_in c v i = subst (λ l. In l ((T, v) ∷ [])) (sym (tuples_one c)) (In-map (λ v. (T, v) ∷ []) (values w T c) v i)

  pub along_one : (f : ℕ) (v : Val) → along w f ((T, v) ∷ []) ≡ (T, restr w.site w.functors T f v) ∷ []
  unfolding along
  along_one f v = refl

  pub counts_one : (c : ℕ) → c < w.site.category.objects → get_or (counts w (T ∷ [])) c 0 ≡ length (values w T c)
  counts_one c low = counts_at w (T ∷ []) c low ∙ tuples_long c

-- the ends of the maps are in range
ends_in_range : (n : ℕ) (tables : List MapTable) → ((i : ℕ) → i < length tables → (is_type_in_range n (table_at tables i).ends.dom ≡ true) × (is_type_in_range n (table_at tables i).ends.cod ≡ true)) →
    list_all (are_ends_in_range n) (ends_of tables) ≡ true
ends_in_range n [] each = refl
ends_in_range n (m ∷ tables) each =
    let (first, second) = each 0 (omega arith) in
    and_from _ _ (and_from _ _ first second) (ends_in_range n tables (λ i low. each (suc i) (omega (arith, low))))

module _ (w : CountedWorld) (tables : List MapTable) (T : Ty) (t : Term) (U : Ty) (h : IsTermOver w tables (T ∷ []) t U) (lawful : IsWorld (world_of w tables) (ends_of tables)) (numbers : List (List ℕ))
    (stands : IsNumberTable (world_of w tables) (T ∷ []) U (value (world_of w tables) t) numbers) where
  abbrev W : World
  W = world_of w tables

  -- the value at an element
  abbrev at : ℕ → Val → Val
  at c v = value W t c ((T, v) ∷ [])

  are_images : AreImageNumbers w.site.category.objects (elements w.site w.functors T) (elements w.site w.functors U) at numbers
  are_images =
      let inside : (c x : ℕ) → x < length (values W T c) → x < length (tuples W (T ∷ []) c) = λ c x low. omega (arith, low, tuples_long W T c) in
      record {
        objects_long = stands.over.objects ∙ counts_long W (T ∷ []);
        total = λ c object. stands.over.tuples c (omega (arith, object, counts_long W (T ∷ []))) ∙ counts_one W T c object;
        within = λ c x object low. (stands.stands c x object (inside c x low)).within;
        is = λ c x object low. (stands.stands c x object (inside c x low)).is ∙ ap (value W t c) (tuple_one W T c x low);
      }

  restricts : (c f : ℕ) (v : Val) → IsInto w.site.category c f → In (elements w.site w.functors T c) v → at (dom w.site.category f) (restr w.site w.functors T f v) ≡ restr w.site w.functors U f (at c v)
  restricts c f v into i =
      let object : c < w.site.category.objects = subst (λ d. d < w.site.category.objects) into.1 (lawful.category.ends f into.0).1 in
      ap (value W t (dom w.site.category f)) (sym (along_one W T f v))
      ∙ values_restrict W (ends_of tables) (T ∷ []) t U lawful h.typing h.sheaves c ((T, v) ∷ []) object (tuple_in W T c v i) f into

  natural : IsNatural w.site.category (TypeFunctor w.site w.functors T) (TypeFunctor w.site w.functors U) numbers
  natural =
      natural_numbers w.site.category (elements w.site w.functors T) (elements w.site w.functors U) (restr w.site w.functors T) (restr w.site w.functors U) lawful.category
      (types_presheaf w.site w.functors lawful.category lawful.functors T) (types_presheaf w.site w.functors lawful.category lawful.functors U) (Distinct-elements w.site w.functors T) (Distinct-elements w.site w.functors U)
      at numbers are_images restricts

  abbrev made : MapTable
  made = record { ends = record { dom = T; cod = U }; rows = numbers }

  pairs_here : (c : ℕ) → c < w.site.category.objects → pairs_at w.site w.functors made c ≡ values_of W T t c
  unfolding pairs_at values_of
  pairs_here c object =
      map_same (λ x. (get_or (values W T c) x Star, get_or (values W U c) (get_or (get_or numbers c []) x 0) Star)) (λ x. (get_or (values W T c) x Star, at c (get_or (values W T c) x Star))) (range_with_len 0 (length (values W T c)))
      (λ x i. let r = In-range_from 0 (length (values W T c)) x i in ap (λ u. (get_or (values W T c) x Star, u)) (are_images.is c x object (omega (arith, r.1))))
      ∙ map_places Star (λ v. (v, at c v)) (values W T c)

  pairs_are : pairs_of w.site w.functors made ≡ map (values_of W T t) (objects_of w.site.category)
  unfolding pairs_of
  pairs_are = map_same (pairs_at w.site w.functors made) (values_of W T t) (objects_of w.site.category) (λ c i. let r = In-range_from 0 w.site.category.objects c i in pairs_here c (omega (arith, r.1)))

  module _ (domain : is_type_in_range (length w.functors) T ≡ true) (range : is_term_in_range (length w.functors) (length tables) t ≡ true) where
    codomain : is_type_in_range (length w.functors) U ≡ true
    codomain =
        found_in_range (length w.functors) (ends_of tables) (ends_in_range (length w.functors) tables (λ i low. let m = h.maps i low in (m.domain, m.codomain))) (T ∷ []) t U
        (subst (λ n. is_term_in_range (length w.functors) n t ≡ true) (sym (length-map tables (λ m. m.ends))) range) (and_from _ _ domain refl) h.typing

    -- with these ends they are the map of the term
    pub term_map_is : (dom cod : Ty) → dom ≡ T → cod ≡ U → IsTermMap w tables T t U (record { ends = record { dom = dom; cod = cod }; rows = numbers })
    term_map_is dom cod d e =
        subst (λ S. IsTermMap w tables T t U (record { ends = record { dom = S; cod = cod }; rows = numbers })) (sym d)
        (subst (λ V. IsTermMap w tables T t U (record { ends = record { dom = T; cod = V }; rows = numbers })) (sym e)
        (record { ends = refl; pairs = pairs_are; lawful = record { domain = domain; codomain = codomain; natural = natural } }))
