-- The presheaf of a type, declared after the others, and a part of it, with their maps by tables.
use Rattle.std.proofs.Common.{◌≡◌, ℕ, ◌<◌, true, List, [], ◌∷◌, ◌++◌, length, get_or, map, refl, sym, ap, ap₂, subst, ◌∙◌, arith}
use Rattle.std.specs.List.{range_with_len, All}
use Rattle.std.proofs.lemmas.Bool.{and_from, lt-ltb}
use Rattle.std.proofs.lemmas.List.{length_push, get_or_push, length-map, get_or-map, map-id}
use Rattle.finite_lists.specs.Members.{In, Distinct}
use Rattle.finite_lists.proofs.Lists.{map_same}
use Rattle.finite_lists.proofs.DistinctLists.{In-range_from}
use Rattle.topos_model.specs.declared.ty.Ty.{Ty, Base}
use Rattle.topos_model.specs.declared.value.Val.{Val, El, Star}
use Rattle.topos_model.specs.declared.context.MapTable.{MapTable}
use Rattle.topos_model.specs.topologies.Cover.{Site}
use Rattle.topos_model.specs.Laws.{IsCategory, IsFunctor, size}
use Rattle.topos_model.specs.types.Types.{Presheaf, functor, elements, restr}
use Rattle.topos_model.specs.presheaves.Maps.{IsNatural}
use Rattle.topos_model.specs.statements.Needs.{parts}
use Rattle.topos_model.specs.statements.Cells.{objects_of}
use Rattle.topos_model.specs.statements.Answers.{numbers_with, with_numbers, numbered as answer_numbered}
use Rattle.term_ranges.specs.Ranges.{is_part_in_range, is_type_in_range}
use Rattle.type_laws.specs.Numbered.{numbered}
use Rattle.type_laws.specs.TypeLaws.{TypeFunctor}
use Rattle.type_laws.proofs.Numbering.{size_numbered}
use Rattle.type_laws.proofs.Presheaves.{types_presheaf, Distinct-elements}
use Rattle.type_laws.proofs.TypeFunctors.{types_are_functors}
use Rattle.truth_tables.specs.Tables.{row}
use Rattle.formula_answers.specs.MapTables.{pairs_at, pairs_of, IsMapTable}
use Rattle.formula_answers.proofs.MapTables.{base_count, base_value, base_functor, type_later, same_later, functor_later}
use Rattle.term_objects.proofs.NumberTables.{AreImageNumbers, map_places, natural_numbers, identity_long, identity_at, identity_natural}
use Rattle.term_objects.proofs.NumberedPresheaves.{same_numbered, part_presheaf}

-- a presheaf that is there
base_in_range : (n m : ℕ) → n < m → is_type_in_range m (Base n) ≡ true
unfolding is_type_in_range is_part_in_range parts
base_in_range n m low = and_from _ _ (lt-ltb n m low) refl

-- one presheaf after the others
module _ (s : Site) (functors : List Presheaf) (Z : Presheaf) where
  abbrev all : List Presheaf
  all = functors ++ Z ∷ []

  abbrev n : ℕ
  n = length functors

  last : functor s (functors ++ Z ∷ []) (length functors) ≡ Z
  last = get_or_push functors Z _ n refl

  in_range : is_type_in_range (length all) (Base n) ≡ true
  in_range = base_in_range n (length all) (omega (arith, length_push functors Z))

  last_functor : IsFunctor s.category Z → TypeFunctor s (functors ++ Z ∷ []) (Base (length functors)) ≡ Z
  last_functor lawful = base_functor s all n (subst (IsFunctor s.category) (sym last) lawful) ∙ last

  last_count : (c : ℕ) → length (elements s (functors ++ Z ∷ []) (Base (length functors)) c) ≡ size Z c
  last_count c = base_count s all n c ∙ ap (λ X. size X c) last

  last_value : (c x : ℕ) → x < size Z c → get_or (elements s (functors ++ Z ∷ []) (Base (length functors)) c) x Star ≡ El x
  last_value c x low = base_value s all n c x (omega (arith, low, ap (λ X. size X c) last))

-- elements of a type, at each object some, by their numbers among all
module _ (s : Site) (functors : List Presheaf) (T : Ty) (range : is_type_in_range (length functors) T ≡ true) (laws : IsCategory s.category) (lawful : All (IsFunctor s.category) functors)
    (values : ℕ → List Val) (once : (c : ℕ) → Distinct (values c)) (some : (c : ℕ) (v : Val) → In (values c) v → In (elements s functors T c) v)
    (Z : Presheaf) (Z_is : Z ≡ numbered s.category values (restr s functors T)) (Z_lawful : IsFunctor s.category Z) (rows : List (List ℕ))
    (are : AreImageNumbers s.category.objects values (elements s functors T) (λ c v. v) rows) where
  abbrev table : MapTable
  table = record { ends = record { dom = Base (length functors); cod = T }; rows = rows }

  part_natural : IsNatural s.category Z (TypeFunctor s functors T) rows
  part_natural =
      let whole = types_presheaf s functors laws lawful T in
      let part = part_presheaf s.category laws (elements s functors T) values (restr s functors T) whole some (subst (IsFunctor s.category) Z_is Z_lawful) in
      subst (λ P. IsNatural s.category P (TypeFunctor s functors T) rows) (sym Z_is)
      (natural_numbers s.category values (elements s functors T) (restr s functors T) (restr s functors T) laws part whole once (Distinct-elements s functors T) (λ c v. v) rows are (λ c f v into i. refl))

  pub part_table : IsMapTable s (functors ++ Z ∷ []) (record { ends = record { dom = Base (length functors); cod = T }; rows = rows })
  part_table = record {
    domain = in_range s functors Z;
    codomain = type_later (length functors) (length (functors ++ Z ∷ [])) (omega (arith, length_push functors Z)) T range;
    natural = subst (λ P. IsNatural s.category P (TypeFunctor s (functors ++ Z ∷ []) T) rows) (sym (last_functor s functors Z Z_lawful))
        (subst (λ Q. IsNatural s.category Z Q rows) (functor_later s functors Z T range) part_natural);
  }

  part_count : (c : ℕ) → c < s.category.objects → size Z c ≡ length (values c)
  part_count c object = ap (λ X. size X c) Z_is ∙ size_numbered s.category values (restr s functors T) c object

  pairs_here : (c : ℕ) → c < s.category.objects → pairs_at s (functors ++ Z ∷ []) table c ≡ numbers_with (values c)
  unfolding pairs_at numbers_with
  pairs_here c object =
      let from = elements s (functors ++ Z ∷ []) (Base (length functors)) c in
      let to = elements s (functors ++ Z ∷ []) T c in
      let count : length from ≡ length (values c) = last_count s functors Z c ∙ part_count c object in
      ap (λ n. map (λ x. (get_or from x Star, get_or to (get_or (get_or rows c []) x 0) Star)) (range_with_len 0 n)) count
      ∙ map_same (λ x. (get_or from x Star, get_or to (get_or (get_or rows c []) x 0) Star)) (λ x. (El x, get_or (values c) x Star)) (range_with_len 0 (length (values c)))
      (λ x i.
      let r = In-range_from 0 (length (values c)) x i in
      let low : x < length (values c) = omega (arith, r.1) in
      ap₂ (λ (u v : Val). (u, v)) (last_value s functors Z c x (omega (arith, low, part_count c object)))
      (ap (λ (e : ℕ → List Val). get_or (e c) (get_or (get_or rows c []) x 0) Star) (sym (same_later s functors Z T range).0) ∙ are.is c x object low))

  pub part_pairs : pairs_of s (functors ++ Z ∷ []) (record { ends = record { dom = Base (length functors); cod = T }; rows = rows }) ≡ map (λ c. numbers_with (values c)) (objects_of s.category)
  unfolding pairs_of
  part_pairs =
      map_same (pairs_at s (functors ++ Z ∷ []) table) (λ c. numbers_with (values c)) (objects_of s.category) (λ c i. let r = In-range_from 0 s.category.objects c i in pairs_here c (omega (arith, r.1)))

-- all elements of a type by their numbers
pub type_numbered : (s : Site) (functors : List Presheaf) (T : Ty) → TypeFunctor s functors T ≡ answer_numbered s.category (elements s functors T) (restr s functors T)
type_numbered s functors T = same_numbered s.category (elements s functors T) (restr s functors T)

module _ (s : Site) (functors : List Presheaf) (T : Ty) (range : is_type_in_range (length functors) T ≡ true) (laws : IsCategory s.category) (lawful : All (IsFunctor s.category) functors) where
  abbrev Z : Presheaf
  Z = TypeFunctor s functors T

  Z_lawful : IsFunctor s.category (TypeFunctor s functors T)
  Z_lawful = types_are_functors s functors laws lawful T

  abbrev rows : List (List ℕ)
  rows = map (λ n. range_with_len 0 n) (TypeFunctor s functors T).sizes

  size_is : (c : ℕ) → c < s.category.objects → size (TypeFunctor s functors T) c ≡ length (elements s functors T c)
  size_is c object = size_numbered s.category (elements s functors T) (restr s functors T) c object

  row_at : (c x : ℕ) → c < s.category.objects → x < length (elements s functors T c) → get_or (get_or rows c []) x 0 ≡ x
  row_at c x object low = identity_at Z.sizes c (omega (arith, object, Z_lawful.objects)) x (omega (arith, low, size_is c object))

  own_numbers : AreImageNumbers s.category.objects (elements s functors T) (elements s functors T) (λ c v. v) rows
  own_numbers = record {
    objects_long = length-map Z.sizes (λ n. range_with_len 0 n) ∙ Z_lawful.objects;
    total = λ c object. identity_long Z.sizes c (omega (arith, object, Z_lawful.objects)) ∙ size_is c object;
    within = λ c x object low. subst (λ y. y < length (elements s functors T c)) (sym (row_at c x object low)) low;
    is = λ c x object low. ap (λ y. get_or (elements s functors T c) y Star) (row_at c x object low);
  }

  -- numbers with their elements
  pub numbers_table : IsMapTable s (functors ++ TypeFunctor s functors T ∷ []) (record { ends = record { dom = Base (length functors); cod = T }; rows = map (λ n. range_with_len 0 n) (TypeFunctor s functors T).sizes })
  numbers_table = part_table s functors T range laws lawful (elements s functors T) (Distinct-elements s functors T) (λ c v i. i) Z refl Z_lawful rows own_numbers

  pub numbers_pairs : pairs_of s (functors ++ TypeFunctor s functors T ∷ []) (record { ends = record { dom = Base (length functors); cod = T }; rows = map (λ n. range_with_len 0 n) (TypeFunctor s functors T).sizes })
      ≡ map (λ c. numbers_with (elements s functors T c)) (objects_of s.category)
  numbers_pairs = part_pairs s functors T range laws lawful (elements s functors T) (Distinct-elements s functors T) (λ c v i. i) Z refl Z_lawful rows own_numbers

  -- elements with their numbers
  pub elements_table : IsMapTable s (functors ++ TypeFunctor s functors T ∷ []) (record { ends = record { dom = T; cod = Base (length functors) }; rows = map (λ n. range_with_len 0 n) (TypeFunctor s functors T).sizes })
  elements_table = record {
    domain = type_later (length functors) (length (functors ++ Z ∷ [])) (omega (arith, length_push functors Z)) T range;
    codomain = in_range s functors Z;
    natural = subst (λ Q. IsNatural s.category (TypeFunctor s (functors ++ Z ∷ []) T) Q rows) (sym (last_functor s functors Z Z_lawful))
        (subst (λ P. IsNatural s.category P Z rows) (functor_later s functors Z T range) (identity_natural s.category Z laws Z_lawful));
  }

  abbrev back : MapTable
  back = record { ends = record { dom = T; cod = Base (length functors) }; rows = rows }

  back_here : (c : ℕ) → c < s.category.objects → pairs_at s (functors ++ TypeFunctor s functors T ∷ []) back c ≡ with_numbers (elements s functors T c)
  unfolding pairs_at with_numbers
  back_here c object =
      let to = elements s (functors ++ Z ∷ []) (Base (length functors)) c in
      ap (λ (e : ℕ → List Val). map (λ x. (get_or (e c) x Star, get_or to (get_or (get_or rows c []) x 0) Star)) (range_with_len 0 (length (e c)))) (sym (same_later s functors Z T range).0)
      ∙ map_same (λ x. (get_or (elements s functors T c) x Star, get_or to (get_or (get_or rows c []) x 0) Star)) (λ x. (get_or (elements s functors T c) x Star, El x)) (range_with_len 0 (length (elements s functors T c)))
      (λ x i.
      let r = In-range_from 0 (length (elements s functors T c)) x i in
      let low : x < length (elements s functors T c) = omega (arith, r.1) in
      ap (λ (u : Val). (get_or (elements s functors T c) x Star, u))
      (ap (λ y. get_or to y Star) (row_at c x object low) ∙ last_value s functors Z c x (omega (arith, low, size_is c object))))

  pub elements_pairs : pairs_of s (functors ++ TypeFunctor s functors T ∷ []) (record { ends = record { dom = T; cod = Base (length functors) }; rows = map (λ n. range_with_len 0 n) (TypeFunctor s functors T).sizes })
      ≡ map (λ c. with_numbers (elements s functors T c)) (objects_of s.category)
  unfolding pairs_of
  elements_pairs =
      map_same (pairs_at s (functors ++ Z ∷ []) back) (λ c. with_numbers (elements s functors T c)) (objects_of s.category) (λ c i. let r = In-range_from 0 s.category.objects c i in back_here c (omega (arith, r.1)))

  -- the numbers at an object are those of its elements, and give these
  row_is : (c : ℕ) → c < s.category.objects → get_or (map (λ n. range_with_len 0 n) (TypeFunctor s functors T).sizes) c [] ≡ range_with_len 0 (length (elements s functors T c))
  row_is c object = get_or-map (λ n. range_with_len 0 n) Z.sizes c 0 [] (omega (arith, object, Z_lawful.objects)) ∙ ap (range_with_len 0) (size_is c object)

  pub rows_long : length (map (λ n. range_with_len 0 n) (TypeFunctor s functors T).sizes) ≡ s.category.objects
  rows_long = own_numbers.objects_long

  pub rows_within : (c x : ℕ) → c < length (map (λ n. range_with_len 0 n) (TypeFunctor s functors T).sizes) → In (get_or (map (λ n. range_with_len 0 n) (TypeFunctor s functors T).sizes) c []) x → x < length (elements s functors T c)
  rows_within c x low i =
      let object : c < s.category.objects = omega (arith, low, rows_long) in
      let r = In-range_from 0 (length (elements s functors T c)) x (subst (λ l. In l x) (row_is c object) i) in
      omega (arith, r.1)

  pub rows_values : row (length (map (λ n. range_with_len 0 n) (TypeFunctor s functors T).sizes)) (λ c. map (λ x. get_or (elements s functors T c) x Star) (get_or (map (λ n. range_with_len 0 n) (TypeFunctor s functors T).sizes) c []))
      ≡ map (elements s functors T) (objects_of s.category)
  rows_values =
      ap (λ n. row n (λ c. map (λ x. get_or (elements s functors T c) x Star) (get_or rows c []))) rows_long
      ∙ map_same (λ c. map (λ x. get_or (elements s functors T c) x Star) (get_or rows c [])) (elements s functors T) (objects_of s.category)
      (λ c i.
      let r = In-range_from 0 s.category.objects c i in
      ap (map (λ x. get_or (elements s functors T c) x Star)) (row_is c (omega (arith, r.1))) ∙ map_places Star (λ v. v) (elements s functors T c) ∙ map-id (elements s functors T c))
