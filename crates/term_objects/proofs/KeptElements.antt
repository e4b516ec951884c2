-- Values that satisfy a test, by their numbers among all and among themselves.
use Rattle.std.proofs.Common.{◌≡◌, ℕ, zero, suc, ◌<◌, Bool, true, false, inl, inr, List, [], ◌∷◌, length, get_or, map, filter, take, refl, sym, ap, subst, ◌∙◌, arith}
use Rattle.std.specs.List.{range_with_len}
use Rattle.std.proofs.lemmas.Bool.{cases_Bool, cond-true, cond-false}
use Rattle.std.proofs.lemmas.List.{length-map, get_or-map, map-id}
use Rattle.std.proofs.lemmas.List.FromFn.{get_or-map-range_with_len}
use Rattle.finite_lists.specs.Members.{Distinct}
use Rattle.finite_lists.proofs.Lists.{filter_same}
use Rattle.finite_lists.proofs.DistinctLists.{In-range_from, Distinct-filter}
use Rattle.topos_model.specs.declared.value.Val.{Val, Star}
use Rattle.type_laws.specs.Numbered.{place_of}
use Rattle.type_laws.proofs.Numbering.{place_of_at}
use Rattle.term_objects.specs.KeptElements.{true_numbers, true_counts}
use Rattle.term_objects.proofs.NumberTables.{map_places}

pub filter_map : {A B : Type 0} (p : B → Bool) (f : A → B) (xs : List A) → filter p (map f xs) ≡ map f (filter (λ x. p (f x)) xs)
filter_map p f [] = refl
filter_map p f (x ∷ xs) = elim (cases_Bool (p (f x))) [
  | inl e ↦ cond-true (p (f x)) (f x ∷ filter p (map f xs)) (filter p (map f xs)) e ∙ ap (λ l. f x ∷ l) (filter_map p f xs) ∙ sym (ap (map f) (cond-true (p (f x)) (x ∷ filter (λ x. p (f x)) xs) (filter (λ x. p (f x)) xs) e))
  | inr e ↦ cond-false (p (f x)) (f x ∷ filter p (map f xs)) (filter p (map f xs)) e ∙ filter_map p f xs ∙ sym (ap (map f) (cond-false (p (f x)) (x ∷ filter (λ x. p (f x)) xs) (filter (λ x. p (f x)) xs) e))
]

module _ (p : Val → Bool) (xs : List Val) where
  -- the values that are kept, by their numbers
  pub kept_values : filter p xs ≡ map (λ x. get_or xs x Star) (filter (λ x. p (get_or xs x Star)) (range_with_len 0 (length xs)))
  kept_values =
      ap (filter p) (sym (map_places Star (λ v. v) xs ∙ map-id xs)) ∙ filter_map p (λ x. get_or xs x Star) (range_with_len 0 (length xs))

  -- these are the numbers that are true
  pub kept_numbers : true_numbers (map p xs) ≡ filter (λ x. p (get_or xs x Star)) (range_with_len 0 (length xs))
  unfolding true_numbers
  kept_numbers =
      ap (λ n. filter (λ x. get_or (map p xs) x false) (range_with_len 0 n)) (length-map xs p)
      ∙ filter_same _ _ (range_with_len 0 (length xs)) (λ x i. let r = In-range_from 0 (length xs) x i in get_or-map p xs x Star false (omega (arith, r.1)))

-- how many are kept before a place
count_mapped : (p : Val → Bool) (xs : List Val) (y : ℕ) → length (filter (λ t. t) (take y (map p xs))) ≡ length (filter p (take y xs))
count_mapped p [] zero = refl
count_mapped p [] (suc y) = refl
count_mapped p (x ∷ xs) zero = refl
count_mapped p (x ∷ xs) (suc y) = elim (cases_Bool (p x)) [
  | inl e ↦
      ap length (cond-true (p x) (p x ∷ filter (λ t. t) (take y (map p xs))) (filter (λ t. t) (take y (map p xs))) e) ∙ ap suc (count_mapped p xs y)
      ∙ sym (ap length (cond-true (p x) (x ∷ filter p (take y xs)) (filter p (take y xs)) e))
  | inr e ↦
      ap length (cond-false (p x) (p x ∷ filter (λ t. t) (take y (map p xs))) (filter (λ t. t) (take y (map p xs))) e) ∙ count_mapped p xs y
      ∙ sym (ap length (cond-false (p x) (x ∷ filter p (take y xs)) (filter p (take y xs)) e))
]

-- the value at a place stands in these lists, kept and kept before it
abbrev IsAt : Val → List Val → List Val → Type 0
IsAt v all before = (length before < length all) × (get_or all (length before) Star ≡ v)

kept_at : (p : Val → Bool) (xs : List Val) (y : ℕ) → y < length xs → p (get_or xs y Star) ≡ true → IsAt (get_or xs y Star) (filter p xs) (filter p (take y xs))
kept_at p [] y low h = absurd (omega (arith, low))
kept_at p (x ∷ xs) zero low h = subst (λ l. IsAt x l []) (sym (cond-true (p x) (x ∷ filter p xs) (filter p xs) h)) (omega arith, refl)
kept_at p (x ∷ xs) (suc y) low h =
    let rest = kept_at p xs y (omega (arith, low)) h in
    let v = get_or xs y Star in
    elim (cases_Bool (p x)) [
      | inl e ↦
          subst (λ l. IsAt v l (filter p (take (suc y) (x ∷ xs)))) (sym (cond-true (p x) (x ∷ filter p xs) (filter p xs) e))
          (subst (λ l. IsAt v (x ∷ filter p xs) l) (sym (cond-true (p x) (x ∷ filter p (take y xs)) (filter p (take y xs)) e)) (let r = rest.0 in omega (arith, r), rest.1))
      | inr e ↦
          subst (λ l. IsAt v l (filter p (take (suc y) (x ∷ xs)))) (sym (cond-false (p x) (x ∷ filter p xs) (filter p xs) e))
          (subst (λ l. IsAt v (filter p xs) l) (sym (cond-false (p x) (x ∷ filter p (take y xs)) (filter p (take y xs)) e)) rest)
    ]

module _ (p : Val → Bool) (xs : List Val) (y : ℕ) (low : y < length xs) where
  count_at : get_or (true_counts (map p xs)) y 0 ≡ length (filter p (take y xs))
  unfolding true_counts
  count_at =
      get_or-map-range_with_len (λ x. length (filter (λ t. t) (take x (map p xs)))) 0 (length (map p xs)) y y 0 (omega (arith, low, length-map xs p)) (omega arith)
      ∙ count_mapped p xs y

  -- the place of a kept value among those that are kept
  pub kept_place : Distinct xs → p (get_or xs y Star) ≡ true → place_of (get_or xs y Star) (filter p xs) ≡ get_or (true_counts (map p xs)) y 0
  kept_place once h =
      let k = kept_at p xs y low h in
      ap (λ v. place_of v (filter p xs)) (sym k.1) ∙ place_of_at (filter p xs) (length (filter p (take y xs))) Star (Distinct-filter p xs once) k.0 ∙ sym count_at
