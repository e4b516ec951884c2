-- The numbers of what is true among the first so many, one after another.
use Rattle.std.proofs.Common.{◌≡◌, ℕ, ◌+◌, ◌<◌, ◌≤◌, Bool, true, false, List, [], ◌∷◌, ◌++◌, length, get_or, map, filter, take, sym, ap, ◌∙◌, arith}
use Rattle.std.specs.List.{range_with_len}
use Rattle.std.proofs.lemmas.Bool.{cond-true, cond-false}
use Rattle.std.proofs.lemmas.List.{length-map, ext_get_or, length-take-le, get_or-take, append-nil}
use Rattle.std.proofs.lemmas.List.Elements.{filter-append}
use Rattle.std.proofs.lemmas.List.Sums.{length-filter, count_by-le-length}
use Rattle.std.proofs.lemmas.List.FromFn.{length-map-range_with_len, get_or-map-range_with_len, length-range_with_len}
use Rattle.term_objects.proofs.NumberTables.{range_more}
use Rattle.term_objects.proofs.KeptElements.{filter_map}

abbrev pub numbers_to : List Bool → ℕ → List ℕ
numbers_to truths n = filter (λ x. get_or truths x false) (range_with_len 0 n)

-- how many before a place are true
abbrev pub count_to : List Bool → ℕ → ℕ
count_to truths x = length (filter (λ t. t) (take x truths))

module _ (truths : List Bool) where
  take_is : (n : ℕ) → n ≤ length truths → take n truths ≡ map (λ x. get_or truths x false) (range_with_len 0 n)
  take_is n low =
      let long : length (take n truths) ≡ n = length-take-le n truths low in
      ext_get_or false (take n truths) (map (λ x. get_or truths x false) (range_with_len 0 n)) (long ∙ sym (length-map-range_with_len (λ x. get_or truths x false) 0 n))
      (λ i inside. let here : i < n = omega (arith, inside, long) in get_or-take n truths i false here ∙ sym (get_or-map-range_with_len (λ x. get_or truths x false) 0 n i i false here (omega arith)))

  pub count_is : (n : ℕ) → n ≤ length truths → length (numbers_to truths n) ≡ count_to truths n
  count_is n low =
      sym (ap length (ap (filter (λ t. t)) (take_is n low) ∙ filter_map (λ t. t) (λ x. get_or truths x false) (range_with_len 0 n)) ∙ length-map (numbers_to truths n) (λ x. get_or truths x false))

  pub numbers_few : (n : ℕ) → length (numbers_to truths n) ≤ n
  numbers_few n =
      let h = count_by-le-length (λ x. get_or truths x false) (range_with_len 0 n) in
      omega (arith, h, length-filter (λ x. get_or truths x false) (range_with_len 0 n), length-range_with_len 0 n)

  split : (n : ℕ) → numbers_to truths (n + 1) ≡ numbers_to truths n ++ filter (λ x. get_or truths x false) (n ∷ [])
  split n = ap (filter (λ x. get_or truths x false)) (range_more n) ∙ filter-append (λ x. get_or truths x false) (range_with_len 0 n) (n ∷ [])

  pub numbers_more : (n : ℕ) → get_or truths n false ≡ true → numbers_to truths (n + 1) ≡ numbers_to truths n ++ n ∷ []
  numbers_more n e = split n ∙ ap (λ l. numbers_to truths n ++ l) (cond-true (get_or truths n false) (n ∷ []) [] e)

  pub numbers_same : (n : ℕ) → get_or truths n false ≡ false → numbers_to truths (n + 1) ≡ numbers_to truths n
  numbers_same n e = split n ∙ ap (λ l. numbers_to truths n ++ l) (cond-false (get_or truths n false) (n ∷ []) [] e) ∙ append-nil (numbers_to truths n)
