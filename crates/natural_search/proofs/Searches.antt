-- One step of the search for all natural assignments.
use Rattle.std.proofs.lemmas.Simd.{map-map}
use Rattle.std.proofs.Common.{◌≡◌, ℕ, zero, suc, ◌+◌, ◌-◌, ◌<◌, ◌≤◌, Bool, false, cond, inl, inr, List, [], ◌∷◌, ◌++◌, map, length, get_or, take, drop, filter, flat_map, refl, sym, ap, ◌∙◌, arith}
use Rattle.std.specs.List.{range_with_len}
use Rattle.std.proofs.lemmas.List.{append-nil, map-append, drop_more, drop_all}
use Rattle.std.proofs.lemmas.List.Elements.{filter-append}
use Rattle.finite_lists.specs.Members.{In}
use Rattle.finite_lists.proofs.Lists.{In-map_from, map_same}
use Rattle.topos_model.specs.presheaves.NaturalMaps.{choices}
use Rattle.natural_search.specs.Search.{assignments, under, under_from, later}

-- the numbers from i up to n
range_from : (i n : ℕ) → i < n → range_with_len i (n - i) ≡ i ∷ range_with_len (i + 1) (n - (i + 1))
range_from i n low =
    let more : n - i ≡ suc (n - (i + 1)) = omega arith in
    ap (range_with_len i) more

-- a filter of joined lists is the joined filters, and so with a map
filter_map-flat_map : {A B C : Type 0} (p : C → Bool) (h : B → C) (f : A → List B) (xs : List A) → filter p (map h (flat_map f xs)) ≡ flat_map (λ x. filter p (map h (f x))) xs
filter_map-flat_map p h f [] = refl
filter_map-flat_map p h f (x ∷ xs) =
    ap (filter p) (map-append h (f x) (flat_map f xs)) ∙ filter-append p (map h (f x)) (map h (flat_map f xs))
    ∙ ap (λ l. filter p (map h (f x)) ++ l) (filter_map-flat_map p h f xs)

flat_map_same : {A B : Type 0} (f g : A → List B) (xs : List A) → ((x : A) → f x ≡ g x) → flat_map f xs ≡ flat_map g xs
flat_map_same f g [] h = refl
flat_map_same f g (x ∷ xs) h = ap (λ l. l ++ flat_map f xs) (h x) ∙ ap (λ l. g x ++ l) (flat_map_same f g xs h)

append_one : (p : List ℕ) (v : ℕ) (rest : List ℕ) → (p ++ v ∷ []) ++ rest ≡ p ++ v ∷ rest
append_one [] v rest = refl
append_one (x ∷ p) v rest = ap (λ l. x ∷ l) (append_one p v rest)

length_one : (p : List ℕ) (v : ℕ) → length (p ++ v ∷ []) ≡ length p + 1
length_one [] v = refl
length_one (x ∷ p) v = omega (arith, length_one p v)

pub none_kept : {A : Type 0} (p : A → Bool) (xs : List A) → ((x : A) → In xs x → p x ≡ false) → filter p xs ≡ []
none_kept p [] h = refl
none_kept p (x ∷ xs) h = ap (λ b. cond b (x ∷ filter p xs) (filter p xs)) (h x (inl refl)) ∙ none_kept p xs (λ y i. h y (inr i))

module _ (natural : List ℕ → Bool) (bounds : List ℕ) where
  -- a whole assignment is the only one that begins with it
  pub under_whole : (p : List ℕ) → length bounds ≤ length p → under natural bounds p ≡ filter natural (p ∷ [])
  unfolding under choices
  under_whole p high =
      ap (λ l. filter natural (map (λ rest. p ++ rest) (assignments l))) (drop_all (length p) bounds high) ∙ ap (λ l. filter natural (l ∷ [])) (append-nil p)

  -- no extension within the bounds is natural
  pub under_none : (p : List ℕ) → ((rest : List ℕ) → In (assignments (drop (length p) bounds)) rest → natural (p ++ rest) ≡ false) → under natural bounds p ≡ []
  unfolding under
  under_none p h =
      none_kept natural (map (λ rest. p ++ rest) (assignments (drop (length p) bounds))) (λ q i.
      let from = In-map_from (λ rest. p ++ rest) (assignments (drop (length p) bounds)) q i in
      sym (ap natural from.2) ∙ h from.0 from.1)

  -- else each number at the next place in turn
  pub under_next : (p : List ℕ) → length p < length bounds → under natural bounds p ≡ under_from natural bounds p 0
  unfolding under under_from choices
  under_next p low =
      ap (λ l. filter natural (map (λ rest. p ++ rest) (assignments l))) (drop_more bounds (length p) 0 low)
      ∙ filter_map-flat_map natural (λ rest. p ++ rest) (λ v. map (λ rest. v ∷ rest) left) (range_with_len 0 (get_or bounds (length p) 0))
      ∙ flat_map_same _ _ (range_with_len 0 (get_or bounds (length p) 0)) (λ v.
      ap (filter natural) (map-map (λ rest. p ++ rest) (λ rest. v ∷ rest) left ∙ map_same _ _ left (λ rest i. sym (append_one p v rest)))
      ∙ ap (λ n. filter natural (map (λ rest. (p ++ v ∷ []) ++ rest) (assignments (drop n bounds)))) (sym (length_one p v)))
      ∙ ap (λ n. flat_map (λ w. filter natural (map (λ rest. (p ++ w ∷ []) ++ rest) (assignments (drop (length (p ++ w ∷ [])) bounds)))) (range_with_len 0 n)) whole
    where
      left : List (List ℕ)
      left = assignments (drop (length p + 1) bounds)

      whole : get_or bounds (length p) 0 ≡ get_or bounds (length p) 0 - 0
      whole = omega arith

  pub under_from-more : (p : List ℕ) (v : ℕ) → v < get_or bounds (length p) 0 → under_from natural bounds p v ≡ under natural bounds (p ++ v ∷ []) ++ under_from natural bounds p (v + 1)
  unfolding under_from
  under_from-more p v low = ap (flat_map (λ w. under natural bounds (p ++ w ∷ []))) (range_from v (get_or bounds (length p) 0) low)

  pub under_from-end : (p : List ℕ) (v : ℕ) → get_or bounds (length p) 0 ≤ v → under_from natural bounds p v ≡ []
  unfolding under_from
  under_from-end p v high =
      let none : get_or bounds (length p) 0 - v ≡ 0 = omega arith in
      ap (λ n. flat_map (λ w. under natural bounds (p ++ w ∷ [])) (range_with_len v n)) none

  -- only the first d numbers count
  pub later_same : (values other : List ℕ) (d : ℕ) → ((e : ℕ) → e < d → (take e values ≡ take e other) × (get_or values e 0 ≡ get_or other e 0)) → later natural bounds values d ≡ later natural bounds other d
  unfolding later
  later_same values other zero h = refl
  later_same values other (suc d) h =
      let here = h d (omega arith) in
      ap (λ p. under_from natural bounds p (get_or values d 0 + 1) ++ later natural bounds values d) here.0
      ∙ ap (λ n. under_from natural bounds (take d other) (n + 1) ++ later natural bounds values d) here.1
      ∙ ap (λ l. under_from natural bounds (take d other) (get_or other d 0 + 1) ++ l) (later_same values other d (λ e low. h e (omega arith)))
