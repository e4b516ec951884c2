-- The places of the members of a list.
use Rattle.std.proofs.Common.{◌≡◌, ℕ, suc, ◌+◌, ◌<◌, Bool, true, false, cond, eqb, List, [], ◌∷◌, ◌++◌, length, get_or, map, filter, refl, sym, ap, subst, ◌∙◌, arith}
use Rattle.std.specs.List.{list_all, range_with_len}
use Rattle.std.proofs.lemmas.Bool.{eqb-true, eq-eqb, ne_eqb}
use Rattle.std.proofs.lemmas.List.{map-id, length-map, length_push, append_assoc, append-nil, get_or-append-add}
use Rattle.std.proofs.lemmas.List.FromFn.{filter_of_map_range_with_len_more}
use Rattle.finite_lists.specs.Members.{In, Distinct}
use Rattle.finite_lists.proofs.Lists.{In-filter_from, sublist_kept, some_any, any_some}
use Rattle.finite_lists.proofs.DistinctLists.{In-range_from}
use Rattle.finite_lists.specs.Sublists.{sublists}
use Rattle.topos_model.specs.categories.Category.{has}
use Rattle.site_stages.specs.Places.{places_among}

pub kept_more : (p : ℕ → Bool) (j : ℕ) → filter p (range_with_len 0 (j + 1)) ≡ filter p (range_with_len 0 j) ++ cond (p j) (j ∷ []) []
kept_more p j =
    sym (ap (filter p) (map-id (range_with_len 0 (j + 1)))) ∙ filter_of_map_range_with_len_more p (λ i. i) 0 j j (omega arith)
    ∙ ap (λ l. filter p l ++ cond (p j) (j ∷ []) []) (map-id (range_with_len 0 j))

pub kept_there : (p : ℕ → Bool) (j : ℕ) (before after : List ℕ) → before ≡ filter p (range_with_len 0 j) → p j ≡ true → after ≡ before ++ j ∷ [] → after ≡ filter p (range_with_len 0 (j + 1))
kept_there p j before after b here a = a ∙ ap (λ l. l ++ j ∷ []) b ∙ sym (kept_more p j ∙ ap (λ t. filter p (range_with_len 0 j) ++ cond t (j ∷ []) []) here)

pub kept_not : (p : ℕ → Bool) (j : ℕ) (before : List ℕ) → before ≡ filter p (range_with_len 0 j) → p j ≡ false → before ≡ filter p (range_with_len 0 (j + 1))
kept_not p j before b here = b ∙ sym (kept_more p j ∙ ap (λ t. filter p (range_with_len 0 j) ++ cond t (j ∷ []) []) here ∙ append-nil (filter p (range_with_len 0 j)))

-- the members at places that pass are the members that pass
at_places : (p : ℕ → Bool) (front xs : List ℕ) →
    map (λ j. get_or (front ++ xs) j 0) (filter (λ j. p (get_or (front ++ xs) j 0)) (range_with_len (length front) (length xs))) ≡ filter p xs
at_places p front [] = refl
at_places p front (x ∷ xs) =
    let whole : front ++ x ∷ xs ≡ (front ++ x ∷ []) ++ xs = sym (append_assoc front (x ∷ []) xs) in
    let long : length (front ++ x ∷ []) ≡ length front + 1 = length_push front x in
    let rest : map (λ j. get_or (front ++ x ∷ xs) j 0) (filter (λ j. p (get_or (front ++ x ∷ xs) j 0)) (range_with_len (length front + 1) (length xs))) ≡ filter p xs =
    subst (λ (l : List ℕ). map (λ j. get_or l j 0) (filter (λ j. p (get_or l j 0)) (range_with_len (length front + 1) (length xs))) ≡ filter p xs) (sym whole)
    (subst (λ n. map (λ j. get_or ((front ++ x ∷ []) ++ xs) j 0) (filter (λ j. p (get_or ((front ++ x ∷ []) ++ xs) j 0)) (range_with_len n (length xs))) ≡ filter p xs) long (at_places p (front ++ x ∷ []) xs)) in
    let here : get_or (front ++ x ∷ xs) (length front) 0 ≡ x = let z : length front + 0 ≡ length front = omega arith in ap (λ n. get_or (front ++ x ∷ xs) n 0) (sym z) ∙ get_or-append-add front (x ∷ xs) 0 0 in
    at (p x) (ap p here) refl here rest
  where
    at : (b : Bool) → p (get_or (front ++ x ∷ xs) (length front) 0) ≡ p x → p x ≡ b → get_or (front ++ x ∷ xs) (length front) 0 ≡ x →
        map (λ j. get_or (front ++ x ∷ xs) j 0) (filter (λ j. p (get_or (front ++ x ∷ xs) j 0)) (range_with_len (length front + 1) (length xs))) ≡ filter p xs →
        map (λ j. get_or (front ++ x ∷ xs) j 0) (cond (p (get_or (front ++ x ∷ xs) (length front) 0)) (length front ∷ filter (λ j. p (get_or (front ++ x ∷ xs) j 0)) (range_with_len (length front + 1) (length xs))) (filter (λ j. p (get_or (front ++ x ∷ xs) j 0)) (range_with_len (length front + 1) (length xs))))
        ≡ cond (p x) (x ∷ filter p xs) (filter p xs)
    at true e t here rest = rw (e, t) (ap (λ y. y ∷ map (λ j. get_or (front ++ x ∷ xs) j 0) (filter (λ j. p (get_or (front ++ x ∷ xs) j 0)) (range_with_len (length front + 1) (length xs)))) here ∙ ap (λ l. x ∷ l) rest)
    at false e t here rest = rw (e, t) rest

pub places_are : (xs ys : List ℕ) → Distinct xs → In (sublists xs) ys → map (λ j. get_or xs j 0) (places_among xs ys) ≡ ys
unfolding places_among
places_are xs ys d l =
    at_places (λ x. has x ys) [] xs
    ∙ sublist_kept (λ x. has x ys) xs ys d l
    (λ x i e. let (y, there, same) = any_some (eqb x) ys e in subst (In ys) (sym (eqb-true x y same)) there)
    (λ x i. some_any (eqb x) ys x i (eq-eqb x x refl))

pub places_within : (xs ys : List ℕ) (j : ℕ) → In (places_among xs ys) j → j < length xs
unfolding places_among
places_within xs ys j i = let r = In-filter_from _ (range_with_len 0 (length xs)) j i in let b = In-range_from 0 (length xs) j r.0 in omega (arith, b.1)

pub places_count : (xs ys : List ℕ) → Distinct xs → In (sublists xs) ys → length (places_among xs ys) ≡ length ys
places_count xs ys d l = sym (length-map (places_among xs ys) (λ j. get_or xs j 0)) ∙ ap length (places_are xs ys d l)

pub none_is_empty : (xs : List ℕ) → eqb (length xs) 0 ≡ list_all (λ f. false) xs
none_is_empty [] = refl
none_is_empty (x ∷ xs) = ne_eqb (suc (length xs)) 0 (λ e. omega arith)
