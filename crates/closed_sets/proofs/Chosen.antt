-- The sets of places of a list choose its sublists, in order.
use Rattle.std.proofs.Common.{◌≡◌, Bool, true, false, cond, List, [], ◌∷◌, ◌++◌, length, map, filter, refl, ap, ◌∙◌}
use Rattle.std.proofs.lemmas.List.{map-append}
use Rattle.finite_lists.specs.Members.{In}
use Rattle.finite_lists.specs.Sublists.{sublists}
use Rattle.finite_lists.proofs.Lists.{filter_same}
use Rattle.closed_sets.specs.Closed.{bits, chosen, is_closed, closed_lists}

chosen_without : {A : Type 0} (x : A) (xs : List A) (rs : List (List Bool)) → map (chosen (x ∷ xs)) (map (λ r. false ∷ r) rs) ≡ map (chosen xs) rs
unfolding chosen
chosen_without x xs [] = refl
chosen_without x xs (r ∷ rs) = ap (λ t. chosen xs r ∷ t) (chosen_without x xs rs)

chosen_with : {A : Type 0} (x : A) (xs : List A) (rs : List (List Bool)) → map (chosen (x ∷ xs)) (map (λ r. true ∷ r) rs) ≡ map (λ s. x ∷ s) (map (chosen xs) rs)
unfolding chosen
chosen_with x xs [] = refl
chosen_with x xs (r ∷ rs) = ap (λ t. (x ∷ chosen xs r) ∷ t) (chosen_with x xs rs)

pub chosen-bits : {A : Type 0} (xs : List A) → map (chosen xs) (bits (length xs)) ≡ sublists xs
unfolding chosen bits sublists
chosen-bits [] = refl
chosen-bits (x ∷ xs) =
    let ih = chosen-bits xs in
    map-append (chosen (x ∷ xs)) (map (λ r. false ∷ r) (bits (length xs))) (map (λ r. true ∷ r) (bits (length xs)))
    ∙ ap (λ t. t ++ map (chosen (x ∷ xs)) (map (λ r. true ∷ r) (bits (length xs)))) (chosen_without x xs (bits (length xs)) ∙ ih)
    ∙ ap (λ t. sublists xs ++ t) (chosen_with x xs (bits (length xs)) ∙ ap (map (λ s. x ∷ s)) ih)

filter_map : {A B : Type 0} (f : A → B) (p : B → Bool) (xs : List A) → map f (filter (λ x. p (f x)) xs) ≡ filter p (map f xs)
filter_map f p [] = refl
filter_map {A} {B} f p (x ∷ xs) = at (p (f x)) (filter_map f p xs)
  where
    at : (b : Bool) → map f (filter (λ x. p (f x)) xs) ≡ filter p (map f xs) →
        map f (cond b (x ∷ filter (λ x. p (f x)) xs) (filter (λ x. p (f x)) xs)) ≡ cond b (f x ∷ filter p (map f xs)) (filter p (map f xs))
    at true e = ap (λ t. f x ∷ t) e
    at false e = e

-- the closed sets choose the sublists that pass the test
pub chosen-closed : {A : Type 0} (xs : List A) (closure : List Bool → List Bool) (passes : List A → Bool) →
    ((a : List Bool) → In (bits (length xs)) a → is_closed closure a ≡ passes (chosen xs a)) →
    map (chosen xs) (closed_lists (length xs) closure) ≡ filter passes (sublists xs)
unfolding closed_lists
chosen-closed xs closure passes h =
    ap (map (chosen xs)) (filter_same (is_closed closure) (λ a. passes (chosen xs a)) (bits (length xs)) h)
    ∙ filter_map (chosen xs) passes (bits (length xs)) ∙ ap (filter passes) (chosen-bits xs)
