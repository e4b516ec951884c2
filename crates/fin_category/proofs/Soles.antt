-- The only member of a filtered list, found by one pass.
use Rattle.std.proofs.Common.{◌≡◌, ℕ, ◌+◌, ◌<◌, ◌≤◌, Bool, true, false, cond, List, ◌∷◌, length, get_or, drop, filter, Option, Some, None, ap, ◌∙◌}
use Rattle.std.proofs.lemmas.List.{drop_more, drop_all}
use Rattle.fin_category.specs.Filling.{sole, sole_before}

-- the only member, of which one may be found before the rest
abbrev pub sole_with : Option ℕ → List ℕ → Option ℕ
sole_with None xs = sole xs
sole_with (Some x) xs = sole_before x xs

pub sole_with-passed : (p : ℕ → Bool) (found : Option ℕ) (xs : List ℕ) (i : ℕ) → i < length xs → p (get_or xs i 0) ≡ false → sole_with found (filter p (drop i xs)) ≡ sole_with found (filter p (drop (i + 1) xs))
sole_with-passed p found xs i low e =
    ap (λ (l : List ℕ). sole_with found (filter p l)) (drop_more xs i 0 low)
    ∙ ap (λ (b : Bool). sole_with found (cond b (get_or xs i 0 ∷ filter p (drop (i + 1) xs)) (filter p (drop (i + 1) xs)))) e

pub sole_with-found : (p : ℕ → Bool) (xs : List ℕ) (i : ℕ) → i < length xs → p (get_or xs i 0) ≡ true → sole_with None (filter p (drop i xs)) ≡ sole_with (Some (get_or xs i 0)) (filter p (drop (i + 1) xs))
sole_with-found p xs i low e =
    ap (λ (l : List ℕ). sole_with None (filter p l)) (drop_more xs i 0 low)
    ∙ ap (λ (b : Bool). sole_with None (cond b (get_or xs i 0 ∷ filter p (drop (i + 1) xs)) (filter p (drop (i + 1) xs)))) e

pub sole_with-second : (p : ℕ → Bool) (x : ℕ) (xs : List ℕ) (i : ℕ) → i < length xs → p (get_or xs i 0) ≡ true → sole_with (Some x) (filter p (drop i xs)) ≡ None
sole_with-second p x xs i low e =
    ap (λ (l : List ℕ). sole_with (Some x) (filter p l)) (drop_more xs i 0 low)
    ∙ ap (λ (b : Bool). sole_with (Some x) (cond b (get_or xs i 0 ∷ filter p (drop (i + 1) xs)) (filter p (drop (i + 1) xs)))) e

pub sole_with-end : (p : ℕ → Bool) (found : Option ℕ) (xs : List ℕ) (i : ℕ) → length xs ≤ i → sole_with found (filter p (drop i xs)) ≡ found
sole_with-end p None xs i h = ap (λ (l : List ℕ). sole (filter p l)) (drop_all i xs h)
sole_with-end p (Some x) xs i h = ap (λ (l : List ℕ). sole_before x (filter p l)) (drop_all i xs h)
