-- Functors and maps as they are shown, and lists of maps.
use Rattle.std.proofs.Common.{◌≡◌, ℕ, ◌+◌, ◌*◌, ◌/◌, ◌<◌, ◌≤◌, List, [], ◌∷◌, ◌++◌, map, length, get_or, take, drop, sum, refl, sym, ap, ap₂, ◌∙◌, append-nil, arith}
use Rattle.std.specs.List.{range_with_len}
use Rattle.std.proofs.lemmas.List.{drop_all, take_more, get_or_default}
use Rattle.std.proofs.lemmas.List.Sums.{sum_by-append}
use Rattle.std.proofs.lemmas.List.FromFn.{map-range_with_len_more}
use Rattle.topos_model.specs.declared.value.Val.{Val, El, Star}
use Rattle.topos_model.specs.declared.answer.Shape.{Shape}
use Rattle.topos_model.specs.categories.Category.{Category}
use Rattle.topos_model.specs.types.Types.{Presheaf}
use Rattle.topos_model.specs.statements.Cells.{hom_cells}
use Rattle.topos_model.specs.statements.Answers.{shape_of, map_shape, functor_map, element_pairs, numbers_with, with_numbers}
use Rattle.topos_model.specs.presheaves.Maps.{Components}
use Rattle.topos_session.specs.Declarations.{declared_between}
use Rattle.topos_session.specs.Constructions.{between}
use Rattle.natural_maps.proofs.CellSums.{more_than_share, within_share}

pub functor_shown : (k : Category) (X : Presheaf) (sizes : List ℕ) (along : List (List ℕ)) (n : ℕ) → sizes ≡ X.sizes → (along ++ drop n X.along) ≡ drop k.objects X.along → length X.along ≤ n →
    ◌≡◌ {A = Shape} (record { sizes = sizes; along = along }) (shape_of k X)
unfolding shape_of
functor_shown k X sizes along n same rows whole =
    let all : along ≡ drop k.objects X.along = sym (append-nil along) ∙ ap (λ (l : List (List ℕ)). along ++ l) (sym (drop_all n X.along whole)) ∙ rows in
    rw (same, all) refl

-- the first elements with their images
pub first_pairs : (images : List ℕ) (x d : ℕ) (pairs : List (Val × Val)) → x < length images → pairs ≡ map (λ x. (El x, El (get_or images x 0))) (range_with_len 0 x) →
    (pairs ++ (El x, El (get_or images x d)) ∷ []) ≡ map (λ x. (El x, El (get_or images x 0))) (range_with_len 0 (x + 1))
first_pairs images x d pairs low first =
    ap (λ (l : List (Val × Val)). l ++ (El x, El (get_or images x d)) ∷ []) first
    ∙ ap (λ (y : ℕ). map (λ x. (El x, El (get_or images x 0))) (range_with_len 0 x) ++ (El x, El y) ∷ []) (get_or_default images x d 0 low)
    ∙ sym (map-range_with_len_more (λ (x : ℕ). (El x, El (get_or images x 0))) 0 x x (omega arith))

pub all_pairs : (images : List ℕ) (x : ℕ) (pairs : List (Val × Val)) → length images ≡ x → pairs ≡ map (λ x. (El x, El (get_or images x 0))) (range_with_len 0 x) → pairs ≡ element_pairs images
unfolding element_pairs
all_pairs images x pairs whole first = first ∙ ap (λ n. map (λ x. (El x, El (get_or images x 0))) (range_with_len 0 n)) (sym whole)

-- maps between the functors x and y as they are shown
pub maps_shown : (x y : ℕ) (maps : List Components) → map (λ m. map_shape (declared_between (between x y m))) maps ≡ map (λ m. map_shape (functor_map x y m)) maps
unfolding functor_map
maps_shown x y maps = refl

-- the sum of some numbers and the next
pub sum_more : (xs : List ℕ) (i : ℕ) → i < length xs → sum (take i xs) + get_or xs i 0 ≡ sum (take (i + 1) xs)
sum_more xs i low = sym (ap sum (take_more xs i 0 low) ∙ sum_by-append (λ x. x) (take i xs) (get_or xs i 0 ∷ []) ∙ alone (sum (take i xs)) (get_or xs i 0))
  where
    alone : (a b : ℕ) → a + sum (b ∷ []) ≡ a + b
    alone a b = omega arith

-- more maps than fit cost more than the budget
pub too_many : (X : Presheaf) (n budget : ℕ) → budget / (1 + sum X.sizes) < n → budget < hom_cells n X
unfolding hom_cells
too_many X n budget many = more_than_share budget n (sum X.sizes) many

pub hom_cost : (X : Presheaf) (n : ℕ) → n * (1 + sum X.sizes) ≡ hom_cells n X
unfolding hom_cells
hom_cost X n = refl

pub not_too_many : (X : Presheaf) (n budget : ℕ) → n ≤ budget / (1 + sum X.sizes) → n * (1 + sum X.sizes) ≤ budget
not_too_many X n budget few = within_share budget n (sum X.sizes) few

-- the first pairs of a list that is given by the numbers, with the next one
pub next_pair : (f : ℕ → Val × Val) (n : ℕ) (pairs : List (Val × Val)) (p : Val × Val) → p ≡ f n → pairs ≡ map f (range_with_len 0 n) → (pairs ++ p ∷ []) ≡ map f (range_with_len 0 (n + 1))
next_pair f n pairs p next first = ap₂ (λ (l : List (Val × Val)) (q : Val × Val). l ++ q ∷ []) first next ∙ sym (map-range_with_len_more f 0 n n (omega arith))

-- numbers with their values, and values with their numbers
pub all_numbers_with : (values : List Val) (n : ℕ) (pairs : List (Val × Val)) → length values ≡ n → pairs ≡ map (λ n. (El n, get_or values n Star)) (range_with_len 0 n) → pairs ≡ numbers_with values
unfolding numbers_with
all_numbers_with values n pairs whole first = first ∙ ap (λ m. map (λ n. (El n, get_or values n Star)) (range_with_len 0 m)) (sym whole)

pub all_with_numbers : (values : List Val) (n : ℕ) (pairs : List (Val × Val)) → length values ≡ n → pairs ≡ map (λ n. (get_or values n Star, El n)) (range_with_len 0 n) → pairs ≡ with_numbers values
unfolding with_numbers
all_with_numbers values n pairs whole first = first ∙ ap (λ m. map (λ n. (get_or values n Star, El n)) (range_with_len 0 m)) (sym whole)
