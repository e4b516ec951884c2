-- All natural maps are the natural assignments, cut into components.
use Rattle.std.proofs.Common.{◌≡◌, ℕ, zero, suc, ◌+◌, Bool, true, false, cond, inl, inr, List, [], ◌∷◌, ◌++◌, map, length, take, drop, filter, flat_map, replicate, refl, sym, ap, ◌∙◌, arith}
use Rattle.std.specs.List.{range_with_len}
use Rattle.std.proofs.lemmas.List.{append-nil, map-append}
use Rattle.std.proofs.lemmas.Grind.{flat_map-append}
use Rattle.std.proofs.lemmas.List.Folds.{flat_map-map}
use Rattle.finite_lists.specs.Members.{In}
use Rattle.finite_lists.proofs.Lists.{map_same}
use Rattle.topos_model.specs.categories.Category.{Category}
use Rattle.topos_model.specs.types.Types.{Presheaf}
use Rattle.topos_model.specs.Laws.{size}
use Rattle.topos_model.specs.presheaves.NaturalMaps.{choices, rows, all_components, is_natural_map, maps}
use Rattle.natural_maps.specs.Places.{cut}
use Rattle.natural_search.specs.Search.{assignments}
use Rattle.natural_search.proofs.ListChoices.{In-choices_from}
use Rattle.natural_maps.specs.Search.{bounds_of, sizes_of, is_natural}
use Rattle.std.proofs.lemmas.Simd.{map-map}

map_alike : {A : Type 0} (f : A → A) (xs : List A) → ((x : A) → f x ≡ x) → map f xs ≡ xs
map_alike f [] h = refl
map_alike f (x ∷ xs) h = ap (λ y. y ∷ map f xs) (h x) ∙ ap (λ l. x ∷ l) (map_alike f xs h)

pub joined_joined : {A B C : Type 0} (g : B → List C) (f : A → List B) (xs : List A) → flat_map g (flat_map f xs) ≡ flat_map (λ x. flat_map g (f x)) xs
joined_joined g f [] = refl
joined_joined g f (x ∷ xs) = flat_map-append g (f x) (flat_map f xs) ∙ ap (λ l. flat_map g (f x) ++ l) (joined_joined g f xs)

pub map_joined : {A B C : Type 0} (h : B → C) (g : A → List B) (xs : List A) → map h (flat_map g xs) ≡ flat_map (λ x. map h (g x)) xs
map_joined h g [] = refl
map_joined h g (x ∷ xs) = map-append h (g x) (flat_map g xs) ∙ ap (λ l. map h (g x) ++ l) (map_joined h g xs)

joined_same : {A B : Type 0} (f g : A → List B) (xs : List A) → ((x : A) → In xs x → f x ≡ g x) → flat_map f xs ≡ flat_map g xs
joined_same f g [] h = refl
joined_same f g (x ∷ xs) h = ap (λ l. l ++ flat_map f xs) (h x (inl refl)) ∙ ap (λ l. g x ++ l) (joined_same f g xs (λ y i. h y (inr i)))

filter_of_map : {A B : Type 0} (p : B → Bool) (f : A → B) (xs : List A) → filter p (map f xs) ≡ map f (filter (λ x. p (f x)) xs)
filter_of_map p f [] = refl
filter_of_map {A} {B} p f (x ∷ xs) = at (p (f x)) (filter_of_map p f xs)
  where
    at : (b : Bool) → filter p (map f xs) ≡ map f (filter (λ x. p (f x)) xs) → cond b (f x ∷ filter p (map f xs)) (filter p (map f xs)) ≡ map f (cond b (x ∷ filter (λ x. p (f x)) xs) (filter (λ x. p (f x)) xs))
    at true e = ap (λ l. f x ∷ l) e
    at false e = e

-- a choice of two runs of lists is a choice of the first and then one of the second
pub choices_append : {A : Type 0} (xss yss : List (List A)) → choices (xss ++ yss) ≡ flat_map (λ a. map (λ b. a ++ b) (choices yss)) (choices xss)
unfolding choices
choices_append [] yss = sym (append-nil (map (λ b. b) (choices yss)) ∙ map_alike (λ b. b) (choices yss) (λ b. refl))
choices_append {A} (xs ∷ xss) yss =
    joined_same (λ x. map (λ b. x ∷ b) (choices (xss ++ yss))) (λ x. flat_map (λ a. map (λ b. a ++ b) (choices yss)) (map (λ a. x ∷ a) (choices xss))) xs (λ x i.
    ap (map (λ b. x ∷ b)) (choices_append xss yss) ∙ map_joined (λ b. x ∷ b) (λ a. map (λ b. a ++ b) (choices yss)) (choices xss)
    ∙ joined_same (λ a. map (λ b. x ∷ b) (map (λ b. a ++ b) (choices yss))) (λ a. map (λ b. x ∷ a ++ b) (choices yss)) (choices xss) (λ a j. map-map (λ b. x ∷ b) (λ b. a ++ b) (choices yss))
    ∙ sym (flat_map-map (λ a. map (λ b. a ++ b) (choices yss)) (λ a. x ∷ a) (choices xss)))
    ∙ sym (joined_joined (λ a. map (λ b. a ++ b) (choices yss)) (λ x. map (λ a. x ∷ a) (choices xss)) xs)

abbrev joined : {A : Type 0} → List (List A) → List A
joined [] = []
joined (xs ∷ rest) = xs ++ joined rest

cut_first : {A : Type 0} (n : ℕ) (sizes : List ℕ) (a b : List A) → length a ≡ n → cut (n ∷ sizes) (a ++ b) ≡ a ∷ cut sizes b
cut_first zero sizes [] b e = refl
cut_first zero sizes (x ∷ a) b e = absurd (omega arith)
cut_first (suc n) sizes [] b e = absurd (omega arith)
cut_first {A} (suc n) sizes (x ∷ a) b e = more (cut_first n sizes a b (omega arith))
  where
    head : {B : Type 0} → List B → B → B
    head [] d = d
    head (y ∷ l) d = y

    tail : {B : Type 0} → List B → List B
    tail [] = []
    tail (y ∷ l) = l

    more : cut (n ∷ sizes) (a ++ b) ≡ a ∷ cut sizes b → (x ∷ take n (a ++ b)) ∷ cut sizes (drop n (a ++ b)) ≡ (x ∷ a) ∷ cut sizes b
    more ih = ap (λ l. (x ∷ l) ∷ cut sizes (drop n (a ++ b))) (ap (λ l. head l []) ih) ∙ ap (λ l. (x ∷ a) ∷ l) (ap tail ih)

-- choices among choices are the choices of all, cut
pub cut_choices : {A : Type 0} (xsss : List (List (List A))) → choices (map choices xsss) ≡ map (cut (map length xsss)) (choices (joined xsss))
unfolding choices
cut_choices [] = refl
cut_choices {A} (xss ∷ rest) =
    joined_same (λ a. map (λ m. a ∷ m) (choices (map choices rest))) (λ a. map (cut (map length (xss ∷ rest))) (map (λ b. a ++ b) (choices (joined rest)))) (choices xss) (λ a i.
    ap (map (λ m. a ∷ m)) (cut_choices rest) ∙ map-map (λ m. a ∷ m) (cut (map length rest)) (choices (joined rest))
    ∙ map_same (λ b. a ∷ cut (map length rest) b) (λ b. cut (map length (xss ∷ rest)) (a ++ b)) (choices (joined rest)) (λ b j. sym (cut_first (length xss) (map length rest) a b (In-choices_from xss a i).places))
    ∙ sym (map-map (cut (map length (xss ∷ rest))) (λ b. a ++ b) (choices (joined rest))))
    ∙ sym (map_joined (cut (map length (xss ∷ rest))) (λ a. map (λ b. a ++ b) (choices (joined rest))) (choices xss))
    ∙ ap (map (cut (map length (xss ∷ rest)))) (sym (choices_append xss (joined rest)))

one_bound : (n b : ℕ) (start : ℕ) → map (λ x. range_with_len 0 b) (range_with_len start n) ≡ map (range_with_len 0) (replicate n b)
one_bound zero b start = refl
one_bound (suc n) b start = ap (λ l. range_with_len 0 b ∷ l) (one_bound n b (start + 1))

count_range : (n b start : ℕ) → length (map (λ x. range_with_len 0 b) (range_with_len start n)) ≡ n
count_range zero b start = refl
count_range (suc n) b start = ap suc (count_range n b (start + 1))

module _ (P Q : Presheaf) where
  abbrev lists_at : ℕ → List (List ℕ)
  lists_at c = map (λ x. range_with_len 0 (size Q c)) (range_with_len 0 (size P c))

  joined_bounds : (cs : List ℕ) → joined (map lists_at cs) ≡ map (range_with_len 0) (flat_map (λ c. replicate (size P c) (size Q c)) cs)
  joined_bounds [] = refl
  joined_bounds (c ∷ cs) =
      ap (λ l. l ++ joined (map lists_at cs)) (one_bound (size P c) (size Q c) 0) ∙ ap (λ l. map (range_with_len 0) (replicate (size P c) (size Q c)) ++ l) (joined_bounds cs)
      ∙ sym (map-append (range_with_len 0) (replicate (size P c) (size Q c)) (flat_map (λ c. replicate (size P c) (size Q c)) cs))

  lengths : (cs : List ℕ) → map length (map lists_at cs) ≡ map (size P) cs
  lengths [] = refl
  lengths (c ∷ cs) = ap (λ n. n ∷ map length (map lists_at cs)) (count_range (size P c) (size Q c) 0) ∙ ap (λ l. size P c ∷ l) (lengths cs)

pub all_components_cut : (k : Category) (P Q : Presheaf) → all_components k P Q ≡ map (cut (sizes_of k P)) (assignments (bounds_of k P Q))
unfolding all_components rows
all_components_cut k P Q =
    ap choices (sym (map-map choices (lists_at P Q) (range_with_len 0 k.objects))) ∙ cut_choices (map (lists_at P Q) (range_with_len 0 k.objects))
    ∙ ap (λ l. map (cut l) (choices (joined (map (lists_at P Q) (range_with_len 0 k.objects))))) (lengths P Q (range_with_len 0 k.objects))
    ∙ ap (λ l. map (cut (sizes_of k P)) (choices l)) (joined_bounds P Q (range_with_len 0 k.objects))

pub maps_cut : (k : Category) (P Q : Presheaf) → maps k P Q ≡ map (cut (sizes_of k P)) (filter (is_natural k P Q) (assignments (bounds_of k P Q)))
unfolding maps
maps_cut k P Q = ap (filter (is_natural_map k P Q)) (all_components_cut k P Q) ∙ filter_of_map (is_natural_map k P Q) (cut (sizes_of k P)) (assignments (bounds_of k P Q))
