-- Rows of numbers as assignments of values to places.
use Rattle.std.proofs.Common.{◌≡◌, ℕ, zero, suc, ◌+◌, ◌<◌, Bool, true, false, cond, inl, inr, List, [], ◌∷◌, ◌++◌, length, get_or, map, filter, flat_map, refl, sym, ap, subst, ◌∙◌, arith}
use Rattle.std.specs.List.{range_with_len}
use Rattle.std.proofs.lemmas.List.{map-append, length-map}
use Rattle.std.proofs.lemmas.List.Folds.{flat_map-map}
use Rattle.std.proofs.lemmas.Simd.{map-map}
use Rattle.topos_model.specs.declared.value.Val.{Val, Star}
use Rattle.topos_model.specs.declared.value.Entry.{Entry}
use Rattle.topos_model.specs.declared.value.Assign.{Assign}
use Rattle.finite_lists.specs.Members.{In, Distinct}
use Rattle.finite_lists.proofs.Lists.{In_at, map_same}
use Rattle.topos_model.specs.presheaves.NaturalMaps.{choices}
use Rattle.topos_model.specs.types.Types.{assignments}
use Rattle.type_laws.proofs.Tables.{row, tabulate, at_entry, at_here, at_later}
use Rattle.type_laws.proofs.Numbering.{place_of_at}
use Rattle.type_laws.specs.Numbered.{place_of}

-- the members of a list by their numbers
pub by_number : (xs : List Val) → map (λ n. get_or xs n Star) (range_with_len 0 (length xs)) ≡ xs
by_number xs = all xs
  where
    shifted : (f : ℕ → Val) (n a : ℕ) → map f (range_with_len (a + 1) n) ≡ map (λ i. f (i + 1)) (range_with_len a n)
    shifted f zero a = refl
    shifted f (suc n) a = ap (λ l. f (a + 1) ∷ l) (shifted f n (a + 1))

    all : (xs : List Val) → map (λ n. get_or xs n Star) (range_with_len 0 (length xs)) ≡ xs
    all [] = refl
    all (x ∷ xs) =
        ap (λ l. x ∷ l)
        (shifted (λ i. get_or (x ∷ xs) i Star) (length xs) 0
        ∙ map_same (λ i. get_or (x ∷ xs) (i + 1) Star) (λ i. get_or xs i Star) (range_with_len 0 (length xs)) (λ i m. let e : i + 1 ≡ suc i = omega arith in ap (λ j. get_or (x ∷ xs) j Star) e)
        ∙ all xs)

pub map_joined : {A B C : Type 0} (h : B → C) (g : A → List B) (xs : List A) → map h (flat_map g xs) ≡ flat_map (λ x. map h (g x)) xs
map_joined h g [] = refl
map_joined h g (x ∷ xs) = map-append h (g x) (flat_map g xs) ∙ ap (λ l. map h (g x) ++ l) (map_joined h g xs)

pub joined_same : {A B : Type 0} (f g : A → List B) (xs : List A) → ((x : A) → In xs x → f x ≡ g x) → flat_map f xs ≡ flat_map g xs
joined_same f g [] h = refl
joined_same f g (x ∷ xs) h = ap (λ l. l ++ flat_map f xs) (h x (inl refl)) ∙ ap (λ l. g x ++ l) (joined_same f g xs (λ y i. h y (inr i)))

pub filter_of_map : {A B : Type 0} (p : B → Bool) (f : A → B) (xs : List A) → filter p (map f xs) ≡ map f (filter (λ x. p (f x)) xs)
filter_of_map p f [] = refl
filter_of_map {A} {B} p f (x ∷ xs) = at (p (f x)) (filter_of_map p f xs)
  where
    at : (b : Bool) → filter p (map f xs) ≡ map f (filter (λ x. p (f x)) xs) → cond b (f x ∷ filter p (map f xs)) (filter p (map f xs)) ≡ map f (cond b (x ∷ filter (λ x. p (f x)) xs) (filter (λ x. p (f x)) xs))
    at true e = ap (λ l. f x ∷ l) e
    at false e = e

-- values with one number are one
pub one_number : (xs : List Val) (m n : ℕ) → Distinct xs → m < length xs → n < length xs → get_or xs m Star ≡ get_or xs n Star → m ≡ n
one_number xs m n d low low' e = sym (place_of_at xs m Star d low) ∙ ap (λ v. place_of v xs) e ∙ place_of_at xs n Star d low'

abbrev first_to : Val → List Assign → Val
first_to d [] = d
first_to d (a ∷ l) = a.to

abbrev rest_of : List Assign → List Assign
rest_of [] = []
rest_of (a ∷ l) = l

module _ (choice : ℕ → List Val) where
  abbrev pub mark : Entry → ℕ → Assign
  mark e n = row (λ e. get_or (choice e.arrow) n Star) e

  -- at each place the value with the number at its place in the row
  unfoldable pub table_of : List Entry → List ℕ → List Assign
  table_of [] numbers = []
  table_of (e ∷ ps) [] = []
  table_of (e ∷ ps) (n ∷ numbers) = mark e n ∷ table_of ps numbers

  abbrev pub counts : List Entry → List ℕ
  counts ps = map (λ e. length (choice e.arrow)) ps

  -- all assignments are the tables of all rows
  pub assignments_table : (ps : List Entry) → assignments choice ps ≡ map (table_of ps) (choices (map (range_with_len 0) (counts ps)))
  unfolding assignments choices table_of
  assignments_table [] = refl
  assignments_table (e ∷ ps) =
      let xs = choice e.arrow in
      let rest = choices (map (range_with_len 0) (counts ps)) in
      ap (flat_map (λ v. map (λ l. record { arrow = e.arrow; val = e.val; to = v } ∷ l) (assignments choice ps))) (sym (by_number xs))
      ∙ flat_map-map (λ v. map (λ l. record { arrow = e.arrow; val = e.val; to = v } ∷ l) (assignments choice ps)) (λ n. get_or xs n Star) (range_with_len 0 (length xs))
      ∙ joined_same _ _ (range_with_len 0 (length xs)) (λ n i.
      ap (map (λ l. mark e n ∷ l)) (assignments_table ps) ∙ map-map (λ l. mark e n ∷ l) (table_of ps) rest ∙ sym (map-map (table_of (e ∷ ps)) (λ l. n ∷ l) rest))
      ∙ sym (map_joined (table_of (e ∷ ps)) (λ n. map (λ l. n ∷ l) rest) (range_with_len 0 (length xs)))

  -- the value at a place
  pub at_table : (ps : List Entry) (numbers : List ℕ) (i : ℕ) (d : Entry) → Distinct ps → i < length ps → i < length numbers →
      at_entry (table_of ps numbers) (get_or ps i d) ≡ get_or (choice (get_or ps i d).arrow) (get_or numbers i 0) Star
  unfolding table_of
  at_table [] numbers i d dist low low' = absurd (omega (arith, low))
  at_table (e ∷ ps) [] i d dist low low' = absurd (omega (arith, low'))
  at_table (e ∷ ps) (n ∷ numbers) zero d dist low low' = at_here e e (get_or (choice e.arrow) n Star) (table_of ps numbers) refl
  at_table (e ∷ ps) (n ∷ numbers) (suc i) d dist low low' =
      at_later e (get_or ps i d) (get_or (choice e.arrow) n Star) (table_of ps numbers) (λ s. dist.0 (subst (λ x. In ps x) (sym s) (In_at ps i d (omega (arith, low)))))
      ∙ at_table ps numbers i d dist.1 (omega (arith, low)) (omega (arith, low'))

  -- the table of numbers that are read at the places
  pub table_read : {A : Type 0} (place : A → Entry) (number : A → ℕ) (xs : List A) → table_of (map place xs) (map number xs) ≡ map (λ x. mark (place x) (number x)) xs
  unfolding table_of
  table_read place number [] = refl
  table_read place number (x ∷ xs) = ap (λ l. mark (place x) (number x) ∷ l) (table_read place number xs)

  -- rows with one table are one
  pub table_row : (ps : List Entry) (m n : List ℕ) → ((f : ℕ) → Distinct (choice f)) → length m ≡ length ps → length n ≡ length ps →
      ((i : ℕ) (d : Entry) → i < length ps → get_or m i 0 < length (choice (get_or ps i d).arrow)) → ((i : ℕ) (d : Entry) → i < length ps → get_or n i 0 < length (choice (get_or ps i d).arrow)) →
      table_of ps m ≡ table_of ps n → m ≡ n
  unfolding table_of
  table_row [] [] [] dist long long' low low' e = refl
  table_row [] [] (y ∷ n) dist long long' low low' e = absurd (omega (arith, long'))
  table_row [] (x ∷ m) n dist long long' low low' e = absurd (omega (arith, long))
  table_row (p ∷ ps) [] n dist long long' low low' e = absurd (omega (arith, long))
  table_row (p ∷ ps) (x ∷ m) [] dist long long' low low' e = absurd (omega (arith, long'))
  table_row (p ∷ ps) (x ∷ m) (y ∷ n) dist long long' low low' e =
      let same : x ≡ y = one_number (choice p.arrow) x y (dist p.arrow) (low 0 p (omega arith)) (low' 0 p (omega arith)) (ap (first_to Star) e) in
      ap (λ z. z ∷ m) same
      ∙ ap (λ l. y ∷ l) (table_row ps m n dist (omega (arith, long)) (omega (arith, long')) (λ i d l. low (suc i) d (omega (arith, l))) (λ i d l. low' (suc i) d (omega (arith, l))) (ap rest_of e))
