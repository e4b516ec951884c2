-- The natural maps are the rows that fit at all squares, cut into components.
use Rattle.std.proofs.Common.{◌≡◌, ℕ, zero, suc, ◌+◌, ◌-◌, ◌<◌, ◌≤◌, inl, inr, Bool, true, false, List, [], ◌∷◌, length, get_or, map, filter, flat_map, replicate, refl, sym, ap, subst, ◌∙◌, arith}
use Rattle.std.specs.List.{range_with_len}
use Rattle.std.proofs.lemmas.List.{length-append, length-replicate}
use Rattle.std.proofs.lemmas.Bool.{cases_eq, cases_lt}
use Rattle.finite_lists.specs.Members.{In}
use Rattle.finite_lists.proofs.Lists.{In_at, In-map, In-map_from, In-flat_map, In-flat_map_from, filter_same}
use Rattle.finite_lists.proofs.DistinctLists.{In-range, In-range_from}
use Rattle.topos_model.specs.categories.Category.{Category, dom, cod}
use Rattle.topos_model.specs.types.Types.{Presheaf}
use Rattle.topos_model.specs.Laws.{act, size, IsCategory, IsFunctor}
use Rattle.topos_model.specs.presheaves.NaturalMaps.{maps}
use Rattle.natural_search.specs.declared.squares.Square.{Square}
use Rattle.natural_search.specs.Search.{fitting, assignments}
use Rattle.natural_search.specs.Squares.{Fits, is_fitting, AreSquares, AreBounded}
use Rattle.natural_search.proofs.AssignedRows.{assigned_below}
use Rattle.natural_search.proofs.GuardedSearch.{solution_of}
use Rattle.natural_search.proofs.PlaceSearch.{each_fits}
use Rattle.natural_maps.specs.Places.{offset, cut}
use Rattle.natural_maps.specs.Search.{bounds_of, sizes_of, is_natural}
use Rattle.natural_maps.specs.Squares.{square_of, squares_along, squares_of}
use Rattle.natural_maps.proofs.Offsets.{place_within}
use Rattle.natural_maps.proofs.FlatMaps.{maps_cut}
use Rattle.natural_maps.proofs.FlatSquares.{place_of, broken_at, all_squares}
use Rattle.natural_maps.proofs.Candidates.{bound_at}

each_member : {A : Type 0} (G : A → Type 0) (xs : List A) → ((i : ℕ) (d : A) → i < length xs → G (get_or xs i d)) → (x : A) → In xs x → G x
each_member G [] h x i = absurd i
each_member G (y ∷ xs) h x (inl e) = subst G e (h 0 y (omega arith))
each_member G (y ∷ xs) h x (inr i) = each_member G xs (λ j d low. h (suc j) d (omega arith)) x i

same_entries : (xs : List ℕ) (n : ℕ) → length xs ≡ n → map (λ i. get_or xs i 0) (range_with_len 0 n) ≡ xs
same_entries xs n e = ap (λ m. map (λ i. get_or xs i 0) (range_with_len 0 m)) (sym e) ∙ all xs
  where
    shifted : (f : ℕ → ℕ) (n a : ℕ) → map f (range_with_len (a + 1) n) ≡ map (λ i. f (i + 1)) (range_with_len a n)
    shifted f zero a = refl
    shifted f (suc n) a = ap (λ l. f (a + 1) ∷ l) (shifted f n (a + 1))

    all : (xs : List ℕ) → map (λ i. get_or xs i 0) (range_with_len 0 (length xs)) ≡ xs
    all [] = refl
    all (x ∷ xs) =
        ap (λ l. x ∷ l) (shifted (λ i. get_or (x ∷ xs) i 0) (length xs) 0 ∙ same_function (λ i. get_or (x ∷ xs) (i + 1) 0) (λ i. get_or xs i 0) (range_with_len 0 (length xs)) (λ i. later i) ∙ all xs)
      where
        later : (i : ℕ) → get_or (x ∷ xs) (i + 1) 0 ≡ get_or xs i 0
        later i = let e : i + 1 ≡ suc i = omega arith in ap (λ j. get_or (x ∷ xs) j 0) e

        same_function : (f g : ℕ → ℕ) (l : List ℕ) → ((i : ℕ) → f i ≡ g i) → map f l ≡ map g l
        same_function f g [] h = refl
        same_function f g (i ∷ l) h = ap (λ y. y ∷ map f l) (h i) ∙ ap (λ l. g i ∷ l) (same_function f g l h)

-- the sizes are those of the presheaf
pub sizes_are : (k : Category) (P : Presheaf) → IsFunctor k P → sizes_of k P ≡ P.sizes
sizes_are k P functor = same_entries P.sizes k.objects functor.objects

joined_length : (P Q : Presheaf) (cs : List ℕ) → length (flat_map (λ c. replicate (size P c) (size Q c)) cs) ≡ offset (map (size P) cs) (length cs)
joined_length P Q [] = refl
joined_length P Q (c ∷ cs) =
    let e = length-append (replicate (size P c) (size Q c)) (flat_map (λ c. replicate (size P c) (size Q c)) cs) in
    let r = length-replicate (size P c) (size Q c) in
    omega (arith, e, r, joined_length P Q cs)

-- there is one bound for each element
pub places_are : (k : Category) (P Q : Presheaf) → IsFunctor k P → length (bounds_of k P Q) ≡ offset P.sizes (length P.sizes)
places_are k P Q functor =
    joined_length P Q (range_with_len 0 k.objects) ∙ ap (λ l. offset l (length (range_with_len 0 k.objects))) (sizes_are k P functor)
    ∙ ap (offset P.sizes) (count k.objects 0 ∙ sym functor.objects)
  where
    count : (n a : ℕ) → length (range_with_len a n) ≡ n
    count zero a = refl
    count (suc n) a = ap suc (count n (a + 1))

-- a square is that of an arrow and an element at its codomain
pub record IsSquare (k : Category) (P : Presheaf) (s : Square) : Type 0 where
  pub f : ℕ
  pub x : ℕ
  pub arrow : f < length k.ends
  pub element : x < size P (cod k f)
  pub is : square_of k P f x ≡ s

pub square_from : (k : Category) (P : Presheaf) → k.objects ≤ length k.ends → (s : Square) → In (squares_of k P) s → IsSquare k P s
square_from k P few s i =
    let f = In-flat_map_from (squares_along k P) (range_with_len k.objects (length k.ends - k.objects)) s i in
    let x = In-map_from (square_of k P f.0) (range_with_len 0 (size P (cod k f.0))) s f.2 in
    record {
      f = f.0;
      x = x.0;
      arrow = omega (arith, few, (In-range_from k.objects (length k.ends - k.objects) f.0 f.1).1);
      element = omega (arith, (In-range_from 0 (size P (cod k f.0)) x.0 x.1).1);
      is = x.2;
    }

pub square_in : (k : Category) (P : Presheaf) (f x : ℕ) → k.objects ≤ f → f < length k.ends → x < size P (cod k f) → In (squares_of k P) (square_of k P f x)
square_in k P f x other low within =
    In-flat_map (squares_along k P) (range_with_len k.objects (length k.ends - k.objects)) f (square_of k P f x)
    (In-range k.objects (length k.ends - k.objects) f other (omega arith))
    (In-map (square_of k P f) (range_with_len 0 (size P (cod k f))) x (In-range 0 (size P (cod k f)) x (omega arith) (omega arith)))

module _ (k : Category) (P Q : Presheaf) (law : IsCategory k) (domain : IsFunctor k P) (codomain : IsFunctor k Q) where
  few : k.objects ≤ length k.ends
  few = at k.objects refl
    where
      at : (n : ℕ) → n ≡ k.objects → n ≤ length k.ends
      at zero e = omega arith
      at (suc n) e = omega (arith, (law.identity n (omega (arith, e))).0.0)

  abbrev places : ℕ
  places = length (bounds_of k P Q)

  -- the place of x at c
  pub here : (c x : ℕ) → offset P.sizes c + x ≡ place_of k P Q c x
  here c x = ap (λ l. offset l c + x) (sym (sizes_are k P domain))

  pub within_places : (c x : ℕ) → c < k.objects → x < size P c → offset P.sizes c + x < places
  within_places c x low within = omega (arith, place_within P.sizes c x (omega (arith, low, domain.objects)) within, places_are k P Q domain)

  pub bound_here : (c x : ℕ) → c < k.objects → x < size P c → get_or (bounds_of k P Q) (offset P.sizes c + x) 0 ≡ size Q c
  bound_here c x low within = ap (λ n. get_or (bounds_of k P Q) n 0) (here c x) ∙ bound_at k P Q c x low within

  pub each_square : (G : Square → Type 0) → ((f x : ℕ) → f < length k.ends → x < size P (cod k f) → G (square_of k P f x)) → (s : ℕ) (d : Square) → s < length (squares_of k P) → G (get_or (squares_of k P) s d)
  each_square G h s d low = let is = square_from k P few (get_or (squares_of k P) s d) (In_at (squares_of k P) s d low) in subst G is.is (h is.f is.x is.arrow is.element)

  pub are_squares : AreSquares Q.along places (squares_of k P)
  are_squares = record {
    arrow = each_square (λ s. s.arrow < length Q.along) (λ f x low within. omega (arith, low, codomain.arrows));
    element = each_square (λ s. s.element < places) (λ f x low within. within_places (cod k f) x (law.ends f low).1 within);
    restricted = each_square (λ s. s.restricted < places) (λ f x low within. within_places (dom k f) (act P f x) (law.ends f low).0 (domain.within (cod k f) f x (low, refl) within));
  }

  -- numbers below the bounds have restrictions
  pub are_bounded : AreBounded Q.along (bounds_of k P Q) (squares_of k P)
  are_bounded =
      each_square (λ s. get_or (bounds_of k P Q) s.element 0 ≤ length (get_or Q.along s.arrow []))
      (λ f x low within. omega (arith, bound_here (cod k f) x (law.ends f low).1 within, codomain.total (cod k f) f (low, refl)))

  -- where all numbers are below the bounds and all squares fit, they make a natural map
  pub all_natural : (values : List ℕ) → ((e : ℕ) → e < places → get_or values e 0 < get_or (bounds_of k P Q) e 0) → ((s : ℕ) (d : Square) → s < length (squares_of k P) → Fits Q.along values (get_or (squares_of k P) s d)) → is_natural k P Q values ≡ true
  all_natural values below fit =
      all_squares k P Q law domain values (λ f x low within. elim (cases_lt f k.objects) [
        | inl identity ↦ at_identity f x identity low within
        | inr other ↦
            (let e = here (dom k f) (act P f x) in ap (λ n. get_or values n 0) (sym e))
            ∙ each_member (Fits Q.along values) (squares_of k P) fit (square_of k P f x) (square_in k P f x other low within)
            ∙ (let e = here (cod k f) x in ap (λ n. act Q f (get_or values n 0)) e)
      ])
    where
      at_identity : (f x : ℕ) → f < k.objects → f < length k.ends → x < size P (cod k f) → get_or values (place_of k P Q (dom k f) (act P f x)) 0 ≡ act Q f (get_or values (place_of k P Q (cod k f) x) 0)
      at_identity f x identity low within =
          let is = law.identity f identity in
          let at : x < size P f = subst (λ c. x < size P c) is.0.1 within in
          let value : get_or values (place_of k P Q f x) 0 < size Q f =
          subst (λ n. get_or values n 0 < size Q f) (here f x) (omega (arith, below (offset P.sizes f + x) (within_places f x identity at), bound_here f x identity at)) in
          ap (λ c. get_or values (place_of k P Q c (act P f x)) 0) is.1 ∙ ap (λ y. get_or values (place_of k P Q f y) 0) (domain.identity f x identity at)
          ∙ sym (codomain.identity f (get_or values (place_of k P Q f x) 0) identity value) ∙ ap (λ c. act Q f (get_or values (place_of k P Q c x) 0)) (sym is.0.1)

  -- a natural row fits at all squares
  fits_natural : (values : List ℕ) → ((e : ℕ) → e < places → get_or values e 0 < get_or (bounds_of k P Q) e 0) → is_natural k P Q values ≡ true → is_fitting Q.along (squares_of k P) values ≡ true
  fits_natural values below natural =
      each_fits Q.along (squares_of k P) values
      (each_square (Fits Q.along values)
      (λ f x low within.
      let whole = here (cod k f) x in
      let part = here (dom k f) (act P f x) in
      elim (cases_eq (get_or values (place_of k P Q (dom k f) (act P f x)) 0) (act Q f (get_or values (place_of k P Q (cod k f) x) 0))) [
        | inl e ↦ ap (λ n. get_or values n 0) part ∙ e ∙ ap (λ n. act Q f (get_or values n 0)) (sym whole)
        | inr ne ↦ (let bad : true ≡ false = sym natural ∙ broken_at k P Q law domain values f x low within ne in absurd cc)
      ]))

  natural_fits : (values : List ℕ) → In (assignments (bounds_of k P Q)) values → is_natural k P Q values ≡ is_fitting Q.along (squares_of k P) values
  natural_fits values i = decide (is_natural k P Q values) (is_fitting Q.along (squares_of k P) values) refl refl
    where
      below : (e : ℕ) → e < places → get_or values e 0 < get_or (bounds_of k P Q) e 0
      below e low = assigned_below (bounds_of k P Q) values e i low

      decide : (a b : Bool) → is_natural k P Q values ≡ a → is_fitting Q.along (squares_of k P) values ≡ b → a ≡ b
      decide true true e f = refl
      decide false false e f = refl
      decide true false e f = (let bad : true ≡ false = sym (fits_natural values below e) ∙ f in absurd cc)
      decide false true e f =
          (let solution = solution_of Q.along (squares_of k P) (bounds_of k P Q) are_bounded values below are_squares.element f in
          let bad : true ≡ false = sym (all_natural values below solution.all_fit.fit) ∙ e in absurd cc)

  pub maps_fitting : maps k P Q ≡ map (cut P.sizes) (fitting Q.along (squares_of k P) (bounds_of k P Q))
  unfolding fitting
  maps_fitting =
      maps_cut k P Q ∙ ap (λ l. map (cut l) (filter (is_natural k P Q) (assignments (bounds_of k P Q)))) (sizes_are k P domain)
      ∙ ap (map (cut P.sizes)) (filter_same (is_natural k P Q) (is_fitting Q.along (squares_of k P)) (assignments (bounds_of k P Q)) natural_fits)
