-- The matching families on a sieve are the rows that fit at all its squares.
use Rattle.std.proofs.Common.{◌≡◌, ℕ, ◌<◌, ◌≤◌, true, List, [], filter, length, get_or, sym, ap, ◌∙◌, subst, arith}
use Rattle.std.specs.List.{range_with_len}
use Rattle.std.proofs.lemmas.Bool.{eqb-true}
use Rattle.std.proofs.lemmas.List.{get_or-map, length-map}
use Rattle.std.proofs.lemmas.Simd.{map-map}
use Rattle.finite_lists.specs.Members.{In}
use Rattle.finite_lists.proofs.Lists.{In_at, In-map, In-map_from, In-flat_map, In-flat_map_from, all_each, filter_same, same_tests}
use Rattle.finite_lists.proofs.DistinctLists.{In-range, In-range_from}
use Rattle.topos_model.specs.categories.Category.{Category, into, dom, compose}
use Rattle.topos_model.specs.types.Types.{Presheaf}
use Rattle.topos_model.specs.Laws.{IsFunctor, IsInto, act, size}
use Rattle.topos_model.specs.presheaves.NaturalMaps.{choices}
use Rattle.topos_model.specs.topologies.Sheaves.{element_at, agrees, matching_families}
use Rattle.topos_model.proofs.ArrowsInto.{In-into, In-into_from}
use Rattle.sieve_table.proofs.SieveMembers.{IsSieve}
use Rattle.natural_search.specs.declared.squares.Square.{Square}
use Rattle.natural_search.specs.Search.{fitting}
use Rattle.natural_search.specs.Squares.{Fits, fits, is_fitting, AreSquares, AreBounded}
use Rattle.natural_search.proofs.PlaceSearch.{each_fits}
use Rattle.sheaf_test.specs.Families.{place, bounds_of, square_of, squares_at, squares_of}
use Rattle.sheaf_test.proofs.FamilyPlaces.{place_within, at_place, element_at-place, element_at-index}
use Rattle.sheaf_test.proofs.MatchingFamilies.{numbers_at, choice_long, agrees_each, each_agrees}

module _ (k : Category) (X : Presheaf) (functor : IsFunctor k X) (c : ℕ) (S : List ℕ) (sieve : IsSieve k c S) where
  abbrev arrow : ℕ → ℕ
  arrow i = get_or S i 0

  -- what holds of the square of each arrow of the sieve and each arrow into its domain holds of each square
  each_square : (G : Square → Type 0) → ((i g : ℕ) → i < length S → IsInto k (dom k (arrow i)) g → G (square_of k S i g)) → (s : ℕ) (d : Square) → s < length (squares_of k S) → G (get_or (squares_of k S) s d)
  unfolding squares_of
  each_square G h s d low =
      let i = In-flat_map_from (squares_at k S) (range_with_len 0 (length S)) (get_or (squares_of k S) s d) (In_at (squares_of k S) s d low) in
      let g = In-map_from (square_of k S i.0) (into k (dom k (arrow i.0))) (get_or (squares_of k S) s d) i.2 in
      subst G g.2 (h i.0 g.0 (let r = In-range_from 0 (length S) i.0 i.1 in omega (arith, r.1)) (In-into_from k (dom k (arrow i.0)) g.0 g.1))

  square_in : (i g : ℕ) → i < length S → IsInto k (dom k (arrow i)) g → In (squares_of k S) (square_of k S i g)
  unfolding squares_of
  square_in i g low j =
      In-flat_map (squares_at k S) (range_with_len 0 (length S)) i (square_of k S i g) (In-range 0 (length S) i (omega arith) (omega (arith, low)))
      (In-map (square_of k S i) (into k (dom k (arrow i))) g (In-into k (dom k (arrow i)) g j))

  abbrev bounds : List ℕ
  bounds = bounds_of k X S

  places : length bounds ≡ length S
  places = length-map S (λ f. size X (dom k f))

  pub are_squares : AreSquares X.along (length bounds) (squares_of k S)
  are_squares = record {
    arrow = each_square (λ s. s.arrow < length X.along) (λ i g low j. omega (arith, j.0, functor.arrows));
    element = each_square (λ s. s.element < length bounds) (λ i g low j. omega (arith, low, places));
    restricted = each_square (λ s. s.restricted < length bounds) (λ i g low j.
        let within = place_within S (compose k (arrow i) g) (sieve.closed (arrow i) g (In_at S i 0 low) j) in
        omega (arith, within, places));
  }

  -- each element has restrictions
  pub are_bounded : AreBounded X.along bounds (squares_of k S)
  are_bounded =
      each_square (λ s. get_or bounds s.element 0 ≤ length (get_or X.along s.arrow [])) (λ i g low j.
      let bound : get_or bounds i 0 ≡ size X (dom k (arrow i)) = get_or-map (λ f. size X (dom k f)) S i 0 0 low in
      omega (arith, bound, functor.total (dom k (arrow i)) g j))

  module _ (family : List ℕ) (long : length family ≡ length S) where
    fitting_agrees : is_fitting X.along (squares_of k S) family ≡ true → agrees k X S family ≡ true
    unfolding is_fitting
    fitting_agrees e =
        each_agrees k X S family (λ f g i j.
        let at : arrow (place S f) ≡ f = at_place S f i in
        let square = square_in (place S f) g (place_within S f i) (subst (λ h. IsInto k (dom k h) g) (sym at) j) in
        let fit = eqb-true _ _ (all_each (fits X.along family) (squares_of k S) (square_of k S (place S f) g) e square) in
        ap (act X g) (element_at-place S family f i long) ∙ sym fit ∙ ap (λ h. get_or family (place S (compose k h g)) 0) at
        ∙ sym (element_at-place S family (compose k f g) (sieve.closed f g i j) long))

    agreeing_fits : agrees k X S family ≡ true → is_fitting X.along (squares_of k S) family ≡ true
    agreeing_fits e =
        each_fits X.along (squares_of k S) family (each_square (Fits X.along family) (λ i g low j.
        let member : In S (arrow i) = In_at S i 0 low in
        let at : element_at S family (arrow i) ≡ get_or family i 0 = element_at-index S family i sieve.rises long low in
        sym (element_at-place S family (compose k (arrow i) g) (sieve.closed (arrow i) g member j) long)
        ∙ sym (agrees_each k X S family e (arrow i) g member j) ∙ ap (act X g) at))

  pub fitting_families : fitting X.along (squares_of k S) bounds ≡ matching_families k X S
  unfolding fitting matching_families
  fitting_families =
      ap (λ xss. filter (is_fitting X.along (squares_of k S)) (choices xss)) (map-map (range_with_len 0) (λ f. size X (dom k f)) S)
      ∙ filter_same (is_fitting X.along (squares_of k S)) (agrees k X S) (choices (numbers_at (λ f. size X (dom k f)) S)) (λ family i.
      let long = choice_long (λ f. size X (dom k f)) S family i in
      same_tests _ _ (fitting_agrees family long) (agreeing_fits family long))
