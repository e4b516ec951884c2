-- The rows of numbers that fit are the natural assignments.
use Rattle.std.proofs.Common.{◌≡◌, ℕ, zero, suc, ◌+◌, ◌-◌, ◌<◌, ◌≤◌, Bool, true, false, not, nat_lt, cond, eqb, inl, inr, List, [], ◌∷◌, ◌++◌, length, get_or, map, filter, flat_map, replicate, refl, sym, ap, subst, ◌∙◌, arith}
use Rattle.std.specs.List.{range_with_len}
use Rattle.std.proofs.lemmas.Bool.{cases_lt, le-ltb, eqb-true}
use Rattle.std.proofs.lemmas.List.{length-map, get_or-map}
use Rattle.std.proofs.lemmas.List.FromFn.{length-map-range_with_len, get_or-map-range_with_len}
use Rattle.std.proofs.lemmas.Simd.{map-map}
use Rattle.topos_model.specs.declared.value.Val.{Val, Star, Fn}
use Rattle.topos_model.specs.declared.value.Entry.{Entry}
use Rattle.topos_model.specs.declared.value.Assign.{Assign}
use Rattle.finite_lists.specs.Members.{In, Distinct}
use Rattle.finite_lists.proofs.Lists.{In_at, In-map, In-map_from, In-flat_map, In-flat_map_from, In-filter, In-filter_from, filter_same, map_same, all_each}
use Rattle.finite_lists.proofs.DistinctLists.{In-range, In-range_from}
use Rattle.topos_model.specs.categories.Category.{Category, into, dom, cod, compose}
use Rattle.topos_model.specs.topologies.Cover.{Site}
use Rattle.topos_model.specs.Laws.{IsCategory, IsInto}
use Rattle.topos_model.specs.types.Types.{places, assignments, is_natural, fun_elements, fun_along}
use Rattle.topos_model.proofs.ArrowsInto.{In-into, In-into_from}
use Rattle.sieve_table.proofs.SieveMembers.{object, domain, goes, comes}
use Rattle.place_closures.specs.Pairs.{AreRestricted, pairs, start}
use Rattle.place_closures.proofs.PairNumbers.{start_within, at_start, number_of_pair}
use Rattle.type_laws.proofs.Places.{IsPresheaf, entry, entry_equal, moved, under, places_In, In_places, Distinct-places}
use Rattle.type_laws.proofs.Tables.{at_entry, tabulate}
use Rattle.type_laws.proofs.Numbering.{place_of_at, at_place_of, get_In}
use Rattle.type_laws.specs.Numbered.{place_of}
use Rattle.type_laws.proofs.Selectors.{Fn-equal}
use Rattle.type_laws.proofs.Functions.{IsNaturalTable, natural_tests, natural_passes, In_fun, fun_In, fun_along_Fn, fun_within, shifted}
use Rattle.natural_search.specs.declared.squares.Square.{Square}
use Rattle.natural_search.specs.Search.{fitting}
use Rattle.natural_search.specs.Search as search
use Rattle.natural_search.specs.Squares.{act, fits, is_fitting, Fits, AreSquares, AreBounded}
use Rattle.natural_search.proofs.AssignedRows.{IsFitted, is_fitted, assigned_below}
use Rattle.natural_search.proofs.PlaceSearch.{each_fits}
use Rattle.natural_search.proofs.ListChoices.{In-choices_from}
use Rattle.function_objects.specs.Functions.{over_pairs, square_at, is_declared, pair_squares, arrow_squares, function_squares, function_bounds, restriction_table, function_rows, under_row}
use Rattle.function_objects.proofs.FunctionSquares.{IsSquare, length-over, over_at, bounds_over, bound_is, table_at, square_in, each_square}
use Rattle.function_objects.proofs.FunctionTables.{by_number, map_joined, joined_same, filter_of_map, one_number, table_of, counts, mark, assignments_table, at_table, table_read, table_row}

-- numbers for the values of a presheaf at each object, which restrict as the values do
pub record AreNumbered (k : Category) (values : ℕ → List Val) (restrict : ℕ → Val → Val) (size : ℕ → ℕ) (move : ℕ → ℕ → ℕ) : Type 0 where
  pub sizes : (c : ℕ) → c < k.objects → size c ≡ length (values c)
  pub within : (c f n : ℕ) → IsInto k c f → n < size c → move f n < length (values (dom k f))
  pub is : (c f n : ℕ) → IsInto k c f → n < size c → get_or (values (dom k f)) (move f n) Star ≡ restrict f (get_or (values c) n Star)

-- where a value stands
number_in : (xs : List Val) (v : Val) → In xs v → (n : ℕ) × (n < length xs) × (get_or xs n Star ≡ v)
number_in xs v i = let p = at_place_of xs v Star i in (place_of v xs, p.0, p.1)

module _ (s : Site) (laws : IsCategory s.category) (values : ℕ → List Val) (restrict : ℕ → Val → Val) (values' : ℕ → List Val) (restrict' : ℕ → Val → Val)
    (presheaf : IsPresheaf s.category values restrict) (presheaf' : IsPresheaf s.category values' restrict') (distinct : (d : ℕ) → Distinct (values d)) (distinct' : (d : ℕ) → Distinct (values' d))
    (size : ℕ → ℕ) (move : ℕ → ℕ → ℕ) (size' : ℕ → ℕ) (move' : ℕ → ℕ → ℕ) (are : AreNumbered s.category values restrict size move) (are' : AreNumbered s.category values' restrict' size' move') (moves : AreRestricted s.category size move) where
  abbrev k : Category
  k = s.category

  abbrev val : ℕ → ℕ → Val
  val d n = get_or (values d) n Star

  abbrev val' : ℕ → ℕ → Val
  val' d n = get_or (values' d) n Star

  abbrev choice : ℕ → List Val
  choice f = values' (dom k f)

  abbrev place : ℕ → ℕ → Entry
  place f w = entry f (val (dom k f) w)

  abbrev first : ℕ → ℕ → ℕ
  first c f = start k size move c f

  size_at : (c f : ℕ) → IsInto k c f → size (dom k f) ≡ length (values (dom k f))
  size_at c f i = are.sizes (dom k f) (domain k laws i)

  size_at' : (c f : ℕ) → IsInto k c f → size' (dom k f) ≡ length (values' (dom k f))
  size_at' c f i = are'.sizes (dom k f) (domain k laws i)

  -- the places by their numbers
  pub places_are : (c : ℕ) → places s values c ≡ over_pairs k size move place c
  unfolding places
  places_are c =
      joined_same (λ f. map (entry f) (values (dom k f))) (λ f. map (place f) (range_with_len 0 (size (dom k f)))) (into k c) (λ f m.
      ap (map (entry f)) (sym (by_number (values (dom k f)))) ∙ map-map (entry f) (val (dom k f)) (range_with_len 0 (length (values (dom k f))))
      ∙ ap (λ n. map (place f) (range_with_len 0 n)) (sym (size_at c f (In-into_from k c f m))))

  -- and how many values there are at each
  pub bounds_are : (c : ℕ) → function_bounds k size move size' c ≡ counts choice (places s values c)
  bounds_are c =
      bounds_over k laws size move size' move' moves c
      ∙ joined_same (λ f. map (λ w. size' (dom k f)) (range_with_len 0 (size (dom k f)))) (λ f. map (λ e. length (choice e.arrow)) (map (place f) (range_with_len 0 (size (dom k f))))) (into k c) (λ f m.
      map_same (λ w. size' (dom k f)) (λ w. length (choice f)) (range_with_len 0 (size (dom k f))) (λ w n. size_at' c f (In-into_from k c f m))
      ∙ sym (map-map (λ e. length (choice e.arrow)) (place f) (range_with_len 0 (size (dom k f)))))
      ∙ sym (map_joined (λ e. length (choice e.arrow)) (λ f. map (place f) (range_with_len 0 (size (dom k f)))) (into k c))
      ∙ ap (counts choice) (sym (places_are c))

  -- there is one place for each pair
  pub place_count : (c : ℕ) → length (places s values c) ≡ length (pairs k size move c)
  place_count c = ap length (places_are c) ∙ length-over k laws size move size' move' moves place c

  bounds_long : (c : ℕ) → length (function_bounds k size move size' c) ≡ length (places s values c)
  bounds_long c = ap length (bounds_are c) ∙ length-map (places s values c) (λ e. length (choice e.arrow))

  pub place_within : (c f w : ℕ) → IsInto k c f → w < size (dom k f) → first c f + w < length (places s values c)
  unfolding start
  place_within c f w i low = subst (λ l. first c f + w < length l) (sym (places_are c)) (start_within (λ f. size (dom k f)) place (into k c) f w (In-into k c f i) low)

  pub place_is : (c f w : ℕ) (d : Entry) → IsInto k c f → w < size (dom k f) → get_or (places s values c) (first c f + w) d ≡ place f w
  unfolding start
  place_is c f w d i low = ap (λ l. get_or l (first c f + w) d) (places_are c) ∙ at_start (λ f. size (dom k f)) place (into k c) f w d (In-into k c f i) low

  move_within : (c f n : ℕ) → IsInto k c f → n < size c → move f n < size (dom k f)
  move_within c f n i low = moves.within c f n i low

  module _ (c : ℕ) (row : List ℕ) (whole : length row ≡ length (places s values c)) (below : (i : ℕ) → i < length (places s values c) → get_or row i 0 < get_or (function_bounds k size move size' c) i 0) where
    abbrev table : List Assign
    table = table_of choice (places s values c) row

    abbrev number : ℕ → ℕ → ℕ
    number f w = get_or row (first c f + w) 0

    pub number_below : (f w : ℕ) → IsInto k c f → w < size (dom k f) → number f w < size' (dom k f)
    number_below f w i low = omega (arith, below (first c f + w) (place_within c f w i low), bound_is k laws size move size' move' moves c f w i low)

    -- the value of the table at a place
    pub value_at : (f w : ℕ) → IsInto k c f → w < size (dom k f) → at_entry table (place f w) ≡ val' (dom k f) (number f w)
    value_at f w i low =
        let d = entry 0 Star in
        let n = first c f + w in
        let inside = place_within c f w i low in
        ap (at_entry table) (sym (place_is c f w d i low)) ∙ at_table choice (places s values c) row n d (Distinct-places s values c distinct) inside (omega (arith, inside, whole))
        ∙ ap (λ (e : Entry). get_or (choice e.arrow) (number f w) Star) (place_is c f w d i low)

    -- the value at (f.g, w.g)
    moved_at : (f w g : ℕ) → IsInto k c f → w < size (dom k f) → IsInto k (dom k f) g → at_entry table (moved s restrict (place f w) g) ≡ val' (dom k g) (number (compose k f g) (move g w))
    moved_at f w g i low j =
        let e = comes k laws i j in
        let v : val (dom k (compose k f g)) (move g w) ≡ restrict g (val (dom k f) w) = ap (λ d. val d (move g w)) e ∙ are.is (dom k f) g w j low in
        ap (λ u. at_entry table (entry (compose k f g) u)) (sym v)
        ∙ value_at (compose k f g) (move g w) (goes k laws i j) (subst (λ d. move g w < size d) (sym e) (move_within (dom k f) g w j low))
        ∙ ap (λ d. val' d (number (compose k f g) (move g w))) e

    moved_below : (f w g : ℕ) → IsInto k c f → w < size (dom k f) → IsInto k (dom k f) g → number (compose k f g) (move g w) < length (values' (dom k g))
    moved_below f w g i low j =
        let e = comes k laws i j in
        let n = number_below (compose k f g) (move g w) (goes k laws i j) (subst (λ d. move g w < size d) (sym e) (move_within (dom k f) g w j low)) in
        let m : size' (dom k (compose k f g)) ≡ size' (dom k g) = ap size' e in
        omega (arith, n, m, size_at' (dom k f) g j)

    -- the square of a pair and an arrow fits exactly if the values do
    values_fit : (f w g : ℕ) → IsInto k c f → w < size (dom k f) → IsInto k (dom k f) g → Fits (restriction_table k size' move') row (square_at k size move c f w g) →
        restrict' g (at_entry table (place f w)) ≡ at_entry table (moved s restrict (place f w) g)
    values_fit f w g i low j fit =
        let b = number_below f w i low in
        ap (restrict' g) (value_at f w i low) ∙ sym (are'.is (dom k f) g (number f w) j b)
        ∙ ap (val' (dom k g)) (sym (fit ∙ table_at k laws size move size' move' moves (dom k f) g (number f w) j b)) ∙ sym (moved_at f w g i low j)

    fits_of : (f w g : ℕ) → IsInto k c f → w < size (dom k f) → IsInto k (dom k f) g → restrict' g (at_entry table (place f w)) ≡ at_entry table (moved s restrict (place f w) g) →
        Fits (restriction_table k size' move') row (square_at k size move c f w g)
    fits_of f w g i low j e =
        let b = number_below f w i low in
        one_number (values' (dom k g)) (number (compose k f g) (move g w)) (move' g (number f w)) (distinct' (dom k g)) (moved_below f w g i low j) (are'.within (dom k f) g (number f w) j b)
        (sym (moved_at f w g i low j) ∙ sym e ∙ ap (restrict' g) (value_at f w i low) ∙ sym (are'.is (dom k f) g (number f w) j b))
        ∙ sym (table_at k laws size move size' move' moves (dom k f) g (number f w) j b)

    table_member : In (assignments choice (places s values c)) table → is_natural s restrict restrict' table ≡ true → is_fitting (restriction_table k size' move') (function_squares k size move c) row ≡ true
    table_member m natural =
        let is = natural_tests s values restrict values' restrict' distinct c table m natural in
        each_fits (restriction_table k size' move') (function_squares k size move c) row
        (each_square k laws size move size' move' moves c (Fits (restriction_table k size' move') row) (λ q i.
        subst (Fits (restriction_table k size' move') row) i.is
        (fits_of i.f i.w i.g i.arrow i.element i.below
        (is.natural (place i.f i.w) i.g (places_In s values c (place i.f i.w) i.arrow (get_In (values (dom k i.f)) i.w Star (omega (arith, i.element, size_at c i.f i.arrow)))) i.below))))

    -- along an identity the values fit by themselves
    identity_fits : (f w g : ℕ) → IsInto k c f → w < size (dom k f) → IsInto k (dom k f) g → g < k.objects → restrict' g (at_entry table (place f w)) ≡ at_entry table (moved s restrict (place f w) g)
    identity_fits f w g i low j identity =
        let e : g ≡ dom k f = sym (laws.identity g identity).0.1 ∙ j.1 in
        let o = domain k laws i in
        let v = get_In (values (dom k f)) w Star (omega (arith, low, size_at c f i)) in
        let u = get_In (values' (dom k f)) (number f w) Star (omega (arith, number_below f w i low, size_at' c f i)) in
        ap (λ h. restrict' h (at_entry table (place f w))) e ∙ ap (restrict' (dom k f)) (value_at f w i low) ∙ presheaf'.identity (dom k f) (val' (dom k f) (number f w)) o u ∙ sym (value_at f w i low)
        ∙ ap (at_entry table) (entry_equal f (compose k f g) (val (dom k f) w) (restrict g (val (dom k f) w)) (sym (ap (compose k f) e ∙ laws.right_neutral c f i)) (sym (ap (λ h. restrict h (val (dom k f) w)) e ∙ presheaf.identity (dom k f) (val (dom k f) w) o v)))

    fitting_natural : In (assignments choice (places s values c)) table → is_fitting (restriction_table k size' move') (function_squares k size move c) row ≡ true → is_natural s restrict restrict' table ≡ true
    unfolding is_fitting
    fitting_natural m fitted =
        natural_passes s values restrict values' restrict' distinct c table (record {
          member = m;
          natural = λ e g p j.
              let in_place = In_places s values c e p in
              let (w, low, is) = number_in (values (dom k e.arrow)) e.val in_place.1 in
              let i = in_place.0 in
              let inside : w < size (dom k e.arrow) = omega (arith, low, size_at c e.arrow i) in
              let same : place e.arrow w ≡ e = entry_equal e.arrow e.arrow (val (dom k e.arrow) w) e.val refl is in
              subst (λ x. restrict' g (at_entry table x) ≡ at_entry table (moved s restrict x g)) same
              (elim (cases_lt g k.objects) [
                | inl identity ↦ identity_fits e.arrow w g i inside j identity
                | inr other ↦
                    values_fit e.arrow w g i inside j
                    (eqb-true _ _ (all_each (fits (restriction_table k size' move') row) (function_squares k size move c) (square_at k size move c e.arrow w g) fitted (square_in k laws size move size' move' moves c e.arrow w g i inside j other)))
              ]);
        })

    pub natural_fitting : In (assignments choice (places s values c)) table → is_natural s restrict restrict' table ≡ is_fitting (restriction_table k size' move') (function_squares k size move c) row
    natural_fitting m = decide (is_natural s restrict restrict' table) (is_fitting (restriction_table k size' move') (function_squares k size move c) row) refl refl
      where
        decide : (a b : Bool) → is_natural s restrict restrict' table ≡ a → is_fitting (restriction_table k size' move') (function_squares k size move c) row ≡ b → a ≡ b
        decide true true e f = refl
        decide false false e f = refl
        decide true false e f = (let bad : true ≡ false = sym (table_member m e) ∙ f in absurd cc)
        decide false true e f = (let bad : true ≡ false = sym (fitting_natural m f) ∙ e in absurd cc)

  abbrev rows_at : ℕ → List (List ℕ)
  rows_at c = function_rows k size move size' move' c

  abbrev function_of : ℕ → List ℕ → Val
  function_of c row = Fn (table_of choice (places s values c) row)

  -- the elements of the function type are the functions of the rows
  pub elements_are : (c : ℕ) → fun_elements s values restrict values' restrict' c ≡ map (function_of c) (rows_at c)
  unfolding fun_elements function_rows fitting
  elements_are c =
      let ps = places s values c in
      let all = search.assignments (function_bounds k size move size' c) in
      let natural = is_natural s restrict restrict' in
      let fitted = is_fitting (restriction_table k size' move') (function_squares k size move c) in
      let listed : assignments choice ps ≡ map (table_of choice ps) all = assignments_table choice ps ∙ ap (λ l. map (table_of choice ps) (search.assignments l)) (sym (bounds_are c)) in
      ap (λ l. map Fn (filter natural l)) listed ∙ ap (map Fn) (filter_of_map natural (table_of choice ps) all)
      ∙ ap (λ l. map Fn (map (table_of choice ps) l)) (filter_same (λ row. natural (table_of choice ps row)) fitted all (λ row i.
      natural_fitting c row ((In-choices_from (map (range_with_len 0) (function_bounds k size move size' c)) row i).places ∙ length-map (function_bounds k size move size' c) (range_with_len 0) ∙ bounds_long c)
      (λ n low. assigned_below (function_bounds k size move size' c) row n i (omega (arith, low, bounds_long c)))
      (subst (λ l. In l (table_of choice ps row)) (sym listed) (In-map (table_of choice ps) all row i))))
      ∙ map-map Fn (table_of choice ps) (filter fitted all)

  -- a row that fits
  pub fitted_row : (c : ℕ) (row : List ℕ) → In (rows_at c) row → IsFitted (restriction_table k size' move') (function_squares k size move c) (function_bounds k size move size' c) row
  unfolding function_rows
  fitted_row c row i = is_fitted (restriction_table k size' move') (function_squares k size move c) (function_bounds k size move size' c) row i

  pub row_whole : (c : ℕ) (row : List ℕ) → In (rows_at c) row → length row ≡ length (places s values c)
  row_whole c row i = (fitted_row c row i).whole ∙ bounds_long c

  row_below : (c : ℕ) (row : List ℕ) → In (rows_at c) row → (n : ℕ) → n < length (places s values c) → get_or row n 0 < get_or (function_bounds k size move size' c) n 0
  row_below c row i n low = (fitted_row c row i).below n (omega (arith, low, bounds_long c))

  -- its table is natural
  row_natural : (c : ℕ) (row : List ℕ) → In (rows_at c) row → IsNaturalTable s values restrict values' restrict' c (table_of choice (places s values c) row)
  row_natural c row i =
      let l = table_of choice (places s values c) row in
      let m = In_fun s values restrict values' restrict' distinct c (Fn l) (subst (λ xs. In xs (Fn l)) (sym (elements_are c)) (In-map (function_of c) (rows_at c) row i)) in
      subst (IsNaturalTable s values restrict values' restrict' c) (Fn-equal m.0 l m.2) m.1

  over_map : {A : Type 0} (E : ℕ → ℕ → A) (c : ℕ) → over_pairs k size move E c ≡ map (λ p. E p.0 p.1) (pairs k size move c)
  unfolding pairs
  over_map E c =
      joined_same (λ f. map (E f) (range_with_len 0 (size (dom k f)))) (λ f. map (λ (p : ℕ × ℕ). E p.0 p.1) (map (λ w. (f, w)) (range_with_len 0 (size (dom k f))))) (into k c) (λ f m. sym (map-map (λ (p : ℕ × ℕ). E p.0 p.1) (λ w. (f, w)) (range_with_len 0 (size (dom k f)))))
      ∙ sym (map_joined (λ (p : ℕ × ℕ). E p.0 p.1) (λ f. map (λ w. (f, w)) (range_with_len 0 (size (dom k f)))) (into k c))

  pair_in : (c : ℕ) (p : ℕ × ℕ) → In (pairs k size move c) p → IsInto k c p.0 × (p.1 < size (dom k p.0))
  unfolding pairs
  pair_in c p i =
      let a = In-flat_map_from (λ f. map (λ w. (f, w)) (range_with_len 0 (size (dom k f)))) (into k c) p i in
      let b = In-map_from (λ w. (a.0, w)) (range_with_len 0 (size (dom k a.0))) p a.2 in
      subst (λ (p : ℕ × ℕ). IsInto k c p.0 × (p.1 < size (dom k p.0))) b.2 (In-into_from k c a.0 a.1, omega (arith, (In-range_from 0 (size (dom k a.0)) b.0 b.1).1))

  -- the restriction of a function has the numbers at the places under the arrow
  pub restricted_table : (c h : ℕ) (row : List ℕ) → IsInto k c h → In (rows_at c) row →
      shifted s values restrict values' restrict' h (table_of choice (places s values c) row) ≡ table_of choice (places s values (dom k h)) (under_row k size move c h row)
  unfolding under_row
  restricted_table c h row i m =
      let d = dom k h in
      let l = table_of choice (places s values c) row in
      let number : ℕ × ℕ → ℕ = λ p. get_or row (first c (compose k h p.0) + p.1) 0 in
      let spot : ℕ × ℕ → Entry = λ p. place p.0 p.1 in
      let ps : places s values d ≡ map spot (pairs k size move d) = places_are d ∙ over_map place d in
      ap (tabulate (λ e. at_entry l (under s h e))) ps
      ∙ map-map (row_of (λ e. at_entry l (under s h e))) spot (pairs k size move d)
      ∙ map_same (λ p. row_of (λ e. at_entry l (under s h e)) (spot p)) (λ p. mark choice (spot p) (number p)) (pairs k size move d) (λ p n.
      let is = pair_in d p n in
      ap (λ v. record { arrow = p.0; val = val (dom k p.0) p.1; to = v }) (under_at c h row i m p.0 p.1 is.0 is.1))
      ∙ sym (table_read choice spot number (pairs k size move d))
      ∙ ap (λ q. table_of choice q (map number (pairs k size move d))) (sym ps)
      ∙ ap (table_of choice (places s values d)) (sym (over_map (λ f w. get_or row (first c (compose k h f) + w) 0) d))
    where
      row_of : (Entry → Val) → Entry → Assign
      row_of t e = record { arrow = e.arrow; val = e.val; to = t e }

      under_at : (c h : ℕ) (row : List ℕ) → IsInto k c h → In (rows_at c) row → (f w : ℕ) → IsInto k (dom k h) f → w < size (dom k f) →
          at_entry (table_of choice (places s values c) row) (under s h (place f w)) ≡ val' (dom k f) (get_or row (first c (compose k h f) + w) 0)
      under_at c h row i m f w j low =
          let e = comes k laws i j in
          ap (λ d. at_entry (table_of choice (places s values c) row) (entry (compose k h f) (val d w))) (sym e)
          ∙ value_at c row (row_whole c row m) (row_below c row m) (compose k h f) w (goes k laws i j) (subst (λ d. w < size d) (sym e) low)
          ∙ ap (λ d. val' d (get_or row (first c (compose k h f) + w) 0)) e

  -- and it is a row that fits
  pub under_fits : (c h : ℕ) (row : List ℕ) → IsInto k c h → In (rows_at c) row → In (rows_at (dom k h)) (under_row k size move c h row)
  unfolding under_row
  under_fits c h row i m =
      let d = dom k h in
      let l = table_of choice (places s values c) row in
      let ps = places s values d in
      let n = fun_In s values restrict values' restrict' distinct d (shifted s values restrict values' restrict' h l) (fun_within s values restrict values' restrict' laws c h l presheaf i (row_natural c row m)) in
      let r = In-map_from (function_of d) (rows_at d) (Fn (shifted s values restrict values' restrict' h l)) (subst (λ xs. In xs (Fn (shifted s values restrict values' restrict' h l))) (elements_are d) n) in
      let same : table_of choice ps r.0 ≡ table_of choice ps (under_row k size move c h row) = Fn-equal _ _ (r.2 ∙ ap Fn (restricted_table c h row i m)) in
      let e : r.0 ≡ under_row k size move c h row =
      table_row choice ps r.0 (under_row k size move c h row) (λ f. distinct' (dom k f)) (row_whole d r.0 r.1) (under_whole c h row)
      (λ n x low. omega (arith, row_below d r.0 r.1 n low, counted d n x low))
      (λ n x low. under_below c h row i m n x low)
      same in
      subst (λ q. In (rows_at d) q) e r.1
    where
      under_whole : (c h : ℕ) (row : List ℕ) → length (under_row k size move c h row) ≡ length (places s values (dom k h))
      under_whole c h row = length-over k laws size move size' move' moves (λ f w. get_or row (first c (compose k h f) + w) 0) (dom k h) ∙ sym (place_count (dom k h))

      counted : (d n : ℕ) (x : Entry) → n < length (places s values d) → get_or (function_bounds k size move size' d) n 0 ≡ length (choice (get_or (places s values d) n x).arrow)
      counted d n x low = ap (λ l. get_or l n 0) (bounds_are d) ∙ get_or-map (λ e. length (choice e.arrow)) (places s values d) n x 0 low

      under_below : (c h : ℕ) (row : List ℕ) → IsInto k c h → In (rows_at c) row → (n : ℕ) (x : Entry) → n < length (places s values (dom k h)) → get_or (under_row k size move c h row) n 0 < length (choice (get_or (places s values (dom k h)) n x).arrow)
      under_below c h row i m n x low =
          let d = dom k h in
          let (f, w, j, l, e) = number_of_pair k size move d n (omega (arith, low, place_count d)) in
          let g = compose k h f in
          let q = comes k laws i j in
          let read : get_or (under_row k size move c h row) n 0 ≡ get_or row (first c g + w) 0 =
          ap (λ z. get_or (under_row k size move c h row) z 0) (sym e) ∙ over_at k laws size move size' move' moves (λ f w. get_or row (first c (compose k h f) + w) 0) d f w 0 j l in
          let spot : get_or (places s values d) n x ≡ place f w = ap (λ z. get_or (places s values d) z x) (sym e) ∙ place_is d f w x j l in
          let below = number_below c row (row_whole c row m) (row_below c row m) g w (goes k laws i j) (subst (λ z. w < size z) (sym q) l) in
          let b : size' (dom k g) ≡ length (choice f) = ap size' q ∙ size_at' d f j in
          let a : length (choice (get_or (places s values d) n x).arrow) ≡ length (choice f) = ap (λ (y : Entry). length (choice y.arrow)) spot in
          omega (arith, read, below, a, b)

  -- each number of a row that fits stands for the value at its place
  pub number_stands : (c : ℕ) (row : List ℕ) → In (rows_at c) row → (n : ℕ) → n < length (places s values c) →
      (get_or row n 0 < length (choice (get_or (places s values c) n (entry 0 Star)).arrow))
      × (get_or (choice (get_or (places s values c) n (entry 0 Star)).arrow) (get_or row n 0) Star ≡ at_entry (table_of choice (places s values c) row) (get_or (places s values c) n (entry 0 Star)))
  number_stands c row i n low =
      let d = entry 0 Star in
      let bound : get_or (function_bounds k size move size' c) n 0 ≡ length (choice (get_or (places s values c) n d).arrow) = ap (λ l. get_or l n 0) (bounds_are c) ∙ get_or-map (λ e. length (choice e.arrow)) (places s values c) n d 0 low in (
        omega (arith, row_below c row i n low, bound),
        sym (at_table choice (places s values c) row n d (Distinct-places s values c distinct) low (omega (arith, low, row_whole c row i))),
      )
