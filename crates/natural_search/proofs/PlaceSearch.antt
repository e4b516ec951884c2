-- The states of the search for all fitting rows, place by place.
use Rattle.std.proofs.Common.{◌≡◌, ℕ, suc, ◌+◌, ◌<◌, ◌≤◌, inl, inr, true, false, List, [], ◌∷◌, ◌++◌, length, get_or, set, map, filter, take, drop, refl, sym, ap, subst, ◌∙◌, arith, length-set, get_or-set_same, get_or-set_other}
use Rattle.std.proofs.lemmas.List.{take_more_set, length-take-le, get_or-take, get_or_append_left}
use Rattle.std.proofs.lemmas.List.Folds.{list_all_at}
use Rattle.std.proofs.lemmas.List.Sums.{list_all-from_AllPass}
use Rattle.std.proofs.lemmas.Bool.{eq-eqb, ne_eqb}
use Rattle.natural_search.specs.declared.squares.Square.{Square}
use Rattle.natural_search.specs.Search.{fitting, under, left, assignments}
use Rattle.natural_search.specs.Squares.{act, Fits, fits, is_fitting, later_place, AreSquares, AreBounded, AreElements}
use Rattle.natural_search.proofs.ChainLinks.{split}
use Rattle.natural_search.proofs.RowsSoFar.{dropped}
use Rattle.natural_search.proofs.SearchSteps.{left_unset, left_set, left_found, left_none, left_back, left_end, left_start}

map_alike : (f : List ℕ → List ℕ) (xs : List (List ℕ)) → ((x : List ℕ) → f x ≡ x) → map f xs ≡ xs
map_alike f [] h = refl
map_alike f (x ∷ xs) h = ap (λ y. y ∷ map f xs) (h x) ∙ ap (λ l. x ∷ l) (map_alike f xs h)

module _ (along : List (List ℕ)) (squares : List Square) where
  -- all squares fit where each does
  pub each_fits : (values : List ℕ) → ((s : ℕ) (d : Square) → s < length squares → Fits along values (get_or squares s d)) → is_fitting along squares values ≡ true
  unfolding is_fitting
  each_fits values h = list_all-from_AllPass (fits along values) squares (λ s d low. eq-eqb _ _ (h s d low))

  -- a square among the numbers so far that does not fit is a fault of all that begin so
  pub broken_prefix : (prefix rest : List ℕ) (s : ℕ) (d : Square) → s < length squares → (get_or squares s d).element < length prefix → (get_or squares s d).restricted < length prefix →
      (Fits along prefix (get_or squares s d) → ⊥) → is_fitting along squares (prefix ++ rest) ≡ false
  unfolding is_fitting
  broken_prefix prefix rest s d low set restricted_set broken =
      let sq = get_or squares s d in
      list_all_at (fits along (prefix ++ rest)) squares s d low
      (ne_eqb _ _ (λ e. broken (sym (get_or_append_left prefix rest 0 sq.restricted restricted_set) ∙ e ∙ ap (act along sq.arrow) (get_or_append_left prefix rest 0 sq.element set))))

  -- the fitting rows are those that begin with nothing
  pub fitting_under : (bounds : List ℕ) → fitting along squares bounds ≡ under (is_fitting along squares) bounds []
  unfolding fitting under
  fitting_under bounds = sym (ap (filter (is_fitting along squares)) (map_alike (λ rest. rest) (assignments bounds) (λ rest. refl)))

module _ (along : List (List ℕ)) (squares : List Square) (bounds : List ℕ) where
  -- The state of the search: so many rows are found, the numbers before the place are set and fit, and those from `next` on are still to come at the place.
  pub record IsState (count : ℕ) (values : List ℕ) (place next : ℕ) : Type 0 where
    pub whole : length values ≡ length bounds
    pub low : place < length bounds
    pub below : (e : ℕ) → e < place → get_or values e 0 < get_or bounds e 0
    pub fit : (s : ℕ) (d : Square) → s < length squares → later_place (get_or squares s d) < place → Fits along values (get_or squares s d)
    pub rest : left (is_fitting along squares) bounds values place next ≡ drop count (fitting along squares bounds)

module _ (along : List (List ℕ)) (squares : List Square) (bounds : List ℕ) (are : AreSquares along (length bounds) squares) (bounded : AreBounded along bounds squares) where
  -- numbers below the bounds have restrictions
  pub are_elements : (values : List ℕ) (place : ℕ) → ((e : ℕ) → e < place + 1 → get_or values e 0 < get_or bounds e 0) → AreElements along squares values place
  are_elements values place below s d low set = omega (arith, below (get_or squares s d).element (omega (arith, set)), bounded s d low)

  pub state_start : (values : List ℕ) → length values ≡ length bounds → 0 < length bounds → IsState along squares bounds 0 values 0 0
  state_start values whole some = record {
    whole = whole;
    low = some;
    below = λ e less. absurd (omega arith);
    fit = λ s d low less. absurd (omega arith);
    rest = sym (fitting_under along squares bounds ∙ left_start (is_fitting along squares) bounds values some);
  }

  module _ (count : ℕ) (values : List ℕ) (place next : ℕ) (is : IsState along squares bounds count values place next) where
    module _ (less : next < get_or bounds place 0) where
      abbrev now : List ℕ
      now = set values place next

      pub now_whole : length now ≡ length bounds
      now_whole = length-set values place next ∙ is.whole

      now_here : get_or now place 0 ≡ next
      now_here = get_or-set_same values place next 0 (omega (arith, is.whole, is.low))

      now_before : (e : ℕ) → e < place → get_or now e 0 ≡ get_or values e 0
      now_before e low = get_or-set_other values place e next 0 (λ s. absurd (omega (arith, s)))

      pub now_below : (e : ℕ) → e < place + 1 → get_or now e 0 < get_or bounds e 0
      now_below e low = elim (split e place low) [
        | inl before ↦ omega (arith, is.below e before, now_before e before)
        | inr same ↦ subst (λ n. get_or now n 0 < get_or bounds n 0) (sym same) (omega (arith, now_here))
      ]

      -- the numbers before the place did not change
      pub now_fit : (s : ℕ) (d : Square) → s < length squares → later_place (get_or squares s d) < place → Fits along now (get_or squares s d)
      now_fit s d low earlier =
          let sq = get_or squares s d in
          now_before sq.restricted (omega arith) ∙ is.fit s d low earlier ∙ ap (act along sq.arrow) (sym (now_before sq.element (omega arith)))

      -- a number with a square that does not fit is passed over
      pub state_passed : (s : ℕ) → s < length squares → ((d : Square) → (later_place (get_or squares s d) ≡ place) × (Fits along now (get_or squares s d) → ⊥)) → IsState along squares bounds count now place (next + 1)
      state_passed s low broken = record {
        whole = now_whole;
        low = is.low;
        below = λ e before. now_below e (omega arith);
        fit = now_fit;
        rest =
            left_unset (is_fitting along squares) bounds values is.whole place next (next + 1)
            ∙ sym (left_none (is_fitting along squares) bounds values is.whole place next is.low less (λ rest i. pruned rest))
            ∙ is.rest;
      }
        where
          prefix_is : take (place + 1) now ≡ take place values ++ next ∷ []
          prefix_is = take_more_set values place next (omega (arith, is.whole, is.low))

          prefix_length : length (take (place + 1) now) ≡ place + 1
          prefix_length = length-take-le (place + 1) now (omega (arith, now_whole, is.low))

          at : (i : ℕ) → i < place + 1 → get_or (take (place + 1) now) i 0 ≡ get_or now i 0
          at i l = get_or-take (place + 1) now i 0 l

          pruned : (rest : List ℕ) → is_fitting along squares ((take place values ++ next ∷ []) ++ rest) ≡ false
          pruned rest =
              let d : Square = record { arrow = 0; element = 0; restricted = 0 } in
              let sq = get_or squares s d in
              let b = broken d in
              let first : sq.element < place + 1 = omega (arith, b.0) in
              let second : sq.restricted < place + 1 = omega (arith, b.0) in
              ap (λ l. is_fitting along squares (l ++ rest)) (sym prefix_is)
              ∙ broken_prefix along squares (take (place + 1) now) rest s d low (omega (arith, prefix_length, first)) (omega (arith, prefix_length, second))
              (λ e. b.1 (sym (at sq.restricted second) ∙ e ∙ ap (act along sq.arrow) (at sq.element first)))

      module _ (fitted : (s : ℕ) (d : Square) → s < length squares → later_place (get_or squares s d) ≡ place → Fits along now (get_or squares s d)) where
        now_all_fit : (s : ℕ) (d : Square) → s < length squares → later_place (get_or squares s d) < place + 1 → Fits along now (get_or squares s d)
        now_all_fit s d low earlier = elim (split (later_place (get_or squares s d)) place earlier) [ inl before ↦ now_fit s d low before | inr same ↦ fitted s d low same ]

        -- else the next place comes
        pub state_set : place + 1 < length bounds → IsState along squares bounds count now (place + 1) 0
        state_set more = record {
          whole = now_whole;
          low = more;
          below = now_below;
          fit = now_all_fit;
          rest = (let e : place + 1 ≡ suc place = omega arith in ap (λ n. left (is_fitting along squares) bounds now n 0) e) ∙ sym (left_set (is_fitting along squares) bounds values is.whole place next more less) ∙ is.rest;
        }

        -- or a row is found
        pub found_next : place + 1 ≡ length bounds → now ∷ left (is_fitting along squares) bounds values place (next + 1) ≡ drop count (fitting along squares bounds)
        found_next last =
            sym (left_found (is_fitting along squares) bounds values is.whole place next last less (each_fits along squares now (λ s d low. now_all_fit s d low (omega (arith, are.element s d low, are.restricted s d low)))))
            ∙ is.rest

        pub state_found : place + 1 ≡ length bounds → IsState along squares bounds (count + 1) now place (next + 1)
        state_found last = record {
          whole = now_whole;
          low = is.low;
          below = λ e before. now_below e (omega arith);
          fit = now_fit;
          rest =
              left_unset (is_fitting along squares) bounds values is.whole place next (next + 1)
              ∙ dropped (fitting along squares bounds) count now (left (is_fitting along squares) bounds values place (next + 1)) (sym (found_next last));
        }

    -- where no number is left at a place, the place before it comes
    pub state_back : (d : ℕ) → place ≡ suc d → get_or bounds place 0 ≤ next → IsState along squares bounds count values d (get_or values d 0 + 1)
    state_back d e end = record {
      whole = is.whole;
      low = omega (arith, is.low);
      below = λ i before. is.below i (omega arith);
      fit = λ s d low earlier. is.fit s d low (omega arith);
      rest =
          sym (left_back (is_fitting along squares) bounds values is.whole d next (omega (arith, e, is.low)) (subst (λ n. get_or bounds n 0 ≤ next) e end))
          ∙ ap (λ n. left (is_fitting along squares) bounds values n next) (sym e) ∙ is.rest;
    }

    -- and at the first place none is left
    pub state_end : place ≡ 0 → get_or bounds place 0 ≤ next → drop count (fitting along squares bounds) ≡ []
    state_end e end =
        sym is.rest ∙ ap (λ n. left (is_fitting along squares) bounds values n next) e
        ∙ left_end (is_fitting along squares) bounds values is.whole next (subst (λ n. get_or bounds n 0 ≤ next) e end)
