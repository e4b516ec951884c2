-- The numbers of an assignment.
use Rattle.std.proofs.Common.{◌≡◌, ℕ, suc, true, ◌+◌, ◌<◌, List, [], ◌∷◌, ◌++◌, length, get_or, map, subst, ap, ◌∙◌, arith}
use Rattle.std.specs.List.{range_with_len}
use Rattle.std.proofs.lemmas.List.{get_or-map, length-map}
use Rattle.finite_lists.specs.Members.{In}
use Rattle.finite_lists.proofs.DistinctLists.{In-range_from}
use Rattle.finite_lists.proofs.Lists.{In-filter_from}
use Rattle.natural_search.specs.declared.squares.Square.{Square}
use Rattle.natural_search.specs.Search.{assignments, fitting}
use Rattle.natural_search.specs.Squares.{is_fitting}
use Rattle.natural_search.proofs.ListChoices.{In-choices_from}
use Rattle.natural_search.specs.Rows.{AreLong}

pub append_right : (p rest : List ℕ) (i : ℕ) → get_or (p ++ rest) (length p + i) 0 ≡ get_or rest i 0
append_right [] rest i = let e : 0 + i ≡ i = omega arith in ap (λ n. get_or rest n 0) e
append_right (x ∷ p) rest i = let e : suc (length p) + i ≡ suc (length p + i) = omega arith in ap (λ n. get_or (x ∷ p ++ rest) n 0) e ∙ append_right p rest i

-- a number of an assignment is below its bound
pub assigned_below : (bounds ys : List ℕ) (j : ℕ) → In (assignments bounds) ys → j < length bounds → get_or ys j 0 < get_or bounds j 0
assigned_below bounds ys j i low =
    let is = In-choices_from (map (range_with_len 0) bounds) ys i in
    let at = is.each j 0 (omega (arith, low, length-map bounds (range_with_len 0))) in
    let e = get_or-map (range_with_len 0) bounds j 0 [] low in
    omega (arith, (In-range_from 0 (get_or bounds j 0) (get_or ys j 0) (subst (λ l. In l (get_or ys j 0)) e at)).1)

-- numbers below the bounds
abbrev pub AreBelow : List ℕ → List ℕ → Type 0
AreBelow bounds values = (e : ℕ) → e < length bounds → get_or values e 0 < get_or bounds e 0

-- a fitting row has a number at each place, below its bound
pub record IsFitted (along : List (List ℕ)) (squares : List Square) (bounds values : List ℕ) : Type 0 where
  pub whole : length values ≡ length bounds
  pub below : AreBelow bounds values
  pub fit : is_fitting along squares values ≡ true

pub is_fitted : (along : List (List ℕ)) (squares : List Square) (bounds values : List ℕ) → In (fitting along squares bounds) values → IsFitted along squares bounds values
unfolding fitting
is_fitted along squares bounds values i =
    let kept = In-filter_from (is_fitting along squares) (assignments bounds) values i in
    record {
      whole = (In-choices_from (map (range_with_len 0) bounds) values kept.0).places ∙ length-map bounds (range_with_len 0);
      below = λ e low. assigned_below bounds values e kept.0 low;
      fit = kept.1;
    }

pub fitting_long : (along : List (List ℕ)) (squares : List Square) (bounds : List ℕ) → AreLong (length bounds) (fitting along squares bounds)
fitting_long along squares bounds row i = (is_fitted along squares bounds row i).whole
