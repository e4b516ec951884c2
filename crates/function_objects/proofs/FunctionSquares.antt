-- The squares and bounds of functions, by numbers alone.
use Rattle.std.proofs.Common.{◌≡◌, ℕ, zero, suc, ◌+◌, ◌-◌, ◌<◌, ◌≤◌, true, not, List, [], ◌∷◌, ◌++◌, length, get_or, map, filter, flat_map, replicate, refl, sym, ap, subst, ◌∙◌, arith, inl, inr}
use Rattle.std.specs.List.{range_with_len}
use Rattle.std.proofs.lemmas.Bool.{le-ltb, cases_eq}
use Rattle.std.proofs.lemmas.List.FromFn.{length-map-range_with_len, get_or-map-range_with_len}
use Rattle.finite_lists.specs.Members.{In}
use Rattle.finite_lists.proofs.Lists.{In_at, In-map, In-map_from, In-flat_map, In-flat_map_from, In-filter, In-filter_from}
use Rattle.finite_lists.proofs.DistinctLists.{In-range, In-range_from}
use Rattle.topos_model.specs.categories.Category.{Category, into, dom, cod, compose}
use Rattle.topos_model.specs.Laws.{IsCategory, IsInto}
use Rattle.topos_model.proofs.ArrowsInto.{In-into, In-into_from}
use Rattle.sieve_table.proofs.SieveMembers.{goes, comes}
use Rattle.place_closures.specs.Pairs.{AreRestricted, starts, pairs, start}
use Rattle.place_closures.proofs.PairNumbers.{total, length-joined, at_start, number_within, starts-same, starts-other}
use Rattle.place_closures.proofs.PairRows.{pairs-total}
use Rattle.natural_search.specs.declared.squares.Square.{Square}
use Rattle.natural_search.specs.Squares.{act, AreSquares, AreBounded}
use Rattle.function_objects.specs.Functions.{over_pairs, square_at, is_declared, pair_squares, arrow_squares, function_squares, function_bounds, restriction_table}
use Rattle.function_objects.proofs.FunctionTables.{joined_same}

alike : (n b a : ℕ) → replicate n b ≡ map (λ w. b) (range_with_len a n)
alike zero b a = refl
alike (suc n) b a = ap (λ l. b ∷ l) (alike n b (a + 1))

module _ (k : Category) (laws : IsCategory k) (size : ℕ → ℕ) (move : ℕ → ℕ → ℕ) (size' : ℕ → ℕ) (move' : ℕ → ℕ → ℕ) (are : AreRestricted k size move) where
  abbrev first : ℕ → ℕ → ℕ
  first c f = start k size move c f

  pub length-over : {A : Type 0} (E : ℕ → ℕ → A) (c : ℕ) → length (over_pairs k size move E c) ≡ length (pairs k size move c)
  length-over E c = length-joined (λ f. size (dom k f)) E (into k c) ∙ sym (pairs-total k size move c)

  pub over_at : {A : Type 0} (E : ℕ → ℕ → A) (c f w : ℕ) (d : A) → IsInto k c f → w < size (dom k f) → get_or (over_pairs k size move E c) (first c f + w) d ≡ E f w
  unfolding start
  over_at E c f w d i low = at_start (λ f. size (dom k f)) E (into k c) f w d (In-into k c f i) low

  pub bounds_over : (c : ℕ) → function_bounds k size move size' c ≡ over_pairs k size move (λ f w. size' (dom k f)) c
  unfolding function_bounds
  bounds_over c = joined_same (λ f. replicate (size (dom k f)) (size' (dom k f))) (λ f. map (λ w. size' (dom k f)) (range_with_len 0 (size (dom k f)))) (into k c) (λ f m. alike (size (dom k f)) (size' (dom k f)) 0)

  pub long_bounds : (c : ℕ) → length (function_bounds k size move size' c) ≡ length (pairs k size move c)
  long_bounds c = ap length (bounds_over c) ∙ length-over (λ f w. size' (dom k f)) c

  -- the bound at a place
  pub bound_is : (c f w : ℕ) → IsInto k c f → w < size (dom k f) → get_or (function_bounds k size move size' c) (first c f + w) 0 ≡ size' (dom k f)
  bound_is c f w i low = ap (λ l. get_or l (first c f + w) 0) (bounds_over c) ∙ over_at (λ f w. size' (dom k f)) c f w 0 i low

  -- the restrictions of values, by the table
  pub table_at : (c f y : ℕ) → IsInto k c f → y < size' c → act (restriction_table k size' move') f y ≡ move' f y
  unfolding restriction_table
  table_at c f y i low =
      let row : ℕ → List ℕ = λ f. map (move' f) (range_with_len 0 (size' (cod k f))) in
      let here : y < size' (cod k f) = subst (λ d. y < size' d) (sym i.1) low in
      ap (λ (l : List ℕ). get_or l y 0) (get_or-map-range_with_len row 0 (length k.ends) f f [] i.0 (omega arith))
      ∙ get_or-map-range_with_len (move' f) 0 (size' (cod k f)) y y 0 here (omega arith)

  pub table_long : (c f : ℕ) → IsInto k c f → length (get_or (restriction_table k size' move') f []) ≡ size' c
  unfolding restriction_table
  table_long c f i =
      let row : ℕ → List ℕ = λ f. map (move' f) (range_with_len 0 (size' (cod k f))) in
      ap length (get_or-map-range_with_len row 0 (length k.ends) f f [] i.0 (omega arith)) ∙ length-map-range_with_len (move' f) 0 (size' (cod k f)) ∙ ap size' i.1

  pub table_arrows : length (restriction_table k size' move') ≡ length k.ends
  unfolding restriction_table
  table_arrows = length-map-range_with_len (λ f. map (move' f) (range_with_len 0 (size' (cod k f)))) 0 (length k.ends)

  -- a square is that of a pair and an arrow that is no identity
  pub record IsSquare (c : ℕ) (q : Square) : Type 0 where
    pub f : ℕ
    pub w : ℕ
    pub g : ℕ
    pub arrow : IsInto k c f
    pub element : w < size (dom k f)
    pub below : IsInto k (dom k f) g
    pub is : square_at k size move c f w g ≡ q

  pub square_from : (c : ℕ) (q : Square) → In (function_squares k size move c) q → IsSquare c q
  unfolding function_squares arrow_squares pair_squares
  square_from c q i =
      let a = In-flat_map_from (arrow_squares k size move c) (into k c) q i in
      let b = In-flat_map_from (pair_squares k size move c a.0) (range_with_len 0 (size (dom k a.0))) q a.2 in
      let g = In-map_from (square_at k size move c a.0 b.0) (filter (is_declared k size move) (into k (dom k a.0))) q b.2 in
      let kept = In-filter_from (is_declared k size move) (into k (dom k a.0)) g.0 g.1 in
      record {
        f = a.0;
        w = b.0;
        g = g.0;
        arrow = In-into_from k c a.0 a.1;
        element = omega (arith, (In-range_from 0 (size (dom k a.0)) b.0 b.1).1);
        below = In-into_from k (dom k a.0) g.0 kept.0;
        is = g.2;
      }

  pub square_in : (c f w g : ℕ) → IsInto k c f → w < size (dom k f) → IsInto k (dom k f) g → k.objects ≤ g → In (function_squares k size move c) (square_at k size move c f w g)
  unfolding function_squares arrow_squares pair_squares
  square_in c f w g i low j other =
      In-flat_map (arrow_squares k size move c) (into k c) f (square_at k size move c f w g) (In-into k c f i)
      (In-flat_map (pair_squares k size move c f) (range_with_len 0 (size (dom k f))) w (square_at k size move c f w g) (In-range 0 (size (dom k f)) w (omega arith) (omega (arith, low)))
      (In-map (square_at k size move c f w) (filter (is_declared k size move) (into k (dom k f))) g
      (In-filter (is_declared k size move) (into k (dom k f)) g (In-into k (dom k f) g j) (ap not (le-ltb g k.objects other)))))

  pub each_square : (c : ℕ) (G : Square → Type 0) → ((q : Square) → IsSquare c q → G q) → (n : ℕ) (d : Square) → n < length (function_squares k size move c) → G (get_or (function_squares k size move c) n d)
  each_square c G h n d low = h (get_or (function_squares k size move c) n d) (square_from c (get_or (function_squares k size move c) n d) (In_at (function_squares k size move c) n d low))

  pub squares_are : (c : ℕ) → AreSquares (restriction_table k size' move') (length (function_bounds k size move size' c)) (function_squares k size move c)
  squares_are c = record {
    arrow = each_square c (λ q. q.arrow < length (restriction_table k size' move')) (λ q i. subst (λ q. q.arrow < length (restriction_table k size' move')) i.is (let a = i.below.0 in omega (arith, a, table_arrows)));
    element = each_square c (λ q. q.element < length (function_bounds k size move size' c)) (λ q i. subst (λ q. q.element < length (function_bounds k size move size' c)) i.is (omega (arith, number_within k size move c i.f i.w i.arrow i.element, long_bounds c)));
    restricted = each_square c (λ q. q.restricted < length (function_bounds k size move size' c)) (λ q i.
        subst (λ q. q.restricted < length (function_bounds k size move size' c)) i.is
        (omega (arith, number_within k size move c (compose k i.f i.g) (move i.g i.w) (goes k laws i.arrow i.below) (subst (λ d. move i.g i.w < size d) (sym (comes k laws i.arrow i.below)) (are.within (dom k i.f) i.g i.w i.below i.element)), long_bounds c)));
  }

  pub squares_bounded : (c : ℕ) → AreBounded (restriction_table k size' move') (function_bounds k size move size' c) (function_squares k size move c)
  squares_bounded c =
      each_square c (λ q. get_or (function_bounds k size move size' c) q.element 0 ≤ length (get_or (restriction_table k size' move') q.arrow []))
      (λ q i. subst (λ q. get_or (function_bounds k size move size' c) q.element 0 ≤ length (get_or (restriction_table k size' move') q.arrow [])) i.is
      (omega (arith, bound_is c i.f i.w i.arrow i.element, table_long (dom k i.f) i.g i.below)))

  -- the pairs of an arrow stand within all
  pub block_within : (c f : ℕ) → IsInto k c f → first c f + size (dom k f) ≤ length (pairs k size move c)
  unfolding start
  block_within c f i = omega (arith, block (λ f. size (dom k f)) (into k c) f (In-into k c f i), pairs-total k size move c)
    where
      block : (count : ℕ → ℕ) (fs : List ℕ) (f : ℕ) → In fs f → starts count fs f + count f ≤ total count fs
      block count [] f i = absurd i
      block count (g ∷ fs) f i = elim (cases_eq g f) [
        | inl s ↦ (let c : count g ≡ count f = ap count s in omega (arith, starts-same count (λ f w. w) g fs f s, c))
        | inr n ↦ omega (arith, starts-other count (λ f w. w) g fs f n, block count fs f (elim i [ inl s ↦ absurd (n s) | inr j ↦ j ]))
      ]
