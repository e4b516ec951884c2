-- Free places: a fitting row stays fitting with other numbers there, so there are as many rows as ways to set them.
use Rattle.std.proofs.Common.{◌≡◌, ℕ, zero, suc, ◌+◌, ◌-◌, ◌*◌, ◌<◌, ◌≤◌, inl, inr, Bool, true, false, not, cond, eqb, ◌||◌, min, nat_lt, Option, Some, None, List, [], ◌∷◌, ◌++◌, length, get_or, set, take, flat_map, refl, sym, ap, subst, ◌∙◌, arith, length-set, get_or-set_same, get_or-set_other}
use Rattle.std.specs.List.{range_with_len}
use Rattle.std.proofs.lemmas.Bool.{cases_eq, cases_lt, eq-eqb, ne_eqb, le-ltb, lt-ltb}
use Rattle.std.proofs.lemmas.Nat.{mul-le}
use Rattle.std.proofs.lemmas.List.Folds.{list_all_at}
use Rattle.std.proofs.lemmas.List.Sums.{list_all-from_AllPass}
use Rattle.std.proofs.lemmas.List.{take_all, take_more_set, length-take-le, length-append, set-get_or}
use Rattle.finite_lists.proofs.Lists.{In_at, all_each}
use Rattle.natural_search.specs.declared.squares.Square.{Square}
use Rattle.natural_search.specs.declared.links.Links.{Links}
use Rattle.natural_search.specs.declared.rows.FoundRows.{FoundRows}
use Rattle.natural_search.specs.Domains.{AreLinks}
use Rattle.natural_search.specs.Rows.{AreAll}
use Rattle.natural_search.specs.Search.{fitting, under, under_from}
use Rattle.natural_search.specs.Squares.{act, is_fitting, AreSquares, AreBounded, element_of, restricted_of}
use Rattle.natural_search.specs.FreePlaces.{has_place, is_free, free_choices}
use Rattle.natural_search.proofs.Searches.{under_whole, under_next}
use Rattle.natural_search.proofs.AssignedRows.{AreBelow, is_fitted}
use Rattle.natural_search.proofs.PlaceSearch.{each_fits, fitting_under}
use Rattle.natural_search.proofs.SquareChains.{IsLastSquare, chain_first}
use Rattle.natural_search.proofs.GuardedSearch.{solution_of}

-- a join of n lists that have at least m members each, or one that has
joined_many : {A : Type 0} (f : ℕ → List A) (m a n : ℕ) → ((w : ℕ) → a ≤ w → w < a + n → m ≤ length (f w)) → n * m ≤ length (flat_map f (range_with_len a n))
joined_many f m a zero each = omega arith
joined_many f m a (suc n) each =
    let rest = joined_many f m (a + 1) n (λ w low high. each w (omega arith) (omega (arith, high))) in
    omega (arith, rest, each a (omega arith) (omega arith), length-append (f a) (flat_map f (range_with_len (a + 1) n)))

joined_one : {A : Type 0} (f : ℕ → List A) (a n w : ℕ) → a ≤ w → w < a + n → length (f w) ≤ length (flat_map f (range_with_len a n))
joined_one f a zero w low high = absurd (omega arith)
joined_one f a (suc n) w low high = elim (cases_eq w a) [
  | inl e ↦ (let same : length (f w) ≡ length (f a) = ap (λ v. length (f v)) e in omega (arith, same, length-append (f a) (flat_map f (range_with_len (a + 1) n))))
  | inr ne ↦ (let rest = joined_one f (a + 1) n w (omega (arith, ne)) (omega arith) in omega (arith, rest, length-append (f a) (flat_map f (range_with_len (a + 1) n))))
]

below_set : (bounds values : List ℕ) (p v : ℕ) → length values ≡ length bounds → AreBelow bounds values → v < get_or bounds p 0 → AreBelow bounds (set values p v)
below_set bounds values p v whole below less e low = elim (cases_eq e p) [
  | inl same ↦ (let at : get_or (set values p v) e 0 ≡ v = ap (λ i. get_or (set values p v) i 0) same ∙ get_or-set_same values p v 0 (omega (arith, whole, low, same)) in let b : get_or bounds e 0 ≡ get_or bounds p 0 = ap (λ i. get_or bounds i 0) same in omega (arith, at, b))
  | inr other ↦ omega (arith, get_or-set_other values p e v 0 other, below e low)
]

module _ (natural : List ℕ → Bool) (bounds : List ℕ) (squares : List Square)
    (turns : (values : List ℕ) (p v : ℕ) → length values ≡ length bounds → AreBelow bounds values → p < length bounds → is_free squares p ≡ true → v < get_or bounds p 0 → natural values ≡ true → natural (set values p v) ≡ true) where
  -- one place more
  many_step : (p rest : ℕ) (values : List ℕ) → p < length bounds → length values ≡ length bounds → AreBelow bounds values → natural values ≡ true →
      ((others : List ℕ) → length others ≡ length bounds → AreBelow bounds others → natural others ≡ true → rest ≤ length (under natural bounds (take (p + 1) others))) →
      cond (is_free squares p) (get_or bounds p 0) 1 * rest ≤ length (under natural bounds (take p values))
  unfolding under_from
  many_step p rest values low whole below is each = decide (is_free squares p) refl
    where
      next : ℕ → List (List ℕ)
      next w = under natural bounds (take p values ++ w ∷ [])

      begun : length (take p values) ≡ p
      begun = length-take-le p values (omega (arith, whole, low))

      joined : under natural bounds (take p values) ≡ flat_map next (range_with_len 0 (get_or bounds p 0))
      joined =
          let z : get_or bounds p 0 - 0 ≡ get_or bounds p 0 = omega arith in
          under_next natural bounds (take p values) (omega (arith, begun, low)) ∙ ap (λ i. flat_map next (range_with_len 0 (get_or bounds i 0 - 0))) begun ∙ ap (λ m. flat_map next (range_with_len 0 m)) z

      set_next : (w : ℕ) → take (p + 1) (set values p w) ≡ take p values ++ w ∷ []
      set_next w = take_more_set values p w (omega (arith, whole, low))

      decide : (b : Bool) → is_free squares p ≡ b → cond (is_free squares p) (get_or bounds p 0) 1 * rest ≤ length (under natural bounds (take p values))
      decide true free =
          let more : (w : ℕ) → 0 ≤ w → w < 0 + get_or bounds p 0 → rest ≤ length (next w) =
          λ w zero less. subst (λ l. rest ≤ length (under natural bounds l)) (set_next w)
          (each (set values p w) (length-set values p w ∙ whole) (below_set bounds values p w whole below (omega (arith, less))) (turns values p w whole below low free (omega (arith, less)) is)) in
          let b : cond (is_free squares p) (get_or bounds p 0) 1 * rest ≡ get_or bounds p 0 * rest = ap (λ b. cond b (get_or bounds p 0) 1 * rest) free in
          omega (arith, b, joined_many next rest 0 (get_or bounds p 0) more, ap length joined)
      decide false taken =
          let w = get_or values p 0 in
          let same : take (p + 1) values ≡ take p values ++ w ∷ [] = ap (take (p + 1)) (sym (set-get_or values p 0)) ∙ set_next w in
          let here : rest ≤ length (next w) = subst (λ l. rest ≤ length (under natural bounds l)) same (each values whole below is) in
          let b : cond (is_free squares p) (get_or bounds p 0) 1 * rest ≡ 1 * rest = ap (λ b. cond b (get_or bounds p 0) 1 * rest) taken in
          omega (arith, b, here, joined_one next 0 (get_or bounds p 0) w (omega arith) (omega (arith, below p low)), ap length joined)

  -- those that begin with the first p numbers of a natural assignment
  pub many_under : (n p : ℕ) (values : List ℕ) → p + n ≡ length bounds → length values ≡ length bounds → AreBelow bounds values → natural values ≡ true →
      free_choices squares bounds p n ≤ length (under natural bounds (take p values))
  unfolding free_choices
  many_under zero p values end whole below is =
      let all : take p values ≡ values = take_all p values (omega (arith, whole, end)) in
      let one : length (under natural bounds (take p values)) ≡ 1 =
      ap (λ l. length (under natural bounds l)) all ∙ ap length (under_whole natural bounds values (omega (arith, whole))) ∙ ap (λ b. length (cond b (values ∷ []) [])) is in
      omega (arith, one)
  many_under (suc n) p values end whole below is =
      many_step p (free_choices squares bounds (p + 1) n) values (omega (arith, end)) whole below is (λ others w b i. many_under n (p + 1) others (omega (arith, end)) w b i)

-- no square has a free place
pub free_of : (squares : List Square) (p s : ℕ) (d : Square) → is_free squares p ≡ true → s < length squares → ((get_or squares s d).element ≡ p → ⊥) × ((get_or squares s d).restricted ≡ p → ⊥)
unfolding is_free
free_of squares p s d free low =
    let sq = get_or squares s d in
    let none : not (has_place p sq) ≡ true = all_each (λ s. not (has_place p s)) squares sq free (In_at squares s d low) in (
      λ e. (let h : eqb sq.element p ≡ true = eq-eqb _ _ e in let c : false ≡ true = ap (λ b. not (b || eqb sq.restricted p)) (sym h) ∙ none in absurd cc),
      λ e. (let h : eqb sq.restricted p ≡ true = eq-eqb _ _ e in last (eqb sq.element p) (ap (λ b. not (eqb sq.element p || b)) (sym h) ∙ none)),
    )
  where
    last : (b : Bool) → not (b || true) ≡ true → ⊥
    last true e = absurd cc
    last false e = absurd cc

-- what the links say of it
pub record AreTaken (squares : List Square) (p below above : ℕ) : Type 0 where
  pub free : below ≡ 0 → above ≡ 0 → is_free squares p ≡ true
  pub has_element : (below ≡ 0 → ⊥) → is_free squares p ≡ false
  pub has_restricted : (above ≡ 0 → ⊥) → is_free squares p ≡ false

pub links_say : (places : ℕ) (squares : List Square) (links : Links) (p below above : ℕ) → AreLinks places squares links → p < places → below ≡ get_or links.below.heads.items p below → above ≡ get_or links.above.heads.items p above → AreTaken squares p below above
unfolding is_free
links_say places squares links p below above are low one two = record {
  free = λ e f. list_all-from_AllPass (λ s. not (has_place p s)) squares (λ i d within.
      let ne = ne_eqb (get_or squares i d).element p (λ h. first.none i d (omega (arith, e)) within h) in
      let nr = ne_eqb (get_or squares i d).restricted p (λ h. second.none i d (omega (arith, f)) within h) in
      ap (λ b. not (b || eqb (get_or squares i d).restricted p)) ne ∙ ap (λ b. not (false || b)) nr);
  has_element = λ ne.
      let e = eq-eqb _ _ (first.key_of (below - 1) none (omega (arith, ne))) in
      list_all_at (λ s. not (has_place p s)) squares (below - 1) none (omega (arith, ne, first.low)) (ap (λ b. not (b || eqb (get_or squares (below - 1) none).restricted p)) e);
  has_restricted = λ ne.
      let e = eq-eqb _ _ (second.key_of (above - 1) none (omega (arith, ne))) in
      list_all_at (λ s. not (has_place p s)) squares (above - 1) none (omega (arith, ne, second.low)) (ap (λ b. not (eqb (get_or squares (above - 1) none).element p || b)) e ∙ right (eqb (get_or squares (above - 1) none).element p));
}
  where
    none : Square
    none = record { arrow = 0; element = 0; restricted = 0 }

    first : IsLastSquare element_of squares p (length squares) below
    first = chain_first element_of squares places links.below.heads.items links.below.links are.below p below below low one

    second : IsLastSquare restricted_of squares p (length squares) above
    second = chain_first restricted_of squares places links.above.heads.items links.above.links are.above p above above low two

    right : (b : Bool) → not (b || true) ≡ false
    right true = refl
    right false = refl

module _ (along : List (List ℕ)) (squares : List Square) (bounds : List ℕ) (are : AreSquares along (length bounds) squares) (bounded : AreBounded along bounds squares) where
  -- another number at a free place
  turned : (values : List ℕ) (p v : ℕ) → length values ≡ length bounds → AreBelow bounds values → p < length bounds → is_free squares p ≡ true → v < get_or bounds p 0 → is_fitting along squares values ≡ true → is_fitting along squares (set values p v) ≡ true
  turned values p v whole below low free less is =
      let solution = solution_of along squares bounds bounded values below are.element is in
      each_fits along squares (set values p v)
      (λ s d within.
      let sq = get_or squares s d in
      let none = free_of squares p s d free within in
      get_or-set_other values p sq.restricted v 0 none.1 ∙ solution.all_fit.fit s d within ∙ ap (act along sq.arrow) (sym (get_or-set_other values p sq.element v 0 none.0)))

  -- where there is one fitting row, there are as many as ways to set the free places
  pub many_fitting : 0 < length (fitting along squares bounds) → free_choices squares bounds 0 (length bounds) ≤ length (fitting along squares bounds)
  many_fitting some =
      let first = get_or (fitting along squares bounds) 0 [] in
      let is = is_fitted along squares bounds first (In_at (fitting along squares bounds) 0 [] some) in
      subst (λ l. free_choices squares bounds 0 (length bounds) ≤ length l) (sym (fitting_under along squares bounds))
      (many_under (is_fitting along squares) bounds squares turned (length bounds) 0 first (omega arith) is.whole is.below is.fit)

-- a search with no room is enough where there is so much of one map
over_room : (room choices now count : ℕ) → now ≡ cond (nat_lt room choices) 0 room → (0 < count → choices ≤ count) → now < count → room < count
over_room room choices now count is many over = elim (cases_lt room choices) [
  | inl less ↦ omega (arith, less, many (omega (arith, over)))
  | inr not_less ↦ (let e : now ≡ room = is ∙ ap (λ b. cond b 0 room) (le-ltb room choices not_less) in omega (arith, e, over))
]

within_room : (room choices now count : ℕ) → now ≡ cond (nat_lt room choices) 0 room → count ≤ now → count ≤ room
within_room room choices now count is few = elim (cases_lt room choices) [
  | inl less ↦ (let e : now ≡ 0 = is ∙ ap (λ b. cond b 0 room) (lt-ltb room choices less) in omega (arith, e, few))
  | inr not_less ↦ (let e : now ≡ room = is ∙ ap (λ b. cond b 0 room) (le-ltb room choices not_less) in omega (arith, e, few))
]

pub all_within : (room choices now : ℕ) (all : List (List ℕ)) (found : Option FoundRows) → now ≡ cond (nat_lt room choices) 0 room → (0 < length all → choices ≤ length all) → AreAll now all found → AreAll room all found
all_within room choices now all None is many over = over_room room choices now (length all) is many over
all_within room choices now all (Some rows) is many are = (are.0, within_room room choices now (length all) is are.1)

-- a product that stops at a most
pub capped : (x f most : ℕ) → min (x * min f most) most ≡ min (x * f) most
capped zero f most =
    let a : 0 * min f most ≡ 0 = omega arith in
    let b : 0 * f ≡ 0 = omega arith in
    ap (λ n. min n most) (a ∙ sym b)
capped (suc x) f most = elim (cases_lt f most) [
  | inl low ↦ (let e : min f most ≡ f = omega arith in ap (λ n. min (suc x * n) most) e)
  | inr high ↦
      (let e : min f most ≡ most = omega arith in
      let one = mul-le 1 most (suc x) most (omega arith) (omega arith) in
      let other = mul-le 1 f (suc x) f (omega arith) (omega arith) in
      let l : min (suc x * most) most ≡ most = omega (arith, one) in
      let r : min (suc x * f) most ≡ most = omega (arith, other, high) in
      ap (λ n. min (suc x * n) most) e ∙ l ∙ sym r)
]
