-- The fitting rows rise, and a row among rows that rise is found by halving.
use Rattle.std.proofs.Common.{◌≡◌, ℕ, zero, suc, ◌<◌, inl, inr, List, [], ◌∷◌, length, get_or, map, take, sym, ap, subst, ◌∙◌, arith}
use Rattle.std.specs.List.{range_with_len}
use Rattle.std.specs.declared.cmp.Ordering.{Ordering}
use Rattle.std.specs.declared.cmp.Ordering.TheVariants.{Less, Equal, Greater}
use Rattle.std.proofs.lemmas.Bool.{cases_lt}
use Rattle.finite_lists.specs.Members.{In}
use Rattle.finite_lists.specs.Rising.{Rising, NumbersBelow}
use Rattle.finite_lists.proofs.Lists.{In_at, In-map_from}
use Rattle.finite_lists.proofs.RisingLists.{Rising-filter, Rising-range}
use Rattle.natural_search.specs.declared.squares.Square.{Square}
use Rattle.natural_search.specs.Search.{fitting, assignments}
use Rattle.natural_search.specs.Squares.{is_fitting}
use Rattle.natural_search.specs.Rows.{IsCompared, IsPlaced}
use Rattle.natural_search.proofs.ListChoices.{Rising-choices}

pub fitting_rise : (along : List (List ℕ)) (squares : List Square) (bounds : List ℕ) → Rising NumbersBelow (fitting along squares bounds)
unfolding fitting
fitting_rise along squares bounds =
    Rising-filter NumbersBelow (is_fitting along squares) (assignments bounds)
    (Rising-choices (λ m n. m < n) (map (range_with_len 0) bounds) (λ xs i.
    let from = In-map_from (range_with_len 0) bounds xs i in
    subst (Rising (λ m n. m < n)) from.2 (Rising-range 0 from.0)))

abbrev first : ℕ → List ℕ → ℕ
first d [] = d
first d (z ∷ l) = z

abbrev rest : List ℕ → List ℕ
rest [] = []
rest (z ∷ l) = l

-- the first difference says which row is below
pub below_at : (row other : List ℕ) (i : ℕ) → take i row ≡ take i other → i < length row → i < length other → get_or row i 0 < get_or other i 0 → NumbersBelow row other
below_at [] other i e low low' less = absurd (omega arith)
below_at (x ∷ row) [] i e low low' less = absurd (omega arith)
below_at (x ∷ row) (y ∷ other) zero e low low' less = inl less
below_at (x ∷ row) (y ∷ other) (suc i) e low low' less = inr (ap (first 0) e, below_at row other i (ap rest e) (omega arith) (omega arith) less)

-- no two rows are below each other
apart : (row other : List ℕ) → NumbersBelow row other → NumbersBelow other row → ⊥
apart [] other h k = h
apart (x ∷ row) [] h k = h
apart (x ∷ row) (y ∷ other) (inl h) (inl k) = absurd (omega arith)
apart (x ∷ row) (y ∷ other) (inl h) (inr k) = absurd (omega (arith, h, k.0))
apart (x ∷ row) (y ∷ other) (inr h) (inl k) = absurd (omega (arith, k, h.0))
apart (x ∷ row) (y ∷ other) (inr h) (inr k) = apart row other h.1 k.1

rising_at : (xs : List (List ℕ)) (i j : ℕ) → Rising NumbersBelow xs → i < j → j < length xs → NumbersBelow (get_or xs i []) (get_or xs j [])
rising_at [] i j r low within = absurd (omega (arith, within))
rising_at (x ∷ xs) zero zero r low within = absurd (omega (arith, low))
rising_at (x ∷ xs) zero (suc j) r low within = r.0 (get_or xs j []) (In_at xs j [] (omega (arith, within)))
rising_at (x ∷ xs) (suc i) zero r low within = absurd (omega (arith, low))
rising_at (x ∷ xs) (suc i) (suc j) r low within = rising_at xs i j r.1 (omega (arith, low)) (omega (arith, within))

module _ (all : List (List ℕ)) (rise : Rising NumbersBelow all) (row : List ℕ) (n : ℕ) (low : n < length all) (is : get_or all n [] ≡ row) where
  -- it stands after a row that is below it
  pub stands_later : (m : ℕ) → m < length all → NumbersBelow (get_or all m []) row → m < n
  stands_later m within below = elim (cases_lt m n) [
    | inl l ↦ l
    | inr h ↦ absurd (elim (cases_lt n m) [
      | inl before ↦ apart (get_or all m []) row below (subst (λ r. NumbersBelow r (get_or all m [])) is (rising_at all n m rise before within))
      | inr same ↦ (let e : m ≡ n = omega arith in let s : get_or all m [] ≡ row = ap (λ i. get_or all i []) e ∙ is in
          apart row row (subst (λ r. NumbersBelow r row) s below) (subst (λ r. NumbersBelow r row) s below))
    ])
  ]

  -- and before one that it is below
  pub stands_before : (m : ℕ) → m < length all → NumbersBelow row (get_or all m []) → n < m
  stands_before m within below = elim (cases_lt n m) [
    | inl l ↦ l
    | inr h ↦ absurd (elim (cases_lt m n) [
      | inl before ↦ apart row (get_or all m []) below (subst (λ r. NumbersBelow (get_or all m []) r) is (rising_at all m n rise before low))
      | inr same ↦ (let e : m ≡ n = omega arith in let s : get_or all m [] ≡ row = ap (λ i. get_or all i []) e ∙ is in
          apart row row (subst (λ r. NumbersBelow row r) s below) (subst (λ r. NumbersBelow row r) s below))
    ])
  ]

-- a member stands somewhere
pub stands : (all : List (List ℕ)) (row : List ℕ) → In all row → (n : ℕ) × (n < length all) × (get_or all n [] ≡ row)
stands [] row i = absurd i
stands (x ∷ all) row (inl e) = (0, omega arith, e)
stands (x ∷ all) row (inr i) = let (n, low, is) = stands all row i in (suc n, omega (arith, low), is)

-- a row stands in one place alone
pub stands_once : (all : List (List ℕ)) → Rising NumbersBelow all → (m n : ℕ) → m < length all → n < length all → get_or all m [] ≡ get_or all n [] → m ≡ n
stands_once all rise m n low within is = elim (cases_lt m n) [
  | inl l ↦ absurd (let b = rising_at all m n rise l within in apart (get_or all m []) (get_or all n []) b (subst (λ r. NumbersBelow r (get_or all m [])) is (subst (λ r. NumbersBelow (get_or all m []) r) (sym is) b)))
  | inr h ↦ elim (cases_lt n m) [
    | inl l ↦ absurd (let b = rising_at all n m rise l low in apart (get_or all n []) (get_or all m []) b (subst (λ r. NumbersBelow r (get_or all n [])) (sym is) (subst (λ r. NumbersBelow (get_or all n []) r) is b)))
    | inr k ↦ omega arith
  ]
]

-- a row among rows that rise is compared with them as its place with theirs
pub is_placed : (all : List (List ℕ)) → Rising NumbersBelow all → (row : List ℕ) (n m : ℕ) → n < length all → get_or all n [] ≡ row → m < length all → (answer : Ordering) → IsCompared (get_or all m []) row answer → IsPlaced m n answer
is_placed all rise row n m low is within Less h = stands_later all rise row n low is m within h
is_placed all rise row n m low is within Equal h = stands_once all rise m n within low (h ∙ sym is)
is_placed all rise row n m low is within Greater h = stands_before all rise row n low is m within h
