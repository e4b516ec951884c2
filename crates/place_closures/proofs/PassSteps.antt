-- The two passes, one place after another.
use Rattle.std.proofs.Common.{◌≡◌, ℕ, ◌+◌, ◌<◌, ◌≤◌, Bool, true, false, ◌&&◌, ◌||◌, inl, inr, List, [], ◌∷◌, length, get_or, set, drop, eqb, refl, sym, ap, subst, ◌∙◌, add-one, arith}
use Rattle.std.proofs.Math.Seq.{drop-cons}
use Rattle.std.proofs.Math.ListN.{drop_of_length-le}
use Rattle.std.specs.List.{list_all}
use Rattle.std.proofs.lemmas.Bool.{cases_eq, or_cases, or_left, or_right, eqb-true, eq-eqb, ne_eqb}
use Rattle.std.proofs.lemmas.List.{get_or-set_same, get_or-set_other}
use Rattle.finite_lists.proofs.Lists.{each_all, all_each}
use Rattle.topos_model.specs.categories.Category.{has}
use Rattle.fin_category.proofs.ArrowLists.{has-In, In-has}
use Rattle.closed_sets.specs.Closed.{IsBelow}
use Rattle.closed_sets.specs.Ideals.{lowered}
use Rattle.closed_sets.specs.IdealLaws.{in_list, length-lowered}
use Rattle.place_closures.specs.Passes.{moves, covered, Has, AreTables}
use Rattle.place_closures.specs.PassLaws.{same_places, length-covered, In-covered_from, In-restricted_from, restricted_moves, covered_covers}

pub or_no : (b : Bool) → (b || false) ≡ b
or_no true = refl
or_no false = refl

pub or_assoc : (a b c : Bool) → (a || (b || c)) ≡ ((a || b) || c)
or_assoc true b c = refl
or_assoc false b c = refl

-- a row's places, one after another
set_one : (xs : List Bool) (l u : ℕ) → l < length xs → get_or (set xs l true) u false ≡ (get_or xs u false || eqb u l)
set_one xs l u low =
    elim (cases_eq u l) [
      | inl e ↦ ap (λ v. get_or (set xs l true) v false) e ∙ get_or-set_same xs l true false low ∙ sym (or_right (get_or xs u false) (eqb u l) (eq-eqb u l e))
      | inr n ↦ get_or-set_other xs l u true false n ∙ sym (ap (λ b. get_or xs u false || b) (ne_eqb u l n) ∙ or_no (get_or xs u false))
    ]

-- a member of what is left of a row is a member
pub drop_has : (row : List ℕ) (i : ℕ) → i < length row → has (get_or row i 0) row ≡ true
drop_has row i low = has-In row (get_or row i 0) (Rattle.finite_lists.proofs.Lists.In_at row i 0 low)

pub mark-step : (xs ys : List Bool) (row : List ℕ) (i j : ℕ) → i < length row → get_or row i 0 < length xs → ys ≡ set xs (get_or row i 0) true →
    (get_or ys j false || has j (drop (i + 1) row)) ≡ (get_or xs j false || has j (drop i row))
mark-step xs ys row i j low within e =
    ap (λ t. get_or t j false || has j (drop (i + 1) row)) e
    ∙ ap (λ b. b || has j (drop (i + 1) row)) (set_one xs (get_or row i 0) j within)
    ∙ ap (λ n. (get_or xs j false || eqb j (get_or row i 0)) || has j (drop n row)) (add-one i)
    ∙ sym (or_assoc (get_or xs j false) (eqb j (get_or row i 0)) (has j (drop (Rattle.std.proofs.Common.suc i) row)))
    ∙ ap (λ r. get_or xs j false || has j r) (sym (drop-cons row i 0 low))

pub mark-end : (xs : List Bool) (row : List ℕ) (i j : ℕ) → length row ≤ i → (get_or xs j false || has j (drop i row)) ≡ get_or xs j false
mark-end xs row i j high = ap (λ r. get_or xs j false || has j r) (drop_of_length-le row high) ∙ or_no (get_or xs j false)

pub all-step : (p : ℕ → Bool) (row : List ℕ) (i : ℕ) → i < length row → p (get_or row i 0) ≡ true → list_all p (drop (i + 1) row) ≡ list_all p (drop i row)
all-step p row i low holds =
    ap (λ n. list_all p (drop n row)) (add-one i) ∙ ap (λ b. b && list_all p (drop (Rattle.std.proofs.Common.suc i) row)) (sym holds) ∙ ap (list_all p) (sym (drop-cons row i 0 low))

pub all-end : (p : ℕ → Bool) (row : List ℕ) (i : ℕ) → length row ≤ i → list_all p (drop i row) ≡ true
all-end p row i high = ap (list_all p) (drop_of_length-le row high)

pub all-fails : (p : ℕ → Bool) (row : List ℕ) (i : ℕ) → i < length row → p (get_or row i 0) ≡ false → list_all p (drop i row) ≡ false
all-fails p row i low no_more = ap (list_all p) (drop-cons row i 0 low) ∙ ap (λ b. b && list_all p (drop (Rattle.std.proofs.Common.suc i) row)) no_more

module _ (below covers : List (List ℕ)) (laws : AreTables below covers) where
  -- a place that moves to others
  pub restrict_within : (a t t' : List Bool) (i : ℕ) (row : List ℕ) → length a ≡ length below → row ≡ get_or below i [] → IsBelow t (lowered (moves below) a) → get_or t i false ≡ true →
      ((j : ℕ) → get_or t' j false ≡ (get_or t j false || has j row)) → IsBelow t' (lowered (moves below) a)
  restrict_within a t t' i row e at le on reads j h =
      elim (or_cases (get_or t j false) (has j row) (sym (reads j) ∙ h)) [
        | inl g ↦ le j g
        | inr m ↦ restricted_moves below covers laws a e i j (le i on) (subst (λ r. has j r ≡ true) at m)
      ]

  pub restrict_done : (a t t' : List Bool) (i : ℕ) (row : List ℕ) → row ≡ get_or below i [] →
      ((l j : ℕ) → l < i → get_or a l false ≡ true → Has below l j → get_or t j false ≡ true) → ((j : ℕ) → get_or t' j false ≡ (get_or t j false || has j row)) →
      (l j : ℕ) → l < i + 1 → get_or a l false ≡ true → Has below l j → get_or t' j false ≡ true
  restrict_done a t t' i row at done reads l j low on m =
      reads j ∙ elim (cases_eq l i) [
        | inl e ↦ or_right (get_or t j false) (has j row) (subst (λ r. has j r ≡ true) (ap (λ x. get_or below x []) e ∙ sym at) m)
        | inr n ↦ or_left (get_or t j false) (has j row) (done l j (omega (arith, low, n)) on m)
      ]

  pub restrict_skipped : (a t : List Bool) (i : ℕ) → IsBelow a t → get_or t i false ≡ false →
      ((l j : ℕ) → l < i → get_or a l false ≡ true → Has below l j → get_or t j false ≡ true) →
      (l j : ℕ) → l < i + 1 → get_or a l false ≡ true → Has below l j → get_or t j false ≡ true
  restrict_skipped a t i le off done l j low on m =
      elim (cases_eq l i) [
        | inl e ↦ let yes : get_or t i false ≡ true = subst (λ x. get_or t x false ≡ true) e (le l on) in cc
        | inr n ↦ done l j (omega (arith, low, n)) on m
      ]

  pub restrict_end : (a t : List Bool) (i : ℕ) → length a ≡ length below → length t ≡ length below → length below ≤ i → IsBelow a t → IsBelow t (lowered (moves below) a) →
      ((l j : ℕ) → l < i → get_or a l false ≡ true → Has below l j → get_or t j false ≡ true) → t ≡ lowered (moves below) a
  restrict_end a t i e f high le within done =
      same_places t (lowered (moves below) a) (f ∙ sym e ∙ sym (length-lowered (moves below) a)) within (λ j h.
      let r = In-restricted_from below covers laws a j h in
      let (l, on, m) = r.1 in
      elim (or_cases (eqb j l) (has j (get_or below l [])) m) [
        | inl same ↦ subst (λ x. get_or t x false ≡ true) (sym (eqb-true j l same)) (le l on)
        | inr n ↦ done l j (let low = in_list a l on in omega (arith, low, e, high)) on n
      ])

  -- a place whose cover is there
  pub cover_within : (a t t' : List Bool) (i : ℕ) (row : List ℕ) → length a ≡ length below → length t ≡ length below → i < length below → row ≡ get_or covers i [] → IsBelow t (covered covers a) →
      list_all (λ j. get_or t j false) row ≡ true → t' ≡ set t i true → IsBelow t' (covered covers a)
  cover_within a t t' i row e f low at le all is j h =
      elim (or_cases (get_or t j false) (eqb j i) (sym (ap (λ s. get_or s j false) is ∙ set_one t i j (omega (arith, f, low))) ∙ h)) [
        | inl g ↦ le j g
        | inr same ↦ subst (λ x. get_or (covered covers a) x false ≡ true) (sym (eqb-true j i same))
            (covered_covers below covers laws a i (omega (arith, e, low, length-covered covers a)) (λ l m. le l (all_each (λ j. get_or t j false) row l all (In-has row l (subst (λ r. has l r ≡ true) (sym at) m)))))
      ]

  pub cover_above : (a t t' : List Bool) (i : ℕ) → length t ≡ length below → i < length below → IsBelow a t → t' ≡ set t i true → IsBelow a t'
  cover_above a t t' i f low le is j h = ap (λ s. get_or s j false) is ∙ set_one t i j (omega (arith, f, low)) ∙ or_left (get_or t j false) (eqb j i) (le j h)

  pub cover_done : (a t t' : List Bool) (i : ℕ) → length t ≡ length below → i < length below → t' ≡ set t i true →
      ((l : ℕ) → l < i → get_or (covered covers a) l false ≡ true → get_or t l false ≡ true) →
      (l : ℕ) → l < i + 1 → get_or (covered covers a) l false ≡ true → get_or t' l false ≡ true
  cover_done a t t' i f low is done l lower h =
      ap (λ s. get_or s l false) is ∙ set_one t i l (omega (arith, f, low)) ∙ elim (cases_eq l i) [
        | inl e ↦ or_right (get_or t l false) (eqb l i) (eq-eqb l i e)
        | inr n ↦ or_left (get_or t l false) (eqb l i) (done l (omega (arith, lower, n)) h)
      ]

  pub cover_skipped : (a t : List Bool) (i : ℕ) (row : List ℕ) → row ≡ get_or covers i [] → IsBelow a t → list_all (λ j. get_or t j false) row ≡ false →
      ((l : ℕ) → l < i → get_or (covered covers a) l false ≡ true → get_or t l false ≡ true) →
      (l : ℕ) → l < i + 1 → get_or (covered covers a) l false ≡ true → get_or t l false ≡ true
  cover_skipped a t i row at le off done l lower h =
      elim (cases_eq l i) [
        | inl e ↦
            let r = In-covered_from covers a l h in
            let yes : list_all (λ j. get_or t j false) row ≡ true =
            each_all (λ j. get_or t j false) row (λ j m. le j (r.1 j (subst (λ r. has j r ≡ true) (at ∙ ap (λ x. get_or covers x []) (sym e)) (has-In row j m)))) in
            cc
        | inr n ↦ done l (omega (arith, lower, n)) h
      ]

  pub cover_end : (a t : List Bool) (i : ℕ) → length a ≡ length below → length t ≡ length below → length below ≤ i → IsBelow t (covered covers a) →
      ((l : ℕ) → l < i → get_or (covered covers a) l false ≡ true → get_or t l false ≡ true) → t ≡ covered covers a
  cover_end a t i e f high within done =
      same_places t (covered covers a) (f ∙ sym e ∙ sym (length-covered covers a)) within (λ j h.
      done j (let low = in_list (covered covers a) j h in omega (arith, low, length-covered covers a, e, high)) h)
