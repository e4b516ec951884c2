-- One place more in a closed set: what it moves to, and the places whose covers are whole by that.
use Rattle.std.proofs.Common.{◌≡◌, ℕ, ◌+◌, ◌<◌, ◌≤◌, Bool, true, false, ◌||◌, ◌⊎◌, inl, inr, List, [], ◌∷◌, ◌++◌, length, get_or, set, drop, eqb, refl, sym, ap, subst, ◌∙◌, add-one, arith}
use Rattle.std.proofs.Math.Seq.{drop-cons}
use Rattle.std.proofs.Math.ListN.{drop_of_length-le}
use Rattle.std.specs.List.{list_all}
use Rattle.std.proofs.lemmas.Bool.{false≢true, cases_Bool, cases_eq, or_cases, or_left, or_right, eqb-true, eq-eqb, ne_eqb}
use Rattle.std.proofs.lemmas.List.{same_lists, get_or_default, length-set, get_or-set_same, get_or-set_other}
use Rattle.finite_lists.specs.Members.{In}
use Rattle.finite_lists.proofs.Lists.{all_each}
use Rattle.topos_model.specs.categories.Category.{has}
use Rattle.fin_category.proofs.ArrowLists.{has-In, In-has}
use Rattle.closed_sets.specs.Closed.{IsBelow}
use Rattle.closed_sets.specs.Ideals.{lowered}
use Rattle.closed_sets.specs.IdealLaws.{length-lowered}
use Rattle.closed_sets.specs.Adding.{KeepsBefore, IsNewBefore}
use Rattle.place_closures.specs.Passes.{moves, covered, two_passes, Has, AreTables, HasCover, IsMissing, IsRestrictionClosed, IsCoverClosed}
use Rattle.place_closures.specs.PassLaws.{same_places, length-covered, In-covered, In-covered_from, In-restricted, In-restricted_from, restricted_extends, restricted_moves, covered_extends, passes_move, passes_cover}

-- each member of a row is one of what is left, or has been met
abbrev pub Left : List ℕ → ℕ → (ℕ → Type 0) → Type 0
Left row i Q = (j : ℕ) → has j row ≡ true → (has j (drop i row) ≡ true) ⊎ Q j

pub left_all : (row : List ℕ) (Q : ℕ → Type 0) → Left row 0 Q
left_all row Q j h = inl h

pub left_one : (row : List ℕ) (i j : ℕ) → i < length row → has j (drop i row) ≡ (eqb j (get_or row i 0) || has j (drop (i + 1) row))
left_one row i j low = ap (has j) (drop-cons row i 0 low) ∙ ap (λ n. eqb j (get_or row i 0) || has j (drop n row)) (sym (add-one i))

pub left_more : (row : List ℕ) (i : ℕ) (Q R : ℕ → Type 0) → i < length row → ((j : ℕ) → Q j → R j) → R (get_or row i 0) → Left row i Q → Left row (i + 1) R
left_more row i Q R low up met left j h =
    elim (left j h) [
      | inl m ↦ elim (or_cases (eqb j (get_or row i 0)) (has j (drop (i + 1) row)) (sym (left_one row i j low) ∙ m)) [
        | inl e ↦ inr (subst R (sym (eqb-true j (get_or row i 0) e)) met)
        | inr n ↦ inl n
      ]
      | inr q ↦ inr (up j q)
    ]

pub left_none : (row : List ℕ) (i : ℕ) (Q : ℕ → Type 0) → length row ≤ i → Left row i Q → (j : ℕ) → has j row ≡ true → Q j
left_none row i Q high left j h = elim (left j h) [ inl m ↦ absurd (false≢true (ap (has j) (sym (drop_of_length-le row high)) ∙ m)) | inr q ↦ q ]

pub one_left : (row : List ℕ) (i : ℕ) → i < length row → has (get_or row i 0) row ≡ true
one_left row i low = has-In row (get_or row i 0) (Rattle.finite_lists.proofs.Lists.In_at row i 0 low)

-- places that are put back, one after another
pub back_more : (last t t' : List Bool) (row : List ℕ) (i : ℕ) → i < length row → get_or row i 0 < length t →
    ((j : ℕ) → has j (drop i row) ≡ false → get_or t j false ≡ get_or last j false) → t' ≡ set t (get_or row i 0) (get_or last (get_or row i 0) false) →
    (j : ℕ) → has j (drop (i + 1) row) ≡ false → get_or t' j false ≡ get_or last j false
back_more last t t' row i low within alike is j out =
    ap (λ s. get_or s j false) is
    ∙ elim (cases_eq j (get_or row i 0)) [
      | inl e ↦ ap (λ x. get_or (set t (get_or row i 0) (get_or last (get_or row i 0) false)) x false) e ∙ get_or-set_same t (get_or row i 0) _ false within ∙ ap (λ x. get_or last x false) (sym e)
      | inr ne ↦
          get_or-set_other t (get_or row i 0) j _ false ne
          ∙ alike j (left_one row i j low ∙ ap (λ b. b || has j (drop (i + 1) row)) (ne_eqb j (get_or row i 0) ne) ∙ out)
    ]

pub back_end : (last t : List Bool) (row : List ℕ) (i : ℕ) → length row ≤ i → length t ≡ length last → ((j : ℕ) → has j (drop i row) ≡ false → get_or t j false ≡ get_or last j false) → t ≡ last
back_end last t row i high e alike =
    same_lists t last e (λ k d low.
    let low' : k < length last = omega (arith, low, e) in
    get_or_default t k d false low ∙ alike k (ap (has k) (drop_of_length-le row high)) ∙ get_or_default last k false d low')

-- a member that fails, where not all pass
some_out : (p : ℕ → Bool) (row : List ℕ) → list_all p row ≡ false → (l : ℕ) × In row l × (p l ≡ false)
some_out p [] h = absurd (false≢true (sym h))
some_out p (x ∷ row) h =
    elim (cases_Bool (p x)) [
      | inl on ↦ let (l, m, out) = some_out p row (ap (λ b. Rattle.std.proofs.Common.◌&&◌ b (list_all p row)) (sym on) ∙ h) in (l, inr m, out)
      | inr off ↦ (x, inl refl, off)
    ]

set_place : (a : List Bool) (j k : ℕ) → get_or (set a j true) k false ≡ true → (k ≡ j) ⊎ (get_or a k false ≡ true)
set_place a j k h = elim (cases_eq k j) [ inl e ↦ inl e | inr ne ↦ inr (sym (get_or-set_other a j k true false ne) ∙ h) ]

pub set_keeps : (a : List Bool) (j k : ℕ) → j < length a → get_or a k false ≡ true → get_or (set a j true) k false ≡ true
set_keeps a j k low h =
    elim (cases_eq k j) [
      | inl e ↦ ap (λ x. get_or (set a j true) x false) e ∙ get_or-set_same a j true false low
      | inr ne ↦ get_or-set_other a j k true false ne ∙ h
    ]

module _ (below covers : List (List ℕ)) (laws : AreTables below covers) (last : List Bool) (place : ℕ) (count : length last ≡ length below) (closed : two_passes below covers last ≡ last) (low : place < length below) (out : get_or last place false ≡ false) where
  abbrev pub more : List Bool
  more = set last place true

  here_low : place < length last
  here_low = omega (arith, low, count)

  length-more : length more ≡ length below
  length-more = length-set last place true ∙ count

  moved : IsRestrictionClosed below last
  moved = subst (IsRestrictionClosed below) closed (passes_move below covers laws last count)

  covers_in : IsCoverClosed covers last
  covers_in = subst (IsCoverClosed covers) closed (passes_cover below covers laws last)

  reached : (j : ℕ) → Has below place j → get_or (lowered (moves below) more) j false ≡ true
  reached j h =
      let w = laws.within place j h in
      In-restricted below covers laws more place j (omega (arith, w, length-more)) (get_or-set_same last place true false here_low) (or_right (eqb j place) (has j (get_or below place [])) h)

  -- a place that it moves to, before it
  pub moves_early : (j : ℕ) → Has below place j → j < place → get_or last j false ≡ false → IsNewBefore place last (two_passes below covers more) j
  unfolding two_passes
  moves_early j h early off =
      (early, off, covered_extends below covers laws (lowered (moves below) more) (restricted_moves below covers laws more length-more) j (reached j h))

  module _ (b : List Bool) (row : List ℕ) (at : row ≡ get_or below place []) (bn : length b ≡ length below) (reads : (j : ℕ) → get_or b j false ≡ (get_or more j false || has j row)) where
    moved_row : (j : ℕ) → has j row ≡ true → Has below place j
    moved_row j h = subst (λ r. has j r ≡ true) at h

    last_in : IsBelow last b
    last_in k h = reads k ∙ or_left (get_or more k false) (has k row) (set_keeps last place k here_low h)

    b_is : b ≡ lowered (moves below) more
    b_is =
        same_places b (lowered (moves below) more) (bn ∙ sym (length-lowered (moves below) more ∙ length-more))
        (λ k h. elim (or_cases (get_or more k false) (has k row) (sym (reads k) ∙ h)) [
          | inl g ↦ restricted_extends below covers laws more k g
          | inr m ↦ reached k (moved_row k m)
        ])
        (λ k h.
        let r = In-restricted_from below covers laws more k h in
        let (i, g, m) = r.1 in
        reads k ∙ elim (or_cases (eqb k i) (has k (get_or below i [])) m) [
          | inl e ↦ or_left (get_or more k false) (has k row) (subst (λ x. get_or more x false ≡ true) (sym (eqb-true k i e)) g)
          | inr n ↦ elim (set_place last place i g) [
            | inl e ↦ or_right (get_or more k false) (has k row) (subst (λ x. has k x ≡ true) (ap (λ x. get_or below x []) e ∙ sym at) n)
            | inr g' ↦ or_left (get_or more k false) (has k row) (set_keeps last place k here_low (moved i k g' n))
          ]
        ])

    closure_is : two_passes below covers more ≡ covered covers b
    unfolding two_passes
    closure_is = ap (covered covers) (sym b_is)

    -- a place before it whose cover is whole
    pub covers_early : (k : ℕ) → IsMissing covers b place k → IsNewBefore place last (two_passes below covers more) k
    covers_early k (early, off, each) = (
      early,
      elim (cases_Bool (get_or last k false)) [ inl on ↦ absurd (false≢true (sym off ∙ last_in k on)) | inr absent ↦ absent ],
      ap (λ t. get_or t k false) closure_is ∙ In-covered covers b k (omega (arith, early, low, bn)) each,
    )

    new_cover : (k : ℕ) → k < length below → get_or last k false ≡ false → HasCover covers b k → (m : ℕ) × Has below place m × (get_or last m false ≡ false) × Has covers k m
    new_cover k within off each =
        elim (cases_Bool (list_all (λ l. get_or last l false) (get_or covers k []))) [
          | inl all ↦ absurd (false≢true (sym off ∙ covers_in k (omega (arith, within, count)) (λ l h. all_each (λ l. get_or last l false) (get_or covers k []) l all (In-has _ l h))))
          | inr not_all ↦
              let (l, m, absent) = some_out (λ l. get_or last l false) (get_or covers k []) not_all in
              let h : Has covers k l = has-In _ l m in (
                l,
                elim (or_cases (get_or more l false) (has l row) (sym (reads l) ∙ each l h)) [
                  | inl g ↦ elim (set_place last place l g) [
                    | inl e ↦ subst (λ x. Has below place x) (sym e) (laws.itself place low)
                    | inr on ↦ absurd (false≢true (sym absent ∙ on))
                  ]
                  | inr g ↦ moved_row l g
                ],
                absent,
                h,
              )
        ]

    -- the set with all such places is the closure
    pub all_covered : (t : List Bool) → length t ≡ length below → IsBelow b t → ((u : List Bool) → length u ≡ length below → IsCoverClosed covers u → IsBelow b u → IsBelow t u) →
        ((m : ℕ) → Has below place m → get_or last m false ≡ false → (k : ℕ) → Has covers k m → HasCover covers b k → get_or t k false ≡ true) → t ≡ two_passes below covers more
    all_covered t tn above least done =
        let cn : length (covered covers b) ≡ length below = length-covered covers b ∙ bn in
        let stays : IsRestrictionClosed below b = subst (IsRestrictionClosed below) (sym b_is) (restricted_moves below covers laws more length-more) in
        same_places t (covered covers b) (tn ∙ sym cn)
        (least (covered covers b) cn (Rattle.place_closures.specs.PassLaws.covered_covers below covers laws b) (covered_extends below covers laws b stays))
        (λ k h.
        let (within, each) = In-covered_from covers b k h in
        elim (cases_Bool (get_or last k false)) [
          | inl on ↦ above k (last_in k on)
          | inr off ↦ let (m, moves_to, absent, has_it) = new_cover k (omega (arith, within, bn)) off each in done m moves_to absent k has_it each
        ])
        ∙ sym closure_is

    -- and has no new place before it
    pub keeps_before : ((j : ℕ) → has j row ≡ true → j < place → get_or last j false ≡ true) →
        ((m : ℕ) → Has below place m → get_or last m false ≡ false → (k : ℕ) → Has covers k m → k < place → HasCover covers b k → get_or b k false ≡ true) →
        (t : List Bool) → t ≡ two_passes below covers more → KeepsBefore place last t
    keeps_before late late_covers t is k early h =
        let (within, each) = In-covered_from covers b k (ap (λ s. get_or s k false) (sym (is ∙ closure_is)) ∙ h) in
        elim (cases_Bool (get_or last k false)) [
          | inl on ↦ on
          | inr off ↦
              let (m, moves_to, absent, has_it) = new_cover k (omega (arith, within, bn)) off each in
              let on = late_covers m moves_to absent k has_it early each in
              elim (or_cases (get_or more k false) (has k row) (sym (reads k) ∙ on)) [
                | inl g ↦ elim (set_place last place k g) [ inl e ↦ absurd (omega (arith, e, early)) | inr on' ↦ on' ]
                | inr m ↦ late k m early
              ]
        ]

    -- without the place, the set is as before but for what it moves to
    pub taken_back : (t : List Bool) → t ≡ set b place false → (j : ℕ) → has j row ≡ false → get_or t j false ≡ get_or last j false
    taken_back t is j absent =
        ap (λ s. get_or s j false) is
        ∙ elim (cases_eq j place) [
          | inl e ↦ ap (λ x. get_or (set b place false) x false) e ∙ get_or-set_same b place false false (omega (arith, low, bn)) ∙ sym out ∙ ap (λ x. get_or last x false) (sym e)
          | inr ne ↦
              get_or-set_other b place j false false ne ∙ reads j
              ∙ ap (λ x. get_or more j false || x) absent ∙ Rattle.place_closures.proofs.PassSteps.or_no (get_or more j false) ∙ get_or-set_other last place j true false ne
        ]

-- adding a place whose cover is in the set
pub add_least : (covers : List (List ℕ)) (t u : List Bool) (x : ℕ) → HasCover covers t x → x < length u → IsCoverClosed covers u → IsBelow t u → IsBelow (set t x true) u
add_least covers t u x each within covers_closed le k h =
    elim (set_place t x k h) [
      | inl e ↦ ap (λ y. get_or u y false) e ∙ covers_closed x within (λ l m. le l (each l m))
      | inr on ↦ le k on
    ]

-- a row of a table that is read
pub row_has : (table : List (List ℕ)) (i j : ℕ) (row : List ℕ) → row ≡ get_or table i [] → has j row ≡ true → Has table i j
row_has table i j row at h = subst (λ r. has j r ≡ true) at h

pub has_row : (table : List (List ℕ)) (i j : ℕ) (row : List ℕ) → row ≡ get_or table i [] → Has table i j → has j row ≡ true
has_row table i j row at h = subst (λ r. has j r ≡ true) (sym at) h

-- one more in a row of a table
has_pushed : (k : ℕ) (xs : List ℕ) (i : ℕ) → has k (xs ++ i ∷ []) ≡ (has k xs || eqb k i)
has_pushed k [] i = Rattle.place_closures.proofs.PassSteps.or_no (eqb k i)
has_pushed k (x ∷ xs) i = ap (λ b. eqb k x || b) (has_pushed k xs i) ∙ Rattle.place_closures.proofs.PassSteps.or_assoc (eqb k x) (has k xs) (eqb k i)

module _ (table : List (List ℕ)) (x i : ℕ) (row : List ℕ) (low : x < length table) (is : row ≡ get_or table x [] ++ i ∷ []) where
  read_pushed : (k : ℕ) → has k row ≡ (has k (get_or table x []) || eqb k i)
  read_pushed k = ap (has k) is ∙ has_pushed k (get_or table x []) i

  pub pushed_new : Has (set table x row) x i
  pushed_new = ap (has i) (get_or-set_same table x row [] low) ∙ read_pushed i ∙ or_right (has i (get_or table x [])) (eqb i i) (eq-eqb i i refl)

  pub pushed_old : (j k : ℕ) → Has table j k → Has (set table x row) j k
  pushed_old j k h =
      elim (cases_eq j x) [
        | inl e ↦
            ap (λ y. has k (get_or (set table x row) y [])) e ∙ ap (has k) (get_or-set_same table x row [] low) ∙ read_pushed k
            ∙ or_left (has k (get_or table x [])) (eqb k i) (ap (λ y. has k (get_or table y [])) (sym e) ∙ h)
        | inr ne ↦ ap (has k) (get_or-set_other table x j row [] ne) ∙ h
      ]

  pub of_pushed : (j k : ℕ) → Has (set table x row) j k → Has table j k ⊎ (k ≡ i)
  of_pushed j k h =
      elim (cases_eq j x) [
        | inl e ↦
            elim (or_cases (has k (get_or table x [])) (eqb k i) (sym (read_pushed k) ∙ sym (ap (has k) (get_or-set_same table x row [] low)) ∙ ap (λ y. has k (get_or (set table x row) y [])) (sym e) ∙ h)) [
              | inl m ↦ inl (ap (λ y. has k (get_or table y [])) e ∙ m)
              | inr m ↦ inr (eqb-true k i m)
            ]
        | inr ne ↦ inl (sym (ap (has k) (get_or-set_other table x j row [] ne)) ∙ h)
      ]
