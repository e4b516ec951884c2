-- Groups that are filled one member after another.
use Rattle.std.proofs.Common.{◌≡◌, ℕ, zero, suc, ◌+◌, ◌*◌, ◌<◌, ◌≤◌, cond, inl, inr, List, [], ◌∷◌, ◌++◌, length, get_or, set, map, take, replicate, eqb, refl, sym, ap, subst, ◌∙◌, arith}
use Rattle.std.specs.List.{sum_by}
use Rattle.std.proofs.Math.Nat.{mul-le-mul_right}
use Rattle.std.proofs.lemmas.Bool.{cases_lt, cases_eq, eq-eqb, ne_eqb, lt-ltb, le-ltb}
use Rattle.std.proofs.lemmas.List.{same_lists, get_or_default, get_or-replicate, length-replicate, length-set, get_or-set_same, get_or-set_other, take_more, take_all, get_or_past}
use Rattle.std.proofs.lemmas.List.Sums.{sum_by-take-le}
use Rattle.std.proofs.lemmas.List.FromFn.{length-map-range_with_len, get_or-map-range_with_len}
use Rattle.functor_store.specs.Store.{into, cost_from, push_at}
use Rattle.sealed_functors.specs.declared.rows.ElementRows.{ElementRows}
use Rattle.sealed_functors.specs.Rows.{part, parts, rows_at, group_up_to, up_to}

pub length-parts : (w n : ℕ) (xs : List ℕ) → length (parts w n xs) ≡ n
unfolding parts
length-parts w n xs = length-map-range_with_len {X = List ℕ} (part w xs) 0 n

pub part_at : (w n : ℕ) (xs : List ℕ) (k : ℕ) → k < n → get_or (parts w n xs) k [] ≡ part w xs k
unfolding parts
part_at w n xs k low = get_or-map-range_with_len {X = List ℕ} (part w xs) 0 n k k [] low (omega arith)

pub part_within : (w n k l : ℕ) → l ≡ n * w → k < n → k * w + w ≤ l
part_within w n k l e low =
    let m : suc k * w ≤ n * w = mul-le-mul_right w (omega arith) in
    let s : suc k * w ≡ k * w + w = omega arith in
    omega (arith, m, s, e)

pub mapped_at : {B : Type 0} (h : ElementRows → List B) (at : List ElementRows) (c : ℕ) → c < length at → get_or (map h at) c [] ≡ h (rows_at at c)
mapped_at h [] c low = absurd (omega arith)
mapped_at h (r ∷ at) zero low = refl
mapped_at h (r ∷ at) (suc c) low = mapped_at h at c (omega arith)

module _ (gs : List (List (List ℕ))) where
  pub length-up_to : (c k : ℕ) → length (up_to gs c k) ≡ length gs
  unfolding up_to
  length-up_to c k = length-map-range_with_len {X = List (List ℕ)} (group_up_to gs c k) 0 (length gs)

  group_at : (c k o : ℕ) → o < length gs → get_or (up_to gs c k) o [] ≡ group_up_to gs c k o
  unfolding up_to
  group_at c k o low = get_or-map-range_with_len {X = List (List ℕ)} (group_up_to gs c k) 0 (length gs) o o [] low (omega arith)

  pub before : (c k o : ℕ) → o < length gs → o < c → get_or (up_to gs c k) o [] ≡ get_or gs o []
  before c k o low b = group_at c k o low ∙ ap (λ t. cond t (get_or gs o []) (cond (eqb o c) (take k (get_or gs o [])) [])) (lt-ltb o c b)

  pub here : (c k : ℕ) → c < length gs → get_or (up_to gs c k) c [] ≡ take k (get_or gs c [])
  here c k low =
      group_at c k c low ∙ ap (λ t. cond t (get_or gs c []) (cond (eqb c c) (take k (get_or gs c [])) [])) (le-ltb c c (omega arith))
      ∙ ap (λ t. cond t (take k (get_or gs c [])) []) (eq-eqb c c refl)

  pub after : (c k o : ℕ) → c < o → get_or (up_to gs c k) o [] ≡ []
  after c k o a =
      elim (cases_lt o (length gs)) [
        | inl low ↦
            group_at c k o low ∙ ap (λ t. cond t (get_or gs o []) (cond (eqb o c) (take k (get_or gs o [])) [])) (le-ltb o c (omega arith))
            ∙ ap (λ t. cond t (take k (get_or gs o [])) []) (ne_eqb o c (λ e. absurd (omega (arith, a, e))))
        | inr high ↦ get_or_past (up_to gs c k) o [] (omega (arith, high, length-up_to c k))
      ]

  -- lists of groups with the same groups are one
  same_groups : (xs ys : List (List (List ℕ))) → length xs ≡ length ys → ((o : ℕ) → o < length xs → get_or xs o [] ≡ get_or ys o []) → xs ≡ ys
  same_groups xs ys e h = same_lists xs ys e (λ o d low. get_or_default xs o d [] low ∙ h o low ∙ get_or_default ys o [] d (omega (arith, low, e)))

  pub up_to_none : (n : ℕ) → length gs ≡ n → up_to gs 0 0 ≡ replicate n []
  up_to_none n e =
      same_groups (up_to gs 0 0) (replicate n []) (length-up_to 0 0 ∙ e ∙ sym (length-replicate {A = List (List ℕ)} n [])) (λ o low.
      let low' : o < n = omega (arith, low, length-up_to 0 0, e) in
      at o low' ∙ sym (get_or-replicate n o [] [] low'))
    where
      at : (o : ℕ) → o < n → get_or (up_to gs 0 0) o [] ≡ []
      at zero low = here 0 0 (omega (arith, low, e)) ∙ none (get_or gs 0 [])
        where
          none : (g : List (List ℕ)) → take 0 g ≡ []
          none [] = refl
          none (r ∷ g) = refl
      at (suc o) low = after 0 0 (suc o) (omega arith)

  pub up_to_more : (c k : ℕ) (row : List ℕ) → c < length gs → k < length (get_or gs c []) → row ≡ get_or (get_or gs c []) k [] → push_at (up_to gs c k) c row ≡ up_to gs c (k + 1)
  unfolding push_at
  up_to_more c k row low inside is =
      let x = get_or (up_to gs c k) c [] ++ row ∷ [] in
      same_groups (set (up_to gs c k) c x) (up_to gs c (k + 1)) (length-set (up_to gs c k) c x ∙ length-up_to c k ∙ sym (length-up_to c (k + 1))) (λ o l.
      let l' : o < length gs = omega (arith, l, length-set (up_to gs c k) c x, length-up_to c k) in
      elim (cases_eq o c) [
        | inl e ↦
            ap (λ n. get_or (set (up_to gs c k) c x) n []) e ∙ get_or-set_same (up_to gs c k) c x [] (omega (arith, low, length-up_to c k))
            ∙ ap (λ g. g ++ row ∷ []) (here c k low) ∙ ap (λ r. take k (get_or gs c []) ++ r ∷ []) is ∙ sym (take_more (get_or gs c []) k [] inside)
            ∙ sym (here c (k + 1) low) ∙ ap (λ n. get_or (up_to gs c (k + 1)) n []) (sym e)
        | inr n ↦
            get_or-set_other (up_to gs c k) c o x [] n ∙ elim (cases_lt o c) [
              | inl b ↦ before c k o l' b ∙ sym (before c (k + 1) o l' b)
              | inr h ↦ after c k o (omega (arith, h, n)) ∙ sym (after c (k + 1) o (omega (arith, h, n)))
            ]
      ])

  pub up_to_next : (c k : ℕ) → c < length gs → length (get_or gs c []) ≤ k → up_to gs c k ≡ up_to gs (c + 1) 0
  up_to_next c k low whole =
      same_groups (up_to gs c k) (up_to gs (c + 1) 0) (length-up_to c k ∙ sym (length-up_to (c + 1) 0)) (λ o l.
      let l' : o < length gs = omega (arith, l, length-up_to c k) in
      elim (cases_lt o c) [
        | inl b ↦ before c k o l' b ∙ sym (before (c + 1) 0 o l' (omega arith))
        | inr h ↦ elim (cases_eq o c) [
          | inl e ↦
              ap (λ n. get_or (up_to gs c k) n []) e ∙ here c k low ∙ take_all k (get_or gs c []) whole ∙ ap (λ n. get_or gs n []) (sym e)
              ∙ sym (before (c + 1) 0 o l' (omega (arith, e)))
          | inr n ↦ after c k o (omega (arith, h, n)) ∙ sym (elim (cases_eq o (c + 1)) [
            | inl e ↦ ap (λ n. get_or (up_to gs (c + 1) 0) n []) e ∙ here (c + 1) 0 (omega (arith, l', e)) ∙ none (get_or gs (c + 1) [])
            | inr m ↦ after (c + 1) 0 o (omega (arith, h, n, m))
          ])
        ]
      ])
    where
      none : (g : List (List ℕ)) → take 0 g ≡ []
      none [] = refl
      none (r ∷ g) = refl

  pub up_to_all : (n : ℕ) → length gs ≤ n → up_to gs n 0 ≡ gs
  up_to_all n e =
      same_groups (up_to gs n 0) gs (length-up_to n 0) (λ o low.
      let low' : o < length gs = omega (arith, low, length-up_to n 0) in before n 0 o low' (omega (arith, low', e)))

-- groups that are fronts of others cost no more
pub fronts_cost : (ends : List (ℕ × ℕ)) (i : ℕ) (gs hs : List (List (List ℕ))) → length gs ≡ length hs →
    ((o : ℕ) → o < length gs → (n : ℕ) × (get_or gs o [] ≡ take n (get_or hs o []))) → cost_from ends i gs ≤ cost_from ends i hs
unfolding cost_from
fronts_cost ends i [] [] e h = omega arith
fronts_cost ends i [] (x ∷ hs) e h = absurd (omega (arith, e))
fronts_cost ends i (g ∷ gs) [] e h = absurd (omega (arith, e))
fronts_cost ends i (g ∷ gs) (x ∷ hs) e h =
    let (n, is) = h 0 (omega arith) in
    let first : sum_by (λ row. 1 + into ends i + length row) g ≤ sum_by (λ row. 1 + into ends i + length row) x =
    subst (λ t. sum_by (λ row. 1 + into ends i + length row) t ≤ sum_by (λ row. 1 + into ends i + length row) x) (sym is) (sum_by-take-le (λ row. 1 + into ends i + length row) x n) in
    let rest = fronts_cost ends (suc i) gs hs (omega (arith, e)) (λ o low. h (suc o) (omega (arith, low))) in
    omega (arith, first, rest)

pub up_to_cost : (ends : List (ℕ × ℕ)) (gs : List (List (List ℕ))) (c k : ℕ) → c < length gs → cost_from ends 0 (up_to gs c k) ≤ cost_from ends 0 gs
up_to_cost ends gs c k low =
    fronts_cost ends 0 (up_to gs c k) gs (length-up_to gs c k) (λ o l.
    let l' : o < length gs = omega (arith, l, length-up_to gs c k) in
    elim (cases_lt o c) [
      | inl b ↦ (length (get_or gs o []), before gs c k o l' b ∙ sym (take_all (length (get_or gs o [])) (get_or gs o []) (omega arith)))
      | inr h ↦ elim (cases_eq o c) [
        | inl e ↦ (k, ap (λ n. get_or (up_to gs c k) n []) e ∙ here gs c k low ∙ ap (λ n. take k (get_or gs n [])) (sym e))
        | inr n ↦ (0, after gs c k o (omega (arith, h, n)) ∙ sym (none (get_or gs o [])))
      ]
    ])
  where
    none : (g : List (List ℕ)) → take 0 g ≡ []
    none [] = refl
    none (r ∷ g) = refl
