-- The steps of the search: a number is set, an assignment is found, a number is passed over, and the place before comes next.
use Rattle.std.proofs.Common.{◌≡◌, ℕ, suc, ◌+◌, ◌<◌, ◌≤◌, Bool, true, false, cond, List, [], ◌∷◌, ◌++◌, length, get_or, set, take, drop, sym, ap, ◌∙◌, arith, length-set, get_or-set_same, get_or-set_other}
use Rattle.std.proofs.lemmas.List.{append_assoc, append-nil, take-set, take-set-le, take_more_set, take_all, length-take-le}
use Rattle.finite_lists.specs.Members.{In}
use Rattle.natural_search.specs.Search.{assignments, under, under_from, later, left}
use Rattle.natural_search.proofs.Searches.{under_whole, under_none, under_next, under_from-more, under_from-end, later_same}

module _ (natural : List ℕ → Bool) (bounds values : List ℕ) (whole : length values ≡ length bounds) where
  -- a later number at a place changes nothing of what comes after the places before it
  later_set : (d v : ℕ) → later natural bounds (set values d v) d ≡ later natural bounds values d
  later_set d v = later_same natural bounds (set values d v) values d (λ e low. (take-set-le e values d v (omega arith), get_or-set_other values d e v 0 (λ s. absurd (omega (arith, s)))))

  -- what is left is the same, whatever number stands at the place itself
  pub left_unset : (d v w : ℕ) → left natural bounds (set values d v) d w ≡ left natural bounds values d w
  left_unset d v w = ap (λ p. under_from natural bounds p w ++ later natural bounds (set values d v) d) (take-set values d v) ∙ ap (λ l. under_from natural bounds (take d values) w ++ l) (later_set d v)

  first_left : (d v : ℕ) → d < length bounds → v < get_or bounds d 0 →
      left natural bounds values d v ≡ under natural bounds (take d values ++ v ∷ []) ++ left natural bounds values d (v + 1)
  first_left d v low below =
      let n : length (take d values) ≡ d = length-take-le d values (omega (arith, whole)) in
      let here : v < get_or bounds (length (take d values)) 0 = rw n below in
      ap (λ l. l ++ later natural bounds values d) (under_from-more natural bounds (take d values) v here)
      ∙ append_assoc (under natural bounds (take d values ++ v ∷ [])) (under_from natural bounds (take d values) (v + 1)) (later natural bounds values d)

  -- what was set at d is what the next place begins with
  pub left_set : (d v : ℕ) → d + 1 < length bounds → v < get_or bounds d 0 → left natural bounds values d v ≡ left natural bounds (set values d v) (suc d) 0
  unfolding later
  left_set d v low below =
      let within : d < length values = omega (arith, whole) in
      let front : take (suc d) (set values d v) ≡ take d values ++ v ∷ [] = let e : suc d ≡ d + 1 = omega arith in ap (λ n. take n (set values d v)) e ∙ take_more_set values d v within in
      let n : length (take d values ++ v ∷ []) ≡ suc d = ap length (sym front) ∙ length-take-le (suc d) (set values d v) (omega (arith, length-set values d v, whole)) in
      let same : get_or (set values d v) d 0 ≡ v = get_or-set_same values d v 0 within in
      first_left d v (omega arith) below
      ∙ ap (λ l. l ++ left natural bounds values d (v + 1)) (under_next natural bounds (take d values ++ v ∷ []) (omega (arith, n)) ∙ ap (λ p. under_from natural bounds p 0) (sym front))
      ∙ ap (λ p. under_from natural bounds (take (suc d) (set values d v)) 0 ++ (under_from natural bounds p (v + 1) ++ later natural bounds values d)) (sym (take-set values d v))
      ∙ ap (λ w. under_from natural bounds (take (suc d) (set values d v)) 0 ++ (under_from natural bounds (take d (set values d v)) (w + 1) ++ later natural bounds values d)) (sym same)
      ∙ ap (λ l. under_from natural bounds (take (suc d) (set values d v)) 0 ++ (under_from natural bounds (take d (set values d v)) (get_or (set values d v) d 0 + 1) ++ l)) (sym (later_set d v))

  -- at the last place an assignment is found
  pub left_found : (d v : ℕ) → d + 1 ≡ length bounds → v < get_or bounds d 0 → natural (set values d v) ≡ true → left natural bounds values d v ≡ set values d v ∷ left natural bounds values d (v + 1)
  left_found d v last below is =
      let within : d < length values = omega (arith, whole) in
      let all : take d values ++ v ∷ [] ≡ set values d v = sym (take_more_set values d v within) ∙ take_all (d + 1) (set values d v) (omega (arith, length-set values d v, whole)) in
      first_left d v (omega arith) below
      ∙ ap (λ l. l ++ left natural bounds values d (v + 1))
      (ap (under natural bounds) all ∙ under_whole natural bounds (set values d v) (omega (arith, length-set values d v, whole)) ∙ ap (λ b. cond b (set values d v ∷ []) []) is)

  -- a number that begins no natural assignment is passed over
  pub left_none : (d v : ℕ) → d < length bounds → v < get_or bounds d 0 → ((rest : List ℕ) → In (assignments (drop (length (take d values ++ v ∷ [])) bounds)) rest → natural ((take d values ++ v ∷ []) ++ rest) ≡ false) →
      left natural bounds values d v ≡ left natural bounds values d (v + 1)
  left_none d v low below none = first_left d v low below ∙ ap (λ l. l ++ left natural bounds values d (v + 1)) (under_none natural bounds (take d values ++ v ∷ []) none)

  -- where no number is left at a place, the next one at the place before it comes
  pub left_back : (d v : ℕ) → suc d < length bounds → get_or bounds (suc d) 0 ≤ v → left natural bounds values (suc d) v ≡ left natural bounds values d (get_or values d 0 + 1)
  unfolding later
  left_back d v low high =
      let n : length (take (suc d) values) ≡ suc d = length-take-le (suc d) values (omega (arith, whole)) in
      let here : get_or bounds (length (take (suc d) values)) 0 ≤ v = rw n high in
      ap (λ l. l ++ later natural bounds values (suc d)) (under_from-end natural bounds (take (suc d) values) v here)

  -- and at the first place nothing is left
  pub left_end : (v : ℕ) → get_or bounds 0 0 ≤ v → left natural bounds values 0 v ≡ []
  unfolding later
  left_end v high = ap (λ l. l ++ []) (under_from-end natural bounds [] v high)

-- the search begins at the first place
pub left_start : (natural : List ℕ → Bool) (bounds values : List ℕ) → 0 < length bounds → under natural bounds [] ≡ left natural bounds values 0 0
unfolding later
left_start natural bounds values low = under_next natural bounds [] low ∙ sym (append-nil (under_from natural bounds [] 0))
