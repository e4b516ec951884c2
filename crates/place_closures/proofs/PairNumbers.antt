-- The number of each pair, and the pair of each number.
use Rattle.std.proofs.Common.{◌≡◌, ℕ, ◌+◌, ◌-◌, ◌<◌, cond, inl, inr, List, [], ◌∷◌, length, get_or, map, refl, sym, ap, subst, ◌∙◌, arith}
use Rattle.std.specs.List.{flat_map, range_with_len}
use Rattle.std.proofs.lemmas.Bool.{cases_lt, cases_eq, eq-eqb, ne_eqb}
use Rattle.std.proofs.lemmas.List.{length-append, get_or_append_left, get_or-append_right}
use Rattle.std.proofs.lemmas.List.FromFn.{length-map-range_with_len, get_or-map-range_with_len}
use Rattle.finite_lists.specs.Members.{In, Distinct}
use Rattle.topos_model.specs.categories.Category.{Category, into, dom}
use Rattle.topos_model.specs.Laws.{IsInto}
use Rattle.topos_model.proofs.ArrowsInto.{In-into, In-into_from}
use Rattle.sieve_table.proofs.SieveMembers.{Distinct-into}
use Rattle.place_closures.specs.Pairs.{starts, pairs, start}

abbrev pub total : (ℕ → ℕ) → List ℕ → ℕ
total count [] = 0
total count (g ∷ fs) = count g + total count fs

module _ {A : Type 0} (count : ℕ → ℕ) (entry : ℕ → ℕ → A) where
  -- what the entries of each member are, joined
  abbrev pub joined : List ℕ → List A
  joined fs = flat_map (λ f. map (entry f) (range_with_len 0 (count f))) fs

  length-block : (f : ℕ) → length (map (entry f) (range_with_len 0 (count f))) ≡ count f
  length-block f = length-map-range_with_len (entry f) 0 (count f)

  pub length-joined : (fs : List ℕ) → length (joined fs) ≡ total count fs
  length-joined [] = refl
  length-joined (g ∷ fs) =
      length-append (map (entry g) (range_with_len 0 (count g))) (joined fs) ∙ ap (λ n. n + length (joined fs)) (length-block g) ∙ ap (λ n. count g + n) (length-joined fs)

  pub starts-same : (g : ℕ) (fs : List ℕ) (f : ℕ) → g ≡ f → starts count (g ∷ fs) f ≡ 0
  starts-same g fs f e = ap (λ b. cond b 0 (count g + starts count fs f)) (eq-eqb g f e)

  pub starts-other : (g : ℕ) (fs : List ℕ) (f : ℕ) → (g ≡ f → ⊥) → starts count (g ∷ fs) f ≡ count g + starts count fs f
  starts-other g fs f n = ap (λ b. cond b 0 (count g + starts count fs f)) (ne_eqb g f n)

  pub start_within : (fs : List ℕ) (f w : ℕ) → In fs f → w < count f → starts count fs f + w < length (joined fs)
  start_within [] f w i low = absurd i
  start_within (g ∷ fs) f w i low =
      let e : length (joined (g ∷ fs)) ≡ count g + length (joined fs) = length-append (map (entry g) (range_with_len 0 (count g))) (joined fs) ∙ ap (λ n. n + length (joined fs)) (length-block g) in
      elim (cases_eq g f) [
        | inl s ↦ let z = starts-same g fs f s in let c : count g ≡ count f = ap count s in omega (arith, e, z, c, low)
        | inr n ↦
            let z = starts-other g fs f n in
            let j : In fs f = elim i [ inl s ↦ absurd (n s) | inr j ↦ j ] in
            omega (arith, e, z, start_within fs f w j low)
      ]

  pub at_start : (fs : List ℕ) (f w : ℕ) (d : A) → In fs f → w < count f → get_or (joined fs) (starts count fs f + w) d ≡ entry f w
  at_start [] f w d i low = absurd i
  at_start (g ∷ fs) f w d i low =
      elim (cases_eq g f) [
        | inl s ↦
            let z : starts count (g ∷ fs) f + w ≡ w = omega (arith, starts-same g fs f s) in
            let low' : w < count g = let c : count g ≡ count f = ap count s in omega (arith, c, low) in
            ap (λ n. get_or (joined (g ∷ fs)) n d) z
            ∙ get_or_append_left (map (entry g) (range_with_len 0 (count g))) (joined fs) d w (omega (arith, low', length-block g))
            ∙ get_or-map-range_with_len (entry g) 0 (count g) w w d low' (omega arith)
            ∙ ap (λ h. entry h w) s
        | inr n ↦
            let j : In fs f = elim i [ inl s ↦ absurd (n s) | inr j ↦ j ] in
            let z : starts count (g ∷ fs) f + w ≡ count g + (starts count fs f + w) = omega (arith, starts-other g fs f n) in
            let m : count g + (starts count fs f + w) - count g ≡ starts count fs f + w = omega arith in
            ap (λ n. get_or (joined (g ∷ fs)) n d) z
            ∙ get_or-append_right (map (entry g) (range_with_len 0 (count g))) (joined fs) (count g) (count g + (starts count fs f + w)) d (length-block g) (omega arith)
            ∙ ap (λ n. get_or (joined fs) n d) m
            ∙ at_start fs f w d j low
      ]

  -- each number is one of a pair
  pub pair_at : (fs : List ℕ) (i : ℕ) → Distinct fs → i < length (joined fs) → (f : ℕ) × (w : ℕ) × In fs f × (w < count f) × (starts count fs f + w ≡ i)
  pair_at [] i d low = absurd (omega (arith, low))
  pair_at (g ∷ fs) i d low =
      let e : length (joined (g ∷ fs)) ≡ count g + length (joined fs) = length-append (map (entry g) (range_with_len 0 (count g))) (joined fs) ∙ ap (λ n. n + length (joined fs)) (length-block g) in
      elim (cases_lt i (count g)) [
        | inl l ↦ (g, i, inl refl, l, (let z = starts-same g fs g refl in omega (arith, z)))
        | inr h ↦
            let (f, w, j, low', is) = pair_at fs (i - count g) d.1 (omega (arith, low, e, h)) in
            (f, w, inr j, low', omega (arith, starts-other g fs f (λ s. d.0 (subst (λ x. In fs x) (sym s) j)), is, h))
      ]

module _ (k : Category) (size : ℕ → ℕ) (move : ℕ → ℕ → ℕ) where
  pub number_within : (c f w : ℕ) → IsInto k c f → w < size (dom k f) → start k size move c f + w < length (pairs k size move c)
  unfolding start pairs
  number_within c f w i low = start_within (λ f. size (dom k f)) (λ f w. (f, w)) (into k c) f w (In-into k c f i) low

  pub at_number : (c f w : ℕ) (d : ℕ × ℕ) → IsInto k c f → w < size (dom k f) → get_or (pairs k size move c) (start k size move c f + w) d ≡ (f, w)
  unfolding start pairs
  at_number c f w d i low = at_start (λ f. size (dom k f)) (λ f w. (f, w)) (into k c) f w d (In-into k c f i) low

  pub number_of_pair : (c i : ℕ) → i < length (pairs k size move c) → (f : ℕ) × (w : ℕ) × IsInto k c f × (w < size (dom k f)) × (start k size move c f + w ≡ i)
  unfolding start pairs
  number_of_pair c i low =
      let (f, w, j, l, e) = pair_at (λ f. size (dom k f)) (λ f w. (f, w)) (into k c) i (Distinct-into k c) low in
      (f, w, In-into_from k c f j, l, e)

  -- a pair has one number
  pub same_pair : (c f w f' w' : ℕ) → IsInto k c f → w < size (dom k f) → IsInto k c f' → w' < size (dom k f') → start k size move c f + w ≡ start k size move c f' + w' → (f ≡ f') × (w ≡ w')
  same_pair c f w f' w' i l i' l' e =
      let p : (f, w) ≡ (f', w') = sym (at_number c f w (0, 0) i l) ∙ ap (λ n. get_or (pairs k size move c) n (0, 0)) e ∙ at_number c f' w' (0, 0) i' l' in
      (ap (λ (q : ℕ × ℕ). q.0) p, ap (λ (q : ℕ × ℕ). q.1) p)
