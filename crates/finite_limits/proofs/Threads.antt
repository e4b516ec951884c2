-- Numbers counted and threaded by their values.
use Rattle.std.proofs.Common.{◌≡◌, ℕ, zero, suc, ◌+◌, ◌<◌, ◌≤◌, Bool, false, List, [], ◌∷◌, ◌++◌, length, get_or, set, replicate, eqb, refl, sym, ap, subst, ◌∙◌, arith, inl, inr, eq-eqb, get_or-set_same, get_or-set_other}
use Rattle.std.specs.List.{range_with_len, sum_by}
use Rattle.std.proofs.lemmas.Bool.{cases_eq, cases_Bool, eqb-true}
use Rattle.std.proofs.lemmas.List.{length-append, length-set, length-replicate, get_or-replicate, length_push}
use Rattle.std.proofs.lemmas.List.Sums.{sum_by-append}
use Rattle.presheaf_core.proofs.Tables.{numbers_more}
use Rattle.finite_limits.specs.Pairs.{seconds}
use Rattle.std.proofs.lemmas.List.FromFn.{get_or-map-range_with_len, fill_by_all}
use Rattle.finite_limits.specs.Kept.{passing}
use Rattle.finite_limits.specs.Matches.{with_value, value_counts, matching, IsNextWithValue, AreThreads}
use Rattle.finite_limits.proofs.KeptNumbers.{one_more_passes, one_more_fails, passing_few}
use Rattle.finite_limits.proofs.PairNumbers.{seconds_more}

-- no number from a on passes up to b
pub none_pass : (test : ℕ → Bool) (d a b : ℕ) → a + d ≡ b → ((w : ℕ) → a ≤ w → w < b → test w ≡ false) → passing test b ≡ passing test a
none_pass test zero a b e none = let same : b ≡ a = omega arith in ap (passing test) same
none_pass test (suc d) a b e none =
    none_pass test d (a + 1) b (omega arith) (λ w l. none w (omega arith)) ∙ one_more_fails test a (none a (omega arith) (omega arith))

unequal : (a b : ℕ) → (a ≡ b → ⊥) → eqb a b ≡ false
unequal a b n = elim (cases_Bool (eqb a b)) [
  | inl e ↦ absurd (n (eqb-true a b e))
  | inr e ↦ e
]

-- after y stands the next number with its value
pub walk_on : (n : List ℕ) (v y z : ℕ) → get_or n y 0 ≡ v → IsNextWithValue n v (y + 1) z →
    passing (λ w. eqb (get_or n w 0) v) z ≡ passing (λ w. eqb (get_or n w 0) v) y ++ y ∷ []
walk_on n v y z e is =
    let test : ℕ → Bool = λ w. eqb (get_or n w 0) v in
    let low : y + 1 ≤ z = is.low in
    let d : (d : ℕ) × (y + 1 + d ≡ z) = difference (y + 1) z low in
    none_pass test d.0 (y + 1) z d.1 (λ w l h. unequal (get_or n w 0) v (is.none w l h)) ∙ one_more_passes test y (eq-eqb (get_or n y 0) v e)
  where
    difference : (a b : ℕ) → a ≤ b → (d : ℕ) × (a + d ≡ b)
    difference zero b h = (b, omega arith)
    difference (suc a) zero h = absurd (omega arith)
    difference (suc a) (suc b) h = let w : (d : ℕ) × (a + d ≡ b) = difference a b (omega arith) in (w.0, let e : a + w.0 ≡ b = w.1 in omega arith)

-- before the first number with a value there is none
pub walk_begins : (n : List ℕ) (v z : ℕ) → IsNextWithValue n v 0 z → passing (λ w. eqb (get_or n w 0) v) z ≡ []
walk_begins n v z is = none_pass (λ w. eqb (get_or n w 0) v) z 0 z (omega arith) (λ w l h. unequal (get_or n w 0) v (is.none w l h))

module _ (n : List ℕ) (values : ℕ) where
  pub no_threads : AreThreads n values (length n) (replicate values (length n)) (replicate (length n) (length n))
  no_threads = record {
    heads_long = length-replicate values (length n);
    next_long = length-replicate (length n) (length n);
    head = λ v l. subst (IsNextWithValue n v (length n)) (sym (get_or-replicate values v (length n) 0 l)) (record {
      low = omega arith;
      within = omega arith;
      value = λ h. absurd (omega arith);
      none = λ w h m. absurd (omega arith);
    });
    follow = λ y h l. absurd (omega arith);
  }

  pub one_more_thread : (y : ℕ) (heads next : List ℕ) → y < length n → get_or n y 0 < values → AreThreads n values (y + 1) heads next →
      AreThreads n values y (set heads (get_or n y 0) y) (set next y (get_or heads (get_or n y 0) 0))
  one_more_thread y heads next l b t = record {
    heads_long = length-set heads (get_or n y 0) y ∙ t.heads_long;
    next_long = length-set next y (get_or heads (get_or n y 0) 0) ∙ t.next_long;
    head = λ v h. elim (cases_eq v (get_or n y 0)) [
      | inl e ↦ subst (λ (u : ℕ). IsNextWithValue n u y (get_or (set heads (get_or n y 0) y) u 0)) (sym e) here
      | inr e ↦ subst (IsNextWithValue n v y) (sym (get_or-set_other heads (get_or n y 0) v y 0 e)) (other v h e)
    ];
    follow = λ z h m. elim (cases_eq z y) [
      | inl e ↦
          subst (λ (u : ℕ). IsNextWithValue n (get_or n u 0) (u + 1) (get_or (set next y (get_or heads (get_or n y 0) 0)) u 0)) (sym e)
          (subst (IsNextWithValue n (get_or n y 0) (y + 1)) (sym (get_or-set_same next y (get_or heads (get_or n y 0) 0) 0 (omega (arith, t.next_long)))) (t.head (get_or n y 0) b))
      | inr e ↦ subst (IsNextWithValue n (get_or n z 0) (z + 1)) (sym (get_or-set_other next y z (get_or heads (get_or n y 0) 0) 0 e)) (t.follow z (omega arith) m)
    ];
  }
    where
      here : IsNextWithValue n (get_or n y 0) y (get_or (set heads (get_or n y 0) y) (get_or n y 0) 0)
      here = subst (IsNextWithValue n (get_or n y 0) y) (sym (get_or-set_same heads (get_or n y 0) y 0 (omega (arith, t.heads_long)))) (record {
        low = omega arith;
        within = omega arith;
        value = λ _. refl;
        none = λ w h m. absurd (omega arith);
      })

      other : (v : ℕ) → v < values → (v ≡ get_or n y 0 → ⊥) → IsNextWithValue n v y (get_or heads v 0)
      other v h e =
          let at : IsNextWithValue n v (y + 1) (get_or heads v 0) = t.head v h in
          let low : y + 1 ≤ get_or heads v 0 = at.low in
          record {
            low = omega arith;
            within = at.within;
            value = at.value;
            none = λ w g m d. elim (cases_eq w y) [
              | inl s ↦ e (sym d ∙ ap (λ (u : ℕ). get_or n u 0) s)
              | inr s ↦ at.none w (omega arith) m d
            ];
          }

  -- the counts of the values of the numbers below y
  pub record AreCounted (y : ℕ) (counts : List ℕ) : Type 0 where
    pub long : length counts ≡ values
    pub each : (v : ℕ) → v < values → get_or counts v 0 ≡ length (passing (λ w. eqb (get_or n w 0) v) y)

  pub none_counted : AreCounted 0 (replicate values 0)
  none_counted = record { long = length-replicate values 0; each = λ v l. get_or-replicate values v 0 0 l }

  pub one_more_counted : (y : ℕ) (counts : List ℕ) → get_or n y 0 < values → AreCounted y counts → AreCounted (y + 1) (set counts (get_or n y 0) (get_or counts (get_or n y 0) 0 + 1))
  one_more_counted y counts b a = record {
    long = length-set counts (get_or n y 0) (get_or counts (get_or n y 0) 0 + 1) ∙ a.long;
    each = λ v l. elim (cases_eq v (get_or n y 0)) [
      | inl e ↦ subst (λ (u : ℕ). get_or (set counts (get_or n y 0) (get_or counts (get_or n y 0) 0 + 1)) u 0 ≡ length (passing (λ w. eqb (get_or n w 0) u) (y + 1))) (sym e) here
      | inr e ↦
          get_or-set_other counts (get_or n y 0) v (get_or counts (get_or n y 0) 0 + 1) 0 e ∙ a.each v l
          ∙ sym (ap length (one_more_fails (λ w. eqb (get_or n w 0) v) y (unequal (get_or n y 0) v (λ s. e (sym s)))))
    ];
  }
    where
      here : get_or (set counts (get_or n y 0) (get_or counts (get_or n y 0) 0 + 1)) (get_or n y 0) 0 ≡ length (passing (λ w. eqb (get_or n w 0) (get_or n y 0)) (y + 1))
      here =
          let test : ℕ → Bool = λ w. eqb (get_or n w 0) (get_or n y 0) in
          get_or-set_same counts (get_or n y 0) (get_or counts (get_or n y 0) 0 + 1) 0 (omega (arith, a.long)) ∙ ap (λ m. m + 1) (a.each (get_or n y 0) b)
          ∙ sym (ap length (one_more_passes test y (eq-eqb (get_or n y 0) (get_or n y 0) refl)) ∙ length_push (passing test y) y ∙ (omega arith))

  pub all_counted : (counts : List ℕ) → AreCounted (length n) counts → counts ≡ value_counts n values
  all_counted counts a = fill_by_all (λ v. length (with_value n v)) counts values 0 a.long a.each

  pub count_few : (y v : ℕ) (counts : List ℕ) → v < values → AreCounted y counts → get_or counts v 0 ≤ y
  count_few y v counts l a = let e : get_or counts v 0 ≡ length (passing (λ w. eqb (get_or n w 0) v) y) = a.each v l in let w : length (passing (λ w. eqb (get_or n w 0) v) y) ≤ y = passing_few (λ w. eqb (get_or n w 0) v) y in omega arith

-- one number more
pub sum_more : (f : ℕ → ℕ) (a : ℕ) → sum_by f (range_with_len 0 (a + 1)) ≡ sum_by f (range_with_len 0 a) + f a
sum_more f a = ap (sum_by f) (numbers_more a) ∙ sum_by-append f (range_with_len 0 a) (a ∷ []) ∙ (omega arith)

-- by the counts of the values there are as many pairs as second parts
pub pairs_summed : (m n : List ℕ) (values a : ℕ) → ((x : ℕ) → x < a → get_or m x 0 < values) →
    sum_by (λ x. get_or (value_counts n values) (get_or m x 0) 0) (range_with_len 0 a) ≡ length (seconds (matching m n) a)
pairs_summed m n values zero within = refl
pairs_summed m n values (suc a) within =
    let one : a + 1 ≡ suc a = omega arith in
    let count : ℕ → ℕ = λ x. get_or (value_counts n values) (get_or m x 0) 0 in
    let rest : sum_by (λ x. get_or (value_counts n values) (get_or m x 0) 0) (range_with_len 0 a) ≡ length (seconds (matching m n) a) = pairs_summed m n values a (λ x l. within x (omega arith)) in
    let more : length (seconds (matching m n) (a + 1)) ≡ length (seconds (matching m n) a) + length (matching m n a) =
    ap length (seconds_more (matching m n) a) ∙ length-append (seconds (matching m n) a) (matching m n a) in
    let at : get_or (value_counts n values) (get_or m a 0) 0 ≡ length (with_value n (get_or m a 0)) =
    get_or-map-range_with_len (λ v. length (with_value n v)) 0 values (get_or m a 0) (get_or m a 0) 0 (within a (omega arith)) (omega arith) in
    subst (λ (b : ℕ). sum_by count (range_with_len 0 b) ≡ length (seconds (matching m n) b)) one (sum_more count a ∙ omega (arith, rest, more, at))
