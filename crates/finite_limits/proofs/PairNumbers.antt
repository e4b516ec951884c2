-- The pairs of numbers and the members of their fibres, in lexicographic order.
use Rattle.std.proofs.Common.{◌≡◌, ℕ, zero, suc, ◌+◌, ◌-◌, ◌<◌, ◌≤◌, List, [], ◌∷◌, ◌++◌, length, get_or, replicate, refl, sym, ap, subst, ◌∙◌, arith, ◌⊎◌, inl, inr}
use Rattle.std.specs.List.{flat_map, range_with_len}
use Rattle.std.proofs.lemmas.Bool.{cases_lt}
use Rattle.std.proofs.lemmas.Grind.{flat_map-append}
use Rattle.std.proofs.lemmas.List.{length-append, get_or_append_left, get_or-append_right, get_or-replicate, length-replicate, append-nil}
use Rattle.std.proofs.lemmas.List.FromFn.{length-map-range_with_len, get_or-map-range_with_len, map-range_with_len_more}
use Rattle.presheaf_core.proofs.Tables.{numbers_more}
use Rattle.finite_limits.specs.Kept.{IsPlace}
use Rattle.finite_limits.specs.Pairs.{IsPairPlace, ArePairs, AreFibres, firsts, seconds, starts}

module _ (fibre : ℕ → List ℕ) where
  pub firsts_more : (a : ℕ) → firsts fibre (a + 1) ≡ firsts fibre a ++ replicate (length (fibre a)) a
  firsts_more a =
      ap (flat_map (λ x. replicate (length (fibre x)) x)) (numbers_more a) ∙ flat_map-append (λ x. replicate (length (fibre x)) x) (range_with_len 0 a) (a ∷ [])
      ∙ ap (λ (s : List ℕ). firsts fibre a ++ s) (append-nil (replicate (length (fibre a)) a))

  pub seconds_more : (a : ℕ) → seconds fibre (a + 1) ≡ seconds fibre a ++ fibre a
  seconds_more a =
      ap (flat_map fibre) (numbers_more a) ∙ flat_map-append fibre (range_with_len 0 a) (a ∷ []) ∙ ap (λ (s : List ℕ). seconds fibre a ++ s) (append-nil (fibre a))

  pub starts_more : (a : ℕ) → starts fibre (a + 1) ≡ starts fibre a ++ length (seconds fibre a) ∷ []
  starts_more a = map-range_with_len_more (λ x. length (seconds fibre x)) 0 a a (omega arith)

-- what holds of the pairs of the numbers below a
record AreListed (fibre : ℕ → List ℕ) (a : ℕ) (p q : List ℕ) : Type 0 where
  pub seconds_long : length q ≡ length p
  pub first_within : (t : ℕ) → t < length p → get_or p t 0 < a
  pub member : (t : ℕ) → t < length p → (i : ℕ) × (i < length (fibre (get_or p t 0))) × (get_or (fibre (get_or p t 0)) i 0 ≡ get_or q t 0)
  pub rise : (t u : ℕ) → t < u → u < length p → (get_or p t 0 < get_or p u 0) ⊎ ((get_or p t 0 ≡ get_or p u 0) × (get_or q t 0 < get_or q u 0))
  pub number : (x i : ℕ) → x < a → i < length (fibre x) → IsPairPlace p q (length (seconds fibre x) + i) x (get_or (fibre x) i 0)

below_moved : (a b c d x y z w : ℕ) → a ≡ x → b ≡ y → c ≡ z → d ≡ w → (a < c) ⊎ ((a ≡ c) × (b < d)) → (x < z) ⊎ ((x ≡ z) × (y < w))
below_moved a b c d x y z w e f g h below = rw (← e, ← f, ← g, ← h) below

module _ (fibre : ℕ → List ℕ) (a : ℕ) (p q : List ℕ) (is : q ≡ seconds fibre a) (up : (i j : ℕ) → i < j → j < length (fibre a) → get_or (fibre a) i 0 < get_or (fibre a) j 0)
    (old : AreListed fibre a p q) where
  abbrev later : List ℕ
  later = p ++ replicate (length (fibre a)) a

  abbrev later_seconds : List ℕ
  later_seconds = q ++ fibre a

  same_long : length q ≡ length p
  same_long = old.seconds_long

  long : length later ≡ length p + length (fibre a)
  long = length-append p (replicate (length (fibre a)) a) ∙ ap (λ n. length p + n) (length-replicate (length (fibre a)) a)

  early : (t : ℕ) → t < length p → get_or later t 0 ≡ get_or p t 0
  early t l = get_or_append_left p (replicate (length (fibre a)) a) 0 t l

  early_second : (t : ℕ) → t < length p → get_or later_seconds t 0 ≡ get_or q t 0
  early_second t l = get_or_append_left q (fibre a) 0 t (subst (λ (n : ℕ). t < n) (sym same_long) l)

  late : (t : ℕ) → length p ≤ t → t < length p + length (fibre a) → get_or later t 0 ≡ a
  late t l m = get_or-append_right p (replicate (length (fibre a)) a) (length p) t 0 refl l ∙ get_or-replicate (length (fibre a)) (t - length p) a 0 (omega arith)

  late_second : (t : ℕ) → length p ≤ t → get_or later_seconds t 0 ≡ get_or (fibre a) (t - length p) 0
  late_second t l = get_or-append_right q (fibre a) (length p) t 0 same_long l

  abbrev IsMember : ℕ → ℕ → Type 0
  IsMember x y = (i : ℕ) × (i < length (fibre x)) × (get_or (fibre x) i 0 ≡ y)

  more_listed : AreListed fibre (a + 1) later later_seconds
  more_listed = record {
    seconds_long = length-append q (fibre a) ∙ ap (λ n. n + length (fibre a)) same_long ∙ sym long;
    first_within = λ t l. elim (cases_lt t (length p)) [
      | inl b ↦ let w : get_or p t 0 < a = old.first_within t b in let e : get_or later t 0 ≡ get_or p t 0 = early t b in omega arith
      | inr b ↦ let e : get_or later t 0 ≡ a = late t b (omega (arith, long)) in omega arith
    ];
    member = λ t l. elim (cases_lt t (length p)) [
      | inl b ↦
          subst (λ (x : ℕ). IsMember x (get_or later_seconds t 0)) (sym (early t b)) (subst (IsMember (get_or p t 0)) (sym (early_second t b)) (old.member t b))
      | inr b ↦ subst (λ (x : ℕ). IsMember x (get_or later_seconds t 0)) (sym (late t b (omega (arith, long)))) (t - length p, omega (arith, long), sym (late_second t b))
    ];
    rise = λ t u below l. elim (cases_lt u (length p)) [
      | inl b ↦
          let c : t < length p = omega arith in
          below_moved (get_or p t 0) (get_or q t 0) (get_or p u 0) (get_or q u 0) (get_or later t 0) (get_or later_seconds t 0) (get_or later u 0) (get_or later_seconds u 0)
          (sym (early t c)) (sym (early_second t c)) (sym (early u b)) (sym (early_second u b)) (old.rise t u below b)
      | inr b ↦
          let eu : get_or later u 0 ≡ a = late u b (omega (arith, long)) in
          elim (cases_lt t (length p)) [
            | inl c ↦ inl (let w : get_or p t 0 < a = old.first_within t c in let et : get_or later t 0 ≡ get_or p t 0 = early t c in omega arith)
            | inr c ↦ inr (
              late t c (omega (arith, long)) ∙ sym eu,
              let w : get_or (fibre a) (t - length p) 0 < get_or (fibre a) (u - length p) 0 = up (t - length p) (u - length p) (omega arith) (omega (arith, long)) in
                  let et : get_or later_seconds t 0 ≡ get_or (fibre a) (t - length p) 0 = late_second t c in
                  let eu : get_or later_seconds u 0 ≡ get_or (fibre a) (u - length p) 0 = late_second u b in
                  omega arith,
            )
          ]
    ];
    number = λ x i l m. elim (cases_lt x a) [
      | inl b ↦
          let w : IsPairPlace p q (length (seconds fibre x) + i) x (get_or (fibre x) i 0) = old.number x i b m in
          let v : length (seconds fibre x) + i < length p = w.within in
          record {
            within = omega (arith, long);
            first = early (length (seconds fibre x) + i) v ∙ w.first;
            second = early_second (length (seconds fibre x) + i) v ∙ w.second;
          }
      | inr b ↦
          let same : x ≡ a = omega arith in
          subst (λ (z : ℕ). IsPairPlace later later_seconds (length (seconds fibre z) + i) z (get_or (fibre z) i 0)) (sym same) (last i (subst (λ (z : ℕ). i < length (fibre z)) same m))
    ];
  }
    where
      last : (i : ℕ) → i < length (fibre a) → IsPairPlace later later_seconds (length (seconds fibre a) + i) a (get_or (fibre a) i 0)
      last i m =
          let start : length (seconds fibre a) ≡ length p = ap length (sym is) ∙ same_long in
          let after : length (seconds fibre a) + i - length p ≡ i = omega arith in
          record {
            within = omega (arith, long);
            first = late (length (seconds fibre a) + i) (omega arith) (omega arith);
            second = late_second (length (seconds fibre a) + i) (omega arith) ∙ ap (λ (n : ℕ). get_or (fibre a) n 0) after;
          }

listed : (fibre : ℕ → List ℕ) (a : ℕ) → ((x i j : ℕ) → x < a → i < j → j < length (fibre x) → get_or (fibre x) i 0 < get_or (fibre x) j 0) → AreListed fibre a (firsts fibre a) (seconds fibre a)
listed fibre zero up = record {
  seconds_long = refl;
  first_within = λ t l. absurd (omega arith);
  member = λ t l. absurd (omega arith);
  rise = λ t u below l. absurd (omega arith);
  number = λ x i l m. absurd (omega arith);
}
listed fibre (suc a) up =
    let one : a + 1 ≡ suc a = omega arith in
    let rest : AreListed fibre a (firsts fibre a) (seconds fibre a) = listed fibre a (λ x i j l. up x i j (omega arith)) in
    subst (λ (m : ℕ). AreListed fibre m (firsts fibre m) (seconds fibre m)) one
    (subst (λ (r : List ℕ). AreListed fibre (a + 1) r (seconds fibre (a + 1))) (sym (firsts_more fibre a))
    (subst (λ (r : List ℕ). AreListed fibre (a + 1) (firsts fibre a ++ replicate (length (fibre a)) a) r) (sym (seconds_more fibre a))
    (more_listed fibre a (firsts fibre a) (seconds fibre a) refl (λ i j. up a i j (omega arith)) rest)))

pub firsts_long : (fibre : ℕ → List ℕ) (a : ℕ) → length (firsts fibre a) ≡ length (seconds fibre a)
firsts_long fibre zero = refl
firsts_long fibre (suc a) =
    let one : a + 1 ≡ suc a = omega arith in
    let more : length (firsts fibre (a + 1)) ≡ length (firsts fibre a) + length (fibre a) =
    ap length (firsts_more fibre a) ∙ length-append (firsts fibre a) (replicate (length (fibre a)) a) ∙ ap (λ n. length (firsts fibre a) + n) (length-replicate (length (fibre a)) a) in
    let more' : length (seconds fibre (a + 1)) ≡ length (seconds fibre a) + length (fibre a) = ap length (seconds_more fibre a) ∙ length-append (seconds fibre a) (fibre a) in
    subst (λ (m : ℕ). length (firsts fibre m) ≡ length (seconds fibre m)) one (let rest : length (firsts fibre a) ≡ length (seconds fibre a) = firsts_long fibre a in omega arith)

-- more numbers have no fewer pairs
pub seconds_rise : (fibre : ℕ → List ℕ) (d a b : ℕ) → a + d ≡ b → length (seconds fibre a) ≤ length (seconds fibre b)
seconds_rise fibre zero a b e = let same : a ≡ b = omega arith in rw same (omega arith)
seconds_rise fibre (suc d) a b e =
    let rest : length (seconds fibre (a + 1)) ≤ length (seconds fibre b) = seconds_rise fibre d (a + 1) b (omega arith) in
    let more : length (seconds fibre (a + 1)) ≡ length (seconds fibre a) + length (fibre a) = ap length (seconds_more fibre a) ∙ length-append (seconds fibre a) (fibre a) in
    omega arith

module _ (related : ℕ → ℕ → Type 0) (a b : ℕ) (fibre : ℕ → List ℕ) (l : List ℕ) (fibres : AreFibres related a b fibre l) where
  all : AreListed fibre a (firsts fibre a) (seconds fibre a)
  all = listed fibre a fibres.rise

  pub fibre_pairs : ArePairs related a b (firsts fibre a) (seconds fibre a) (starts fibre a) l
  fibre_pairs = record {
    seconds = all.seconds_long;
    starts = length-map-range_with_len (λ x. length (seconds fibre x)) 0 a;
    places = fibres.places;
    first_within = all.first_within;
    second_within = λ t h.
        let m = all.member t h in
        subst (λ (y : ℕ). y < b) m.2 (fibres.within (get_or (firsts fibre a) t 0) m.0 (all.first_within t h) m.1);
    are_related = λ t h.
        let m = all.member t h in
        subst (related (get_or (firsts fibre a) t 0)) m.2 (fibres.are_related (get_or (firsts fibre a) t 0) m.0 (all.first_within t h) m.1);
    rise = all.rise;
    number = λ x y lx ly r.
        let place : IsPlace (fibre x) (get_or l y 0) y = fibres.place x y lx ly r in
        let at : IsPairPlace (firsts fibre a) (seconds fibre a) (length (seconds fibre x) + get_or l y 0) x (get_or (fibre x) (get_or l y 0) 0) = all.number x (get_or l y 0) lx place.within in
        let start : get_or (starts fibre a) x 0 ≡ length (seconds fibre x) = get_or-map-range_with_len (λ x. length (seconds fibre x)) 0 a x x 0 lx (omega arith) in
        subst (λ (t : ℕ). IsPairPlace (firsts fibre a) (seconds fibre a) (t + get_or l y 0) x y) (sym start)
        (subst (IsPairPlace (firsts fibre a) (seconds fibre a) (length (seconds fibre x) + get_or l y 0) x) place.is at);
  }
