-- The numbers below a count that pass a test: their order, and the place of each.
use Rattle.std.proofs.Common.{◌≡◌, ℕ, zero, suc, ◌+◌, ◌<◌, ◌≤◌, Bool, true, false, cond, List, [], ◌∷◌, ◌++◌, length, get_or, filter, eqb, refl, sym, ap, subst, ◌∙◌, arith, eq-eqb, inl, inr}
use Rattle.std.specs.List.{range_with_len}
use Rattle.std.proofs.lemmas.Bool.{cases_lt, cases_Bool, eqb-true}
use Rattle.std.proofs.lemmas.List.{length_push, get_or_append_left, get_or_push, append-nil}
use Rattle.std.proofs.lemmas.List.Elements.{filter-append}
use Rattle.std.proofs.lemmas.List.FromFn.{length-map-range_with_len, get_or-map-range_with_len, map-range_with_len_more}
use Rattle.presheaf_core.proofs.Tables.{numbers_more}
use Rattle.presheaf_core.specs.Tables.{IsTable}
use Rattle.finite_limits.specs.Kept.{passing, passing_before, IsPlace, AreKept}

pub one_more_passes : (test : ℕ → Bool) (n : ℕ) → test n ≡ true → passing test (n + 1) ≡ passing test n ++ n ∷ []
one_more_passes test n e =
    ap (filter test) (numbers_more n) ∙ filter-append test (range_with_len 0 n) (n ∷ []) ∙ ap (λ (b : Bool). passing test n ++ cond b (n ∷ []) []) e

pub one_more_fails : (test : ℕ → Bool) (n : ℕ) → test n ≡ false → passing test (n + 1) ≡ passing test n
one_more_fails test n e =
    ap (filter test) (numbers_more n) ∙ filter-append test (range_with_len 0 n) (n ∷ []) ∙ ap (λ (b : Bool). passing test n ++ cond b (n ∷ []) []) e
    ∙ append-nil (passing test n)

pub before_more : (test : ℕ → Bool) (n : ℕ) → passing_before test (n + 1) ≡ passing_before test n ++ length (passing test n) ∷ []
before_more test n = map-range_with_len_more (λ x. length (passing test x)) 0 n n (omega arith)

-- what holds of the numbers below n that pass
record ArePassing (test : ℕ → Bool) (n : ℕ) (i : List ℕ) : Type 0 where
  pub few : length i ≤ n
  pub within : (t : ℕ) → t < length i → get_or i t 0 < n
  pub passes : (t : ℕ) → t < length i → test (get_or i t 0) ≡ true
  pub rise : (s t : ℕ) → s < t → t < length i → get_or i s 0 < get_or i t 0
  pub rank : (x : ℕ) → x < n → test x ≡ true → IsPlace i (length (passing test x)) x

more_passing : (test : ℕ → Bool) (n : ℕ) (i : List ℕ) → i ≡ passing test n → test n ≡ true → ArePassing test n i → ArePassing test (n + 1) (i ++ n ∷ [])
more_passing test n i is e a =
    let few : length i ≤ n = a.few in
    let long : length (i ++ n ∷ []) ≡ length i + 1 = length_push i n ∙ (omega arith) in
    let early : (t : ℕ) → t < length i → get_or (i ++ n ∷ []) t 0 ≡ get_or i t 0 = λ t l. get_or_append_left i (n ∷ []) 0 t l in
    let late : (t : ℕ) → t ≡ length i → get_or (i ++ n ∷ []) t 0 ≡ n = λ t l. get_or_push i n 0 t (sym l) in
    record {
      few = omega arith;
      within = λ t l. elim (cases_lt t (length i)) [
        | inl b ↦ let w : get_or i t 0 < n = a.within t b in let s : get_or (i ++ n ∷ []) t 0 ≡ get_or i t 0 = early t b in omega arith
        | inr b ↦ let s : get_or (i ++ n ∷ []) t 0 ≡ n = late t (omega arith) in omega arith
      ];
      passes = λ t l. elim (cases_lt t (length i)) [
        | inl b ↦ ap test (early t b) ∙ a.passes t b
        | inr b ↦ ap test (late t (omega arith)) ∙ e
      ];
      rise = λ s t below l. elim (cases_lt t (length i)) [
        | inl b ↦
            let w : get_or i s 0 < get_or i t 0 = a.rise s t below b in
            let es : get_or (i ++ n ∷ []) s 0 ≡ get_or i s 0 = early s (omega arith) in
            let et : get_or (i ++ n ∷ []) t 0 ≡ get_or i t 0 = early t b in
            omega arith
        | inr b ↦
            let bs : s < length i = omega arith in
            let w : get_or i s 0 < n = a.within s bs in
            let es : get_or (i ++ n ∷ []) s 0 ≡ get_or i s 0 = early s bs in
            let et : get_or (i ++ n ∷ []) t 0 ≡ n = late t (omega arith) in
            omega arith
      ];
      rank = λ x l p. elim (cases_lt x n) [
        | inl b ↦
            let w : length (passing test x) < length i = (a.rank x b p).within in
            record { within = omega arith; is = early (length (passing test x)) w ∙ (a.rank x b p).is }
        | inr b ↦
            let same : x ≡ n = omega arith in
            let place : length (passing test x) ≡ length i = ap (λ m. length (passing test m)) same ∙ ap length (sym is) in
            record { within = omega arith; is = late (length (passing test x)) place ∙ sym same }
      ];
    }

fewer_passing : (test : ℕ → Bool) (n : ℕ) (i : List ℕ) → test n ≡ false → ArePassing test n i → ArePassing test (n + 1) i
fewer_passing test n i e a =
    let few : length i ≤ n = a.few in
    record {
      few = omega arith;
      within = λ t l. let w : get_or i t 0 < n = a.within t l in omega arith;
      passes = a.passes;
      rise = a.rise;
      rank = λ x l p. elim (cases_lt x n) [
        | inl b ↦ a.rank x b p
        | inr b ↦ let same : x ≡ n = omega arith in absurd (let wrong : true ≡ false = sym p ∙ ap test same ∙ e in cc)
      ];
    }

numbers_passing : (test : ℕ → Bool) (n : ℕ) → ArePassing test n (passing test n)
numbers_passing test zero = record {
  few = omega arith;
  within = λ t l. absurd (omega arith);
  passes = λ t l. absurd (omega arith);
  rise = λ s t below l. absurd (omega arith);
  rank = λ x l p. absurd (omega arith);
}
numbers_passing test (suc n) =
    let one : n + 1 ≡ suc n = omega arith in
    let rest : ArePassing test n (passing test n) = numbers_passing test n in
    subst (λ (m : ℕ). ArePassing test m (passing test m)) one
    (elim (cases_Bool (test n)) [
      | inl e ↦ subst (ArePassing test (n + 1)) (sym (one_more_passes test n e)) (more_passing test n (passing test n) refl e rest)
      | inr e ↦ subst (ArePassing test (n + 1)) (sym (one_more_fails test n e)) (fewer_passing test n (passing test n) e rest)
    ])

module _ (test : ℕ → Bool) (n : ℕ) where
  pub passing_few : length (passing test n) ≤ n
  passing_few = (numbers_passing test n).few

  pub passing_within : (t : ℕ) → t < length (passing test n) → get_or (passing test n) t 0 < n
  passing_within = (numbers_passing test n).within

  pub passing_passes : (t : ℕ) → t < length (passing test n) → test (get_or (passing test n) t 0) ≡ true
  passing_passes = (numbers_passing test n).passes

  pub passing_rise : (s t : ℕ) → s < t → t < length (passing test n) → get_or (passing test n) s 0 < get_or (passing test n) t 0
  passing_rise = (numbers_passing test n).rise

  pub passing_rank : (x : ℕ) → x < n → test x ≡ true → IsPlace (passing test n) (length (passing test x)) x
  passing_rank = (numbers_passing test n).rank

  pub before_long : length (passing_before test n) ≡ n
  before_long = length-map-range_with_len (λ x. length (passing test x)) 0 n

  pub before_at : (x : ℕ) → x < n → get_or (passing_before test n) x 0 ≡ length (passing test x)
  before_at x l = get_or-map-range_with_len (λ x. length (passing test x)) 0 n x x 0 l (omega arith)

  pub passing_kept : (P : ℕ → Type 0) → ((x : ℕ) → x < n → P x → test x ≡ true) → ((x : ℕ) → x < n → test x ≡ true → P x) → AreKept P n (passing test n) (passing_before test n)
  passing_kept P true_of of_true = record {
    ranks = before_long;
    within = passing_within;
    kept = λ t l. of_true (get_or (passing test n) t 0) (passing_within t l) (passing_passes t l);
    rise = passing_rise;
    rank = λ x l p. subst (λ (t : ℕ). IsPlace (passing test n) t x) (sym (before_at x l)) (passing_rank x l (true_of x l p));
  }

-- the same for a like property
pub kept_alike : (P Q : ℕ → Type 0) (n : ℕ) (i r : List ℕ) → ((x : ℕ) → x < n → P x → Q x) → ((x : ℕ) → x < n → Q x → P x) → AreKept P n i r → AreKept Q n i r
kept_alike P Q n i r forth back a = record {
  ranks = a.ranks;
  within = a.within;
  kept = λ t l. forth (get_or i t 0) (a.within t l) (a.kept t l);
  rise = a.rise;
  rank = λ x l q. a.rank x l (back x l q);
}

pub kept_moved : (P : ℕ → Type 0) (n m : ℕ) (i r j s : List ℕ) → n ≡ m → i ≡ j → r ≡ s → AreKept P n i r → AreKept P m j s
kept_moved P n m i r j s e d f a =
    subst (λ (t : ℕ). AreKept P t j s) e (subst (λ (t : List ℕ). AreKept P n t s) d (subst (λ (t : List ℕ). AreKept P n i t) f a))

-- the numbers whose two values agree, by their marks
pub kept_agreeing : (m n : List ℕ) (size : ℕ) (marks : List Bool) (i r : List ℕ) → length m ≡ size → IsTable (λ x. eqb (get_or m x 0) (get_or n x 0)) (length m) marks →
    AreKept (λ x. get_or marks x false ≡ true) size i r → AreKept (λ x. get_or m x 0 ≡ get_or n x 0) size i r
kept_agreeing m n size marks i r long table =
    kept_alike (λ x. get_or marks x false ≡ true) (λ x. get_or m x 0 ≡ get_or n x 0) size i r
    (λ x l e. eqb-true (get_or m x 0) (get_or n x 0) (sym (table.answers x (omega arith)) ∙ e))
    (λ x l e. table.answers x (omega arith) ∙ eq-eqb (get_or m x 0) (get_or n x 0) e)
