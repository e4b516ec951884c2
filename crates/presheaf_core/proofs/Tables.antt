-- Tables of the answers of a test: none yet, one more, all of them; and tests along a range of numbers.
use Rattle.std.proofs.Common.{◌≡◌, ◌≢◌, ℕ, zero, suc, ◌+◌, ◌-◌, ◌<◌, Bool, true, false, inl, inr, List, [], ◌∷◌, ◌++◌, length, get_or, replicate, eqb, refl, sym, ◌∙◌, ap, arith, get_or-set_same, get_or-set_other}
use Rattle.std.specs.List.{list_all, range_with_len}
use Rattle.std.proofs.Math.ListN.{set}
use Rattle.std.proofs.lemmas.List.{get_or-replicate, length-replicate, length-set}
use Rattle.std.proofs.lemmas.Bool.{eqb-true, eqb-false, and_parts, cases_Bool}
use Rattle.finite_lists.proofs.Lists.{list_all_same}
use Rattle.finite_lists.proofs.DistinctLists.{In-range_from}
use Rattle.presheaf_core.specs.Tables.{IsTable}

pub none_yet : (test : ℕ → Bool) (n : ℕ) → ((x : ℕ) → test x ≡ false) → IsTable test n (replicate n false)
none_yet test n never = record {
  places = length-replicate n false;
  answers = λ x low. get_or-replicate n x false false low ∙ sym (never x);
}

pub one_more : (test later : ℕ → Bool) (n m : ℕ) (bits : List Bool) → IsTable test n bits → m < n → later m ≡ true → ((x : ℕ) → x ≢ m → later x ≡ test x) → IsTable later n (set bits m true)
one_more test later n m bits table low marked others = record {
  places = length-set bits m true ∙ table.places;
  answers = λ x low'.
      elim (cases_Bool (eqb x m)) [
        | inl b ↦
            let same : x ≡ m = eqb-true x m b in
            rw same (get_or-set_same bits m true false (omega (arith, table.places)) ∙ sym marked)
        | inr b ↦
            let other : x ≢ m = eqb-false x m b in
            get_or-set_other bits m x true false other ∙ table.answers x low' ∙ sym (others x other)
      ];
}

pub all_answers : (test : ℕ → Bool) (n : ℕ) (bits : List Bool) → IsTable test n bits → list_all (λ x. get_or bits x false) (range_with_len 0 (length bits)) ≡ list_all test (range_with_len 0 n)
all_answers test n bits table =
    ap (λ m. list_all (λ x. get_or bits x false) (range_with_len 0 m)) table.places
    ∙ list_all_same _ _ (range_with_len 0 n) (λ x i. let r = In-range_from 0 n x i in table.answers x (omega (arith, r.1)))

-- a test that each member passes, at a place
pub all_at : {A : Type 0} (p : A → Bool) (xs : List A) (i : ℕ) (d : A) → i < length xs → list_all p xs ≡ true → p (get_or xs i d) ≡ true
all_at p [] i d low e = absurd (omega arith)
all_at p (x ∷ xs) zero d low e = (and_parts (p x) (list_all p xs) e).0
all_at p (x ∷ xs) (suc i) d low e = all_at p xs i d (omega arith) (and_parts (p x) (list_all p xs) e).1

-- the numbers from i up to n
pub range_from : (i n : ℕ) → i < n → range_with_len i (n - i) ≡ i ∷ range_with_len (i + 1) (n - (i + 1))
range_from i n low =
    let more : n - i ≡ suc (n - (i + 1)) = omega arith in
    ap (range_with_len i) more

-- a test of the numbers from i up to n, where i passes
pub all_passed : (test : ℕ → Bool) (i n : ℕ) → i < n → test i ≡ true → list_all test (range_with_len i (n - i)) ≡ list_all test (range_with_len (i + 1) (n - (i + 1)))
all_passed test i n low e = rw (range_from i n low) (rw e refl)

-- one number more
pub range_more : (a n : ℕ) → range_with_len a (n + 1) ≡ range_with_len a n ++ (a + n) ∷ []
range_more a zero = let same : a ≡ a + 0 = omega arith in ap (λ m. m ∷ []) same
range_more a (suc n) =
    let more : suc n + 1 ≡ suc (n + 1) = omega arith in
    let same : a + 1 + n ≡ a + suc n = omega arith in
    ap (range_with_len a) more ∙ ap (λ l. a ∷ l) (range_more (a + 1) n) ∙ ap (λ m. a ∷ (range_with_len (a + 1) n ++ m ∷ [])) same

pub numbers_more : (n : ℕ) → range_with_len 0 (n + 1) ≡ range_with_len 0 n ++ n ∷ []
numbers_more n = let same : 0 + n ≡ n = omega arith in range_more 0 n ∙ ap (λ m. range_with_len 0 n ++ m ∷ []) same
