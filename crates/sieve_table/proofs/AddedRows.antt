-- Sets that grow by a row of arrows: by their composites with one arrow, or by those that pass a test.
use Rattle.std.proofs.Common.{◌≡◌, ℕ, ◌+◌, ◌<◌, ◌≤◌, Bool, true, false, cond, List, ◌∷◌, length, get_or, drop, map, filter, sym, ◌∙◌, ap, add-one}
use Rattle.std.proofs.Math.Seq.{drop-cons}
use Rattle.std.proofs.Math.ListN.{drop_of_length-le}
use Rattle.fin_category.specs.Masks.{added, all_added}

module _ (F : ℕ → ℕ) where
  pub mapped-step : (S T xs : List ℕ) (i : ℕ) → i < length xs → T ≡ added (F (get_or xs i 0)) S → all_added T (map F (drop (i + 1) xs)) ≡ all_added S (map F (drop i xs))
  unfolding all_added
  mapped-step S T xs i low e =
      ap (λ U. all_added U (map F (drop (i + 1) xs))) e ∙ ap (λ j. all_added (added (F (get_or xs i 0)) S) (map F (drop j xs))) (add-one i)
      ∙ sym (ap (λ ys. all_added S (map F ys)) (drop-cons xs i 0 low))

  pub mapped-end : (S xs : List ℕ) (i : ℕ) → length xs ≤ i → all_added S (map F (drop i xs)) ≡ S
  unfolding all_added
  mapped-end S xs i high = ap (λ ys. all_added S (map F ys)) (drop_of_length-le xs high)

module _ (p : ℕ → Bool) where
  filtered : (S xs : List ℕ) (i : ℕ) (b : Bool) → i < length xs → p (get_or xs i 0) ≡ b →
      all_added S (cond b (get_or xs i 0 ∷ filter p (drop (i + 1) xs)) (filter p (drop (i + 1) xs))) ≡ all_added S (filter p (drop i xs))
  filtered S xs i b low e =
      ap (λ b. all_added S (cond b (get_or xs i 0 ∷ filter p (drop (i + 1) xs)) (filter p (drop (i + 1) xs)))) (sym e)
      ∙ ap (λ j. all_added S (cond (p (get_or xs i 0)) (get_or xs i 0 ∷ filter p (drop j xs)) (filter p (drop j xs)))) (add-one i)
      ∙ sym (ap (λ ys. all_added S (filter p ys)) (drop-cons xs i 0 low))

  pub passed-step : (S T xs : List ℕ) (i : ℕ) → i < length xs → p (get_or xs i 0) ≡ true → T ≡ added (get_or xs i 0) S → all_added T (filter p (drop (i + 1) xs)) ≡ all_added S (filter p (drop i xs))
  unfolding all_added
  passed-step S T xs i low e a = ap (λ U. all_added U (filter p (drop (i + 1) xs))) a ∙ filtered S xs i true low e

  pub failed-step : (S xs : List ℕ) (i : ℕ) → i < length xs → p (get_or xs i 0) ≡ false → all_added S (filter p (drop (i + 1) xs)) ≡ all_added S (filter p (drop i xs))
  failed-step S xs i low e = filtered S xs i false low e

  pub filtered-end : (S xs : List ℕ) (i : ℕ) → length xs ≤ i → all_added S (filter p (drop i xs)) ≡ S
  unfolding all_added
  filtered-end S xs i high = ap (λ ys. all_added S (filter p ys)) (drop_of_length-le xs high)
