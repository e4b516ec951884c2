-- The arrows by their codomains, one by one.
use Rattle.std.proofs.Common.{◌≡◌, ℕ, ◌+◌, ◌≤◌, cond, eqb, List, [], ◌∷◌, ◌++◌, length, get_or, filter, refl, sym, ap, ◌∙◌, arith, append-nil}
use Rattle.std.specs.List.{range_with_len}
use Rattle.std.proofs.lemmas.Bool.{eq-eqb, ne_eqb}
use Rattle.std.proofs.lemmas.List.FromFn.{map-range_with_len_more, filter_of_map_range_with_len_more}
use Rattle.std.proofs.lemmas.List.{map-id}
use Rattle.topos_model.specs.categories.Category.{Category, into}
use Rattle.fin_category.specs.Tables.{ending_at, ending_at_each}

-- those of the arrows below n that end at c
unfoldable pub ending_below : List (ℕ × ℕ) → ℕ → ℕ → List ℕ
ending_below ends c n = filter (λ f. eqb (get_or ends f (0, 0)).1 c) (range_with_len 0 n)

pub ending_below-none : (ends : List (ℕ × ℕ)) (c : ℕ) → [] ≡ ending_below ends c 0
unfolding ending_below
ending_below-none ends c = refl

below_more : (ends : List (ℕ × ℕ)) (c n : ℕ) → ending_below ends c (n + 1) ≡ ending_below ends c n ++ cond (eqb (get_or ends n (0, 0)).1 c) (n ∷ []) []
unfolding ending_below
below_more ends c n =
    ap (filter (λ f. eqb (get_or ends f (0, 0)).1 c)) (sym (map-id (range_with_len 0 (n + 1))))
    ∙ filter_of_map_range_with_len_more (λ (f : ℕ). eqb (get_or ends f (0, 0)).1 c) (λ (f : ℕ). f) 0 n n (omega arith)
    ∙ ap (λ xs. filter (λ f. eqb (get_or ends f (0, 0)).1 c) xs ++ cond (eqb (get_or ends n (0, 0)).1 c) (n ∷ []) []) (map-id (range_with_len 0 n))

pub ending_below-more : (ends : List (ℕ × ℕ)) (c n : ℕ) → (get_or ends n (0, 0)).1 ≡ c → ending_below ends c n ++ n ∷ [] ≡ ending_below ends c (n + 1)
ending_below-more ends c n e = sym (below_more ends c n ∙ ap (λ b. ending_below ends c n ++ cond b (n ∷ []) []) (eq-eqb _ c e))

pub ending_below-other : (ends : List (ℕ × ℕ)) (c n : ℕ) → ((get_or ends n (0, 0)).1 ≡ c → ⊥) → ending_below ends c n ≡ ending_below ends c (n + 1)
ending_below-other ends c n e = sym (below_more ends c n ∙ ap (λ b. ending_below ends c n ++ cond b (n ∷ []) []) (ne_eqb _ c e) ∙ append-nil (ending_below ends c n))

pub ending_below-all : (ends : List (ℕ × ℕ)) (c n : ℕ) → length ends ≤ n → n ≤ length ends → ending_below ends c n ≡ ending_at ends c
unfolding ending_below ending_at
ending_below-all ends c n h l = let e : n ≡ length ends = omega arith in ap (λ n. filter (λ f. eqb (get_or ends f (0, 0)).1 c) (range_with_len 0 n)) e

pub ruleset ending_rules = (ending_below-none, ending_below-more, ending_below-other, ending_below-all)

pub ending_at_each-none : (ends : List (ℕ × ℕ)) → [] ≡ ending_at_each ends 0
unfolding ending_at_each
ending_at_each-none ends = refl

pub ending_at_each-more : (ends : List (ℕ × ℕ)) (n : ℕ) → ending_at_each ends n ++ ending_at ends n ∷ [] ≡ ending_at_each ends (n + 1)
unfolding ending_at_each
ending_at_each-more ends n = sym (map-range_with_len_more (ending_at ends) 0 n n (omega arith))

pub ruleset each_rules = (ending_at_each-none, ending_at_each-more)

pub ending_at-into : (k : Category) (c : ℕ) → ending_at k.ends c ≡ into k c
unfolding ending_at into
ending_at-into k c = refl
