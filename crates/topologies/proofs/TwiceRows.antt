-- Least covers taken twice, over the covers as they are kept.
use Rattle.std.proofs.Common.{◌≡◌, ℕ, zero, suc, ◌+◌, ◌<◌, ◌≤◌, Bool, true, false, List, [], ◌∷◌, length, get_or, drop, map, Option, Some, None, refl, sym, ap, ◌∙◌, arith}
use Rattle.std.specs.List.{range_with_len}
use Rattle.std.proofs.lemmas.List.FromFn.{length-range_with_len, get_or-range_with_len}
use Rattle.finite_lists.specs.First.{first, some_if}
use Rattle.finite_lists.proofs.FirstAnswers.{first_left-none, first_left-some, first_left-end, first_some_each}
use Rattle.finite_lists.proofs.DistinctLists.{In-range_from}
use Rattle.fin_category.specs.declared.mask.ArrowMask.{ArrowMask}
use Rattle.fin_category.specs.Masks.{added, all_added}
use Rattle.fin_category.specs.ArrowSets.{arrows_in}

-- a kept cover, and none past the last
pub mask-at : (least : List ArrowMask) (c : ℕ) (d : ArrowMask) → c < length least → arrows_in (get_or least c d) ≡ get_or (map arrows_in least) c []
mask-at [] c d low = absurd (omega arith)
mask-at (m ∷ least) zero d low = refl
mask-at (m ∷ least) (suc c) d low = mask-at least c d (omega arith)

pub none-past : (least : List ArrowMask) (c : ℕ) → length least ≤ c → get_or (map arrows_in least) c [] ≡ []
none-past [] c high = refl
none-past (m ∷ least) zero high = absurd (omega arith)
none-past (m ∷ least) (suc c) high = none-past least c (omega arith)

-- one more composite, and none
pub mapped-one : (F : ℕ → ℕ) (S T rest : List ℕ) (x : ℕ) → T ≡ added (F x) S → all_added T (map F rest) ≡ all_added S (map F (x ∷ rest))
unfolding all_added
mapped-one F S T rest x e = ap (λ U. all_added U (map F rest)) e

pub mapped-none : (F : ℕ → ℕ) (S : List ℕ) → all_added S (map F []) ≡ S
unfolding all_added
mapped-none F S = refl

-- a search over the numbers below n
module _ {A : Type 0} (t : ℕ → Option A) (n c : ℕ) where
  here : c < n → get_or (range_with_len 0 n) c 0 ≡ c
  here low = get_or-range_with_len 0 n c 0 low ∙ omega arith

  pub range-none : c < n → t c ≡ None → first t (drop (c + 1) (range_with_len 0 n)) ≡ first t (drop c (range_with_len 0 n))
  range-none low e = sym (first_left-none t (range_with_len 0 n) c 0 (let l = length-range_with_len 0 n in omega (arith, l)) (ap t (here low) ∙ e))

  pub range-some : (a : A) → c < n → t c ≡ Some a → first t (drop c (range_with_len 0 n)) ≡ Some a
  range-some a low e = first_left-some t (range_with_len 0 n) c 0 a (let l = length-range_with_len 0 n in omega (arith, l)) (ap t (here low) ∙ e)

  pub range-end : n ≤ c → first t (drop c (range_with_len 0 n)) ≡ None
  range-end high = first_left-end t (range_with_len 0 n) c (let l = length-range_with_len 0 n in omega (arith, l))

-- the number that a test of numbers gives first is one of them
pub found-below : (p : ℕ → Bool) (n c : ℕ) → first (λ c. some_if (p c) c) (range_with_len 0 n) ≡ Some c → c < n
found-below p n c h =
    let r = first_some_each (λ c. some_if (p c) c) (range_with_len 0 n) c h in
    let low = In-range_from 0 n r.0 r.1 in
    let e = same (p r.0) r.0 r.2 in
    omega (arith, low.1, e)
  where
    same : (b : Bool) (x : ℕ) → some_if b x ≡ Some c → x ≡ c
    same true x e = cc
    same false x e = absurd (cc)
