-- The rows of pairs as they are made, one after another.
use Rattle.std.proofs.Common.{◌≡◌, ℕ, zero, suc, ◌+◌, ◌<◌, ◌≤◌, inl, inr, List, [], ◌∷◌, ◌++◌, length, get_or, set, take, map, refl, sym, ap, subst, ◌∙◌, arith}
use Rattle.std.specs.List.{flat_map}
use Rattle.std.proofs.lemmas.Grind.{flat_map-append}
use Rattle.std.proofs.lemmas.List.{take_more, map-append, append-nil, get_or-set_same, get_or-set_other}
use Rattle.finite_lists.specs.Members.{In, Distinct}
use Rattle.finite_lists.proofs.Lists.{In_at, In-append_cases}
use Rattle.topos_model.specs.categories.Category.{Category, into, dom}
use Rattle.sieve_table.proofs.SieveMembers.{Distinct-into}
use Rattle.place_closures.specs.Pairs.{starts, pairs, start}
use Rattle.place_closures.proofs.PairNumbers.{total, length-joined, starts-same, starts-other}

pub mapped_more : {A B : Type 0} (h : A → B) (xs : List A) (ys : List B) (i : ℕ) (d : A) → i < length xs → ys ≡ map h (take i xs) → ys ++ h (get_or xs i d) ∷ [] ≡ map h (take (i + 1) xs)
mapped_more h xs ys i d low e =
    ap (λ t. t ++ h (get_or xs i d) ∷ []) e ∙ sym (map-append h (take i xs) (get_or xs i d ∷ [])) ∙ ap (map h) (sym (take_more xs i d low))

pub joined_more : {A B : Type 0} (h : A → List B) (xs : List A) (ys : List B) (i : ℕ) (d : A) → i < length xs → ys ≡ flat_map h (take i xs) → ys ++ h (get_or xs i d) ≡ flat_map h (take (i + 1) xs)
joined_more h xs ys i d low e =
    ap (λ t. t ++ h (get_or xs i d)) e
    ∙ sym (ap (flat_map h) (take_more xs i d low) ∙ flat_map-append h (take i xs) (get_or xs i d ∷ []) ∙ ap (λ t. flat_map h (take i xs) ++ t) (append-nil (h (get_or xs i d))))

-- the start of a member is what those before it count together
pub starts-total : (count : ℕ → ℕ) (fs : List ℕ) (i : ℕ) → Distinct fs → i < length fs → starts count fs (get_or fs i 0) ≡ total count (take i fs)
starts-total count [] i d low = absurd (omega arith)
starts-total count (g ∷ fs) zero d low = starts-same count (λ f w. w) g fs g refl
starts-total count (g ∷ fs) (suc i) d low =
    starts-other count (λ f w. w) g fs (get_or fs i 0) (λ e. d.0 (subst (λ x. In fs x) (sym e) (In_at fs i 0 (omega arith))))
    ∙ ap (λ n. count g + n) (starts-total count fs i d.1 (omega arith))

pub total_more : (count : ℕ → ℕ) (fs : List ℕ) (i : ℕ) → i < length fs → total count (take (i + 1) fs) ≡ total count (take i fs) + count (get_or fs i 0)
total_more count [] i low = absurd (omega arith)
total_more count (g ∷ fs) zero low = omega arith
total_more count (g ∷ fs) (suc i) low = ap (λ n. total count (take n (g ∷ fs))) (let e : suc i + 1 ≡ suc (i + 1) = omega arith in e) ∙ omega (arith, total_more count fs i (omega arith))

pub total_within : (count : ℕ → ℕ) (fs : List ℕ) (i : ℕ) → total count (take i fs) ≤ total count fs
total_within count [] zero = omega arith
total_within count [] (suc i) = omega arith
total_within count (g ∷ fs) zero = omega arith
total_within count (g ∷ fs) (suc i) = omega (arith, total_within count fs i)

-- the last of a front stands nowhere before
pub last_new : (fs : List ℕ) (i : ℕ) → Distinct fs → i < length fs → In (take i fs) (get_or fs i 0) → ⊥
last_new [] i d low h = absurd (omega arith)
last_new (g ∷ fs) zero d low h = h
last_new (g ∷ fs) (suc i) d low (inl e) = d.0 (subst (λ x. In fs x) (sym e) (In_at fs i 0 (omega arith)))
last_new (g ∷ fs) (suc i) d low (inr h) = last_new fs i d.1 (omega arith) h

module _ (k : Category) (size : ℕ → ℕ) (move : ℕ → ℕ → ℕ) (c : ℕ) where
  abbrev count : ℕ → ℕ
  count f = size (dom k f)

  pub pairs-total : length (pairs k size move c) ≡ total count (into k c)
  unfolding pairs
  pairs-total = let pair : ℕ → ℕ → ℕ × ℕ = λ f w. (f, w) in length-joined count pair (into k c)

  -- one arrow more has its start
  pub start_next : (i : ℕ) → i < length (into k c) → start k size move c (get_or (into k c) i 0) ≡ total count (take i (into k c))
  unfolding start
  start_next i low = starts-total count (into k c) i (Distinct-into k c) low

  pub starts_more : (xs ys : List ℕ) (i before : ℕ) → i < length (into k c) → get_or (into k c) i 0 < length xs → before ≡ total count (take i (into k c)) → ys ≡ set xs (get_or (into k c) i 0) before →
      ((f : ℕ) → In (take i (into k c)) f → get_or xs f 0 ≡ start k size move c f) → (f : ℕ) → In (take (i + 1) (into k c)) f → get_or ys f 0 ≡ start k size move c f
  starts_more xs ys i before low within is e done f m =
      let fs = into k c in
      elim (In-append_cases (take i fs) (get_or fs i 0 ∷ []) f (subst (λ l. In l f) (take_more fs i 0 low) m)) [
        | inl early ↦ ap (λ l. get_or l f 0) e ∙ get_or-set_other xs (get_or fs i 0) f before 0 (λ s. last_new fs i (Distinct-into k c) low (subst (λ x. In (take i fs) x) s early)) ∙ done f early
        | inr (inl s) ↦ ap (λ l. get_or l f 0) e ∙ ap (λ x. get_or (set xs (get_or fs i 0) before) x 0) (sym s) ∙ get_or-set_same xs (get_or fs i 0) before 0 within ∙ is ∙ sym (start_next i low) ∙ ap (start k size move c) s
        | inr (inr n) ↦ absurd n
      ]
