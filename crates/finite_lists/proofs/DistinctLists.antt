-- No member stands twice in a filtered, joined or mapped list, nor in the list of sublists.
use Rattle.std.proofs.Common.{◌≡◌, ℕ, zero, suc, ◌+◌, ◌<◌, ◌≤◌, Bool, true, false, cond, ◌⊎◌, inl, inr, List, [], ◌∷◌, ◌++◌, map, filter, refl, subst, arith}
use Rattle.std.specs.List.{range_with_len, flat_map}
use Rattle.finite_lists.specs.Members.{In, Distinct}
use Rattle.finite_lists.specs.Sublists.{sublists}
use Rattle.finite_lists.proofs.Lists.{In-append_cases, In-map_from, In-flat_map_from, In-filter_from, sublist_within}

pub Distinct-filter : {A : Type 0} (p : A → Bool) (xs : List A) → Distinct xs → Distinct (filter p xs)
Distinct-filter p [] d = d
Distinct-filter {A} p (y ∷ xs) d = at (p y) (Distinct-filter p xs d.1)
  where
    at : (b : Bool) → Distinct (filter p xs) → Distinct (cond b (y ∷ filter p xs) (filter p xs))
    at true ih = (λ h. d.0 (In-filter_from p xs y h).0, ih)
    at false ih = ih

pub Distinct-append : {A : Type 0} (xs ys : List A) → Distinct xs → Distinct ys → ((x : A) → In xs x → In ys x → ⊥) → Distinct (xs ++ ys)
Distinct-append [] ys d e apart = e
Distinct-append (x ∷ xs) ys d e apart =
    (λ h. elim (In-append_cases xs ys x h) [ inl l ↦ d.0 l | inr r ↦ apart x (inl refl) r ], Distinct-append xs ys d.1 e (λ z i j. apart z (inr i) j))

pub Distinct-map : {A B : Type 0} (f : A → B) (xs : List A) → ((x y : A) → f x ≡ f y → x ≡ y) → Distinct xs → Distinct (map f xs)
Distinct-map f [] one d = d
Distinct-map f (x ∷ xs) one d =
    (λ h. let m = In-map_from f xs (f x) h in d.0 (subst (λ z. In xs z) (one m.0 x m.2) m.1), Distinct-map f xs one d.1)

-- lists with no member twice, no two of which share a member, joined end to end
pub Distinct-flat_map : {A B : Type 0} (f : A → List B) (xs : List A) → Distinct xs → ((x : A) → In xs x → Distinct (f x)) →
    ((x z : A) (y : B) → In (f x) y → In (f z) y → x ≡ z) → Distinct (flat_map f xs)
Distinct-flat_map f [] d each apart = tt
Distinct-flat_map f (x ∷ xs) d each apart =
    Distinct-append (f x) (flat_map f xs) (each x (inl refl)) (Distinct-flat_map f xs d.1 (λ z i. each z (inr i)) apart)
    (λ y h k. let m = In-flat_map_from f xs y k in d.0 (subst (λ z. In xs z) (apart m.0 x y m.2 h) m.1))

pub Distinct-sublists : {A : Type 0} (xs : List A) → Distinct xs → Distinct (sublists xs)
unfolding sublists
Distinct-sublists [] d = (λ h. h, tt)
Distinct-sublists {A} (x ∷ xs) d =
    Distinct-append (sublists xs) _ (Distinct-sublists xs d.1) (Distinct-map (λ s. x ∷ s) (sublists xs) (λ s t e. cc) (Distinct-sublists xs d.1))
    (λ s h k. let m = In-map_from (λ t. x ∷ t) (sublists xs) s k in d.0 (sublist_within xs s x h (subst (λ t. In t x) m.2 (inl refl))))

-- the numbers from a on
pub In-range_from : (a n x : ℕ) → In (range_with_len a n) x → (a ≤ x) × (x < a + n)
In-range_from a zero x h = absurd h
In-range_from a (suc n) x (inl e) = (omega arith, omega arith)
In-range_from a (suc n) x (inr h) = let r = In-range_from (a + 1) n x h in (omega arith, omega arith)

pub In-range : (a n x : ℕ) → a ≤ x → x < a + n → In (range_with_len a n) x
In-range a zero x low high = absurd (omega arith)
In-range a (suc n) x low high =
    elim (first_or_later a x low) [
      | inl same ↦ inl same
      | inr above ↦ inr (In-range (a + 1) n x above (omega arith))
    ]
  where
    first_or_later : (a i : ℕ) → a ≤ i → (a ≡ i) ⊎ (a + 1 ≤ i)
    first_or_later a i h = grind arith

pub Distinct-range : (a n : ℕ) → Distinct (range_with_len a n)
Distinct-range a zero = tt
Distinct-range a (suc n) = (λ h. let r = In-range_from (a + 1) n a h in omega arith, Distinct-range (a + 1) n)
