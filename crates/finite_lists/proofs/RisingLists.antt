-- Filters, maps and joined lists of rising lists rise, and so does the list of sublists.
use Rattle.std.proofs.Common.{◌≡◌, ℕ, zero, suc, ◌+◌, ◌<◌, Bool, true, false, cond, ◌⊎◌, inl, inr, List, [], ◌∷◌, ◌++◌, map, filter, refl, sym, ap, ◌∙◌, subst, arith}
use Rattle.std.specs.List.{range_with_len, flat_map}
use Rattle.finite_lists.specs.Members.{In, Distinct}
use Rattle.finite_lists.specs.Rising.{Rising, SublistBelow}
use Rattle.finite_lists.specs.Sublists.{sublists}
use Rattle.finite_lists.proofs.Lists.{In-append_cases, In-map_from, In-flat_map_from, In-filter_from, sublist_within}
use Rattle.finite_lists.proofs.DistinctLists.{In-range_from}

pub Rising-filter : {A : Type 0} (below : A → A → Type 0) (p : A → Bool) (xs : List A) → Rising below xs → Rising below (filter p xs)
Rising-filter below p [] h = h
Rising-filter {A} below p (x ∷ xs) h = at (p x) (Rising-filter below p xs h.1)
  where
    at : (b : Bool) → Rising below (filter p xs) → Rising below (cond b (x ∷ filter p xs) (filter p xs))
    at true ih = (λ y i. h.0 y (In-filter_from p xs y i).0, ih)
    at false ih = ih

pub Rising-append : {A : Type 0} (below : A → A → Type 0) (xs ys : List A) → Rising below xs → Rising below ys → ((x y : A) → In xs x → In ys y → below x y) → Rising below (xs ++ ys)
Rising-append below [] ys h k across = k
Rising-append below (x ∷ xs) ys h k across =
    (λ y i. elim (In-append_cases xs ys y i) [ inl l ↦ h.0 y l | inr r ↦ across x y (inl refl) r ], Rising-append below xs ys h.1 k (λ z y i j. across z y (inr i) j))

pub Rising-map : {A B : Type 0} (below : A → A → Type 0) (above : B → B → Type 0) (f : A → B) (xs : List A) →
    ((x y : A) → In xs x → In xs y → below x y → above (f x) (f y)) → Rising below xs → Rising above (map f xs)
Rising-map below above f [] keeps h = h
Rising-map below above f (x ∷ xs) keeps h =
    (λ y i. let m = In-map_from f xs y i in subst (λ z. above (f x) z) m.2 (keeps x m.0 (inl refl) (inr m.1) (h.0 m.0 m.1)), Rising-map below above f xs (λ y z i j. keeps y z (inr i) (inr j)) h.1)

pub Rising-flat_map : {A B : Type 0} (below : A → A → Type 0) (above : B → B → Type 0) (f : A → List B) (xs : List A) → Rising below xs →
    ((x : A) → In xs x → Rising above (f x)) → ((x z : A) (y w : B) → In xs x → In xs z → below x z → In (f x) y → In (f z) w → above y w) → Rising above (flat_map f xs)
Rising-flat_map below above f [] h each across = tt
Rising-flat_map below above f (x ∷ xs) h each across =
    Rising-append above (f x) (flat_map f xs) (each x (inl refl)) (Rising-flat_map below above f xs h.1 (λ z i. each z (inr i)) (λ y z v w i j. across y z v w (inr i) (inr j)))
    (λ y w i j. let m = In-flat_map_from f xs w j in across x m.0 y w (inl refl) (inr m.1) (h.0 m.0 m.1) i m.2)

pub Rising-range : (a n : ℕ) → Rising (λ m n. m < n) (range_with_len a n)
Rising-range a zero = tt
Rising-range a (suc n) = (λ y i. let r = In-range_from (a + 1) n y i in omega arith, Rising-range (a + 1) n)

-- only the members of l count
below_alike : {A : Type 0} (l s t s' t' : List A) → ((x : A) → In l x → In s x → In s' x) → ((x : A) → In l x → In s' x → In s x) →
    ((x : A) → In l x → In t x → In t' x) → ((x : A) → In l x → In t' x → In t x) → SublistBelow l s t → SublistBelow l s' t'
below_alike [] s t s' t' a b c d h = h
below_alike (x ∷ l) s t s' t' a b c d (inl h) = inl (λ i. h.0 (b x (inl refl) i), c x (inl refl) h.1)
below_alike (x ∷ l) s t s' t' a b c d (inr h) =
    inr (
      λ i. c x (inl refl) (h.0 (b x (inl refl) i)),
      λ i. a x (inl refl) (h.1 (d x (inl refl) i)),
      below_alike l s t s' t' (λ y i. a y (inr i)) (λ y i. b y (inr i)) (λ y i. c y (inr i)) (λ y i. d y (inr i)) h.2,
    )

-- the sublists of a list stand in the order "without, then with"
pub Rising-sublists : {A : Type 0} (l : List A) → Distinct l → Rising (SublistBelow l) (sublists l)
unfolding sublists
Rising-sublists [] d = (λ y i. i, tt)
Rising-sublists {A} (x ∷ l) d =
    Rising-append (SublistBelow (x ∷ l)) (sublists l) _ (Rising-same (sublists l) (λ s i. i) (Rising-sublists l d.1))
    (Rising-map (SublistBelow l) (SublistBelow (x ∷ l)) (λ s. x ∷ s) (sublists l)
    (λ s t i j h. inr (λ k. inl refl, λ k. inl refl, below_alike l s t (x ∷ s) (x ∷ t) (λ y k m. inr m) (drop_first s) (λ y k m. inr m) (drop_first t) h)) (Rising-sublists l d.1))
    (λ s t i j.
    let m = In-map_from (λ s. x ∷ s) (sublists l) t j in
    inl (out s i, subst (λ t. In t x) m.2 (inl refl)))
  where
    out : (s : List A) → In (sublists l) s → In s x → ⊥
    out s i h = d.0 (sublist_within l s x i h)

    drop_first : (s : List A) (y : A) → In l y → In (x ∷ s) y → In s y
    drop_first s y i (inl e) = absurd (d.0 (subst (λ z. In l z) (sym e) i))
    drop_first s y i (inr m) = m

    Rising-same : (ss : List (List A)) → ((s : List A) → In ss s → In (sublists l) s) → Rising (SublistBelow l) ss → Rising (SublistBelow (x ∷ l)) ss
    Rising-same [] h r = tt
    Rising-same (s ∷ ss) h r = (
      λ t i. inr (λ k. absurd (d.0 (sublist_within l s x (h s (inl refl)) k)), λ k. absurd (d.0 (sublist_within l t x (h t (inr i)) k)), r.0 t i),
      Rising-same ss (λ t i. h t (inr i)) r.1,
    )

pub SublistBelow-irreflexive : {A : Type 0} (l s : List A) → SublistBelow l s s → ⊥
SublistBelow-irreflexive [] s h = h
SublistBelow-irreflexive (x ∷ l) s (inl h) = h.0 h.1
SublistBelow-irreflexive (x ∷ l) s (inr h) = SublistBelow-irreflexive l s h.2

-- an order in which no two members are below each other
abbrev pub IsAsymmetric : {A : Type 0} → (A → A → Type 0) → Type 0
IsAsymmetric {A} below = (x y : A) → below x y → below y x → ⊥

-- two rising lists with the same members are equal
pub rising_same : {A : Type 0} (below : A → A → Type 0) (xs ys : List A) → IsAsymmetric below → Rising below xs → Rising below ys →
    ((x : A) → In xs x → In ys x) → ((x : A) → In ys x → In xs x) → xs ≡ ys
rising_same below [] [] one r s h k = refl
rising_same below [] (y ∷ ys) one r s h k = absurd (k y (inl refl))
rising_same below (x ∷ xs) [] one r s h k = absurd (h x (inl refl))
rising_same {A} below (x ∷ xs) (y ∷ ys) one r s h k =
    let e : x ≡ y = heads (h x (inl refl)) (k y (inl refl)) in
    ap (λ z. z ∷ xs) e ∙ ap (λ l. y ∷ l) (rising_same below xs ys one r.1 s.1
    (λ z i. later y ys z (λ d. one x x (subst (below x) (sym (e ∙ d)) (r.0 z i)) (subst (below x) (sym (e ∙ d)) (r.0 z i))) (h z (inr i)))
    (λ z i. later x xs z (λ d. one y y (subst (below y) (sym (sym e ∙ d)) (s.0 z i)) (subst (below y) (sym (sym e ∙ d)) (s.0 z i))) (k z (inr i))))
  where
    heads : In (y ∷ ys) x → In (x ∷ xs) y → x ≡ y
    heads (inl e) j = sym e
    heads (inr i) (inl e) = e
    heads (inr i) (inr j) = absurd (one x y (r.0 y j) (s.0 x i))

    later : (y : A) (ys : List A) (z : A) → (y ≡ z → ⊥) → In (y ∷ ys) z → In ys z
    later y ys z other (inl e) = absurd (other e)
    later y ys z other (inr i) = i

-- two members of a rising list are equal, or one is below the other
pub rising_cases : {A : Type 0} (below : A → A → Type 0) (xs : List A) (x y : A) → Rising below xs → In xs x → In xs y → (x ≡ y) ⊎ (below x y ⊎ below y x)
rising_cases below [] x y r i j = absurd i
rising_cases below (z ∷ xs) x y r (inl d) (inl e) = inl (sym d ∙ e)
rising_cases {A} below (z ∷ xs) x y r (inl d) (inr j) = inr (inl (subst (λ (w : A). below w y) d (r.0 y j)))
rising_cases {A} below (z ∷ xs) x y r (inr i) (inl e) = inr (inr (subst (λ (w : A). below w x) e (r.0 x i)))
rising_cases below (z ∷ xs) x y r (inr i) (inr j) = rising_cases below xs x y r.1 i j
