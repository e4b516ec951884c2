-- Members of joined, mapped and filtered lists and of sublists, and lists with no member twice.
use Rattle.std.proofs.Common.{◌≡◌, ℕ, zero, suc, ◌<◌, Bool, true, false, cond, ◌&&◌, ◌⊎◌, inl, inr, List, [], ◌∷◌, ◌++◌, length, get_or, take, map, filter, refl, sym, ◌∙◌, ap, subst, arith}
use Rattle.std.specs.List.{list_any, list_all, flat_map, Contains}
use Rattle.std.proofs.lemmas.Bool.{and_left, and_right, and_parts, or_cases, or_left, or_right}
use Rattle.finite_lists.specs.Members.{In, Distinct}
use Rattle.finite_lists.specs.Sublists.{sublists}

-- two tests are equal that say yes together
pub same_tests : (a b : Bool) → (a ≡ true → b ≡ true) → (b ≡ true → a ≡ true) → a ≡ b
same_tests true b h k = sym (h refl)
same_tests false true h k = k refl
same_tests false false h k = refl

pub In-append_left : {A : Type 0} (xs ys : List A) (x : A) → In xs x → In (xs ++ ys) x
In-append_left [] ys x h = absurd h
In-append_left (y ∷ xs) ys x (inl e) = inl e
In-append_left (y ∷ xs) ys x (inr h) = inr (In-append_left xs ys x h)

pub In-append_right : {A : Type 0} (xs ys : List A) (x : A) → In ys x → In (xs ++ ys) x
In-append_right [] ys x h = h
In-append_right (y ∷ xs) ys x h = inr (In-append_right xs ys x h)

pub In-append_cases : {A : Type 0} (xs ys : List A) (x : A) → In (xs ++ ys) x → In xs x ⊎ In ys x
In-append_cases [] ys x h = inr h
In-append_cases (y ∷ xs) ys x (inl e) = inl (inl e)
In-append_cases (y ∷ xs) ys x (inr h) =
    elim (In-append_cases xs ys x h) [ inl l ↦ inl (inr l) | inr r ↦ inr r ]

pub In-map : {A B : Type 0} (f : A → B) (xs : List A) (x : A) → In xs x → In (map f xs) (f x)
In-map f [] x h = absurd h
In-map f (y ∷ xs) x (inl e) = inl (ap f e)
In-map f (y ∷ xs) x (inr h) = inr (In-map f xs x h)

pub In-map_from : {A B : Type 0} (f : A → B) (xs : List A) (y : B) → In (map f xs) y → (x : A) × In xs x × (f x ≡ y)
In-map_from f [] y h = absurd h
In-map_from f (x ∷ xs) y (inl e) = (x, inl refl, e)
In-map_from f (x ∷ xs) y (inr h) = let r = In-map_from f xs y h in (r.0, inr r.1, r.2)

pub In-flat_map : {A B : Type 0} (f : A → List B) (xs : List A) (x : A) (y : B) → In xs x → In (f x) y → In (flat_map f xs) y
In-flat_map f [] x y h k = absurd h
In-flat_map f (z ∷ xs) x y (inl e) k = In-append_left (f z) (flat_map f xs) y (subst (λ w. In (f w) y) (sym e) k)
In-flat_map f (z ∷ xs) x y (inr h) k = In-append_right (f z) (flat_map f xs) y (In-flat_map f xs x y h k)

pub In-flat_map_from : {A B : Type 0} (f : A → List B) (xs : List A) (y : B) → In (flat_map f xs) y → (x : A) × In xs x × In (f x) y
In-flat_map_from f [] y h = absurd h
In-flat_map_from {A} {B} f (x ∷ xs) y h =
    elim (In-append_cases (f x) (flat_map f xs) y h) [
      | inl l ↦ (x, inl refl, l)
      | inr r ↦ let found : (x' : A) × In xs x' × In (f x') y = In-flat_map_from f xs y r in (found.0, inr found.1, found.2)
    ]

pub In-filter : {A : Type 0} (p : A → Bool) (xs : List A) (x : A) → In xs x → p x ≡ true → In (filter p xs) x
In-filter p [] x h k = absurd h
In-filter {A} p (y ∷ xs) x h k = at (p y) refl h (λ i. In-filter p xs x i k)
  where
    at : (b : Bool) → p y ≡ b → In (y ∷ xs) x → (In xs x → In (filter p xs) x) → In (cond b (y ∷ filter p xs) (filter p xs)) x
    at true e (inl s) ih = inl s
    at true e (inr h) ih = inr (ih h)
    at false e (inl s) ih = let f : p y ≡ p x = ap p s in cc
    at false e (inr h) ih = ih h

pub In-filter_from : {A : Type 0} (p : A → Bool) (xs : List A) (x : A) → In (filter p xs) x → In xs x × (p x ≡ true)
In-filter_from p [] x h = absurd h
In-filter_from {A} p (y ∷ xs) x h = at (p y) refl h (In-filter_from p xs x)
  where
    at : (b : Bool) → p y ≡ b → In (cond b (y ∷ filter p xs) (filter p xs)) x → (In (filter p xs) x → In xs x × (p x ≡ true)) → In (y ∷ xs) x × (p x ≡ true)
    at true e (inl s) ih = (inl s, sym (ap p s) ∙ e)
    at true e (inr h) ih = (inr (ih h).0, (ih h).1)
    at false e h ih = (inr (ih h).0, (ih h).1)

pub all_each : {A : Type 0} (p : A → Bool) (xs : List A) (x : A) → list_all p xs ≡ true → In xs x → p x ≡ true
all_each p [] x h k = absurd k
all_each p (y ∷ xs) x h (inl s) = sym (ap p s) ∙ (and_parts (p y) (list_all p xs) h).0
all_each p (y ∷ xs) x h (inr k) = all_each p xs x (and_parts (p y) (list_all p xs) h).1 k

pub each_all : {A : Type 0} (p : A → Bool) (xs : List A) → ((x : A) → In xs x → p x ≡ true) → list_all p xs ≡ true
each_all p [] h = refl
each_all p (y ∷ xs) h = rw (h y (inl refl)) (each_all p xs (λ x k. h x (inr k)))

pub some_any : {A : Type 0} (p : A → Bool) (xs : List A) (x : A) → In xs x → p x ≡ true → list_any p xs ≡ true
some_any p [] x h k = absurd h
some_any p (y ∷ xs) x (inl s) k = or_left (p y) (list_any p xs) (ap p s ∙ k)
some_any p (y ∷ xs) x (inr h) k = or_right (p y) (list_any p xs) (some_any p xs x h k)

pub any_some : {A : Type 0} (p : A → Bool) (xs : List A) → list_any p xs ≡ true → (x : A) × In xs x × (p x ≡ true)
any_some p [] h = cc
any_some p (y ∷ xs) h =
    elim (or_cases (p y) (list_any p xs) h) [
      | inl e ↦ (y, inl refl, e)
      | inr e ↦ let r = any_some p xs e in (r.0, inr r.1, r.2)
    ]

-- two tests that agree on the members keep the same
pub filter_same : {A : Type 0} (p q : A → Bool) (xs : List A) → ((x : A) → In xs x → p x ≡ q x) → filter p xs ≡ filter q xs
filter_same p q [] h = refl
filter_same p q (y ∷ xs) h = rw (h y (inl refl), filter_same p q xs (λ x k. h x (inr k))) refl

-- two tests, one after the other
pub filter_filter : {A : Type 0} (p q : A → Bool) (xs : List A) → filter p (filter q xs) ≡ filter (λ x. p x && q x) xs
filter_filter p q [] = refl
filter_filter {A} p q (y ∷ xs) = at (p y) (q y) refl (filter_filter p q xs)
  where
    at : (a b : Bool) → p y ≡ a → filter p (filter q xs) ≡ filter (λ x. p x && q x) xs → filter p (cond b (y ∷ filter q xs) (filter q xs)) ≡ cond (a && b) (y ∷ filter (λ x. p x && q x) xs) (filter (λ x. p x && q x) xs)
    at true true e ih = ap (λ a. cond a (y ∷ filter p (filter q xs)) (filter p (filter q xs))) e ∙ ap (λ l. y ∷ l) ih
    at false true e ih = ap (λ a. cond a (y ∷ filter p (filter q xs)) (filter p (filter q xs))) e ∙ ih
    at true false e ih = ih
    at false false e ih = ih

pub map_same : {A B : Type 0} (f g : A → B) (xs : List A) → ((x : A) → In xs x → f x ≡ g x) → map f xs ≡ map g xs
map_same f g [] h = refl
map_same f g (y ∷ xs) h = rw (h y (inl refl), map_same f g xs (λ x k. h x (inr k))) refl

pub filter_sublist : {A : Type 0} (p : A → Bool) (xs : List A) → In (sublists xs) (filter p xs)
unfolding sublists
filter_sublist p [] = inl refl
filter_sublist {A} p (y ∷ xs) = at (p y) (filter_sublist p xs)
  where
    at : (b : Bool) → In (sublists xs) (filter p xs) → In (sublists xs ++ map (λ s. y ∷ s) (sublists xs)) (cond b (y ∷ filter p xs) (filter p xs))
    at true ih = In-append_right (sublists xs) _ _ (In-map (λ s. y ∷ s) (sublists xs) _ ih)
    at false ih = In-append_left (sublists xs) _ _ ih

-- a sublist of y ∷ xs is a sublist of xs, or y before one
pub sublist_cases : {A : Type 0} (y : A) (xs s : List A) → In (sublists (y ∷ xs)) s → In (sublists xs) s ⊎ ((t : List A) × In (sublists xs) t × (s ≡ y ∷ t))
unfolding sublists
sublist_cases y xs s h =
    elim (In-append_cases (sublists xs) _ s h) [
      | inl l ↦ inl l
      | inr r ↦ let m = In-map_from (λ t. y ∷ t) (sublists xs) s r in inr (m.0, m.1, sym m.2)
    ]

pub sublist_within : {A : Type 0} (xs s : List A) (x : A) → In (sublists xs) s → In s x → In xs x
unfolding sublists
sublist_within [] s x (inl e) k = subst (λ t. In t x) (sym e) k
sublist_within [] s x (inr h) k = absurd h
sublist_within {A} (y ∷ xs) s x h k =
    elim (sublist_cases y xs s h) [
      | inl l ↦ inr (sublist_within xs s x l k)
      | inr r ↦ at r.0 (sublist_within xs r.0 x r.1) (subst (λ t. In t x) r.2 k)
    ]
  where
    at : (t : List A) → (In t x → In xs x) → In (y ∷ t) x → In (y ∷ xs) x
    at t ih (inl e) = inl e
    at t ih (inr k) = inr (ih k)

-- a sublist is what a test of its membership keeps
pub sublist_kept : {A : Type 0} (p : A → Bool) (xs s : List A) → Distinct xs → In (sublists xs) s →
    ((x : A) → In xs x → p x ≡ true → In s x) → ((x : A) → In s x → p x ≡ true) → filter p xs ≡ s
unfolding sublists
sublist_kept p [] s d (inl e) h k = e
sublist_kept p [] s d (inr l) h k = absurd l
sublist_kept {A} p (y ∷ xs) s d l h k =
    elim (sublist_cases y xs s l) [
      | inl l ↦
          let never : p y ≡ true → ⊥ = λ e. d.0 (sublist_within xs s y l (h y (inl refl) e)) in
          out (p y) refl never ∙ sublist_kept p xs s d.1 l (λ x i. h x (inr i)) k
      | inr r ↦
          let yes : p y ≡ true = k y (subst (λ t. In t y) (sym r.2) (inl refl)) in
          rw yes (ap (λ t. y ∷ t) (sublist_kept p xs r.0 d.1 r.1 (λ x i e. after r.0 x i (subst (λ t. In t x) r.2 (h x (inr i) e))) (λ x i. k x (subst (λ t. In t x) (sym r.2) (inr i)))) ∙ sym r.2)
    ]
  where
    out : (b : Bool) → p y ≡ b → (p y ≡ true → ⊥) → cond b (y ∷ filter p xs) (filter p xs) ≡ filter p xs
    out true e never = absurd (never e)
    out false e never = refl

    after : (t : List A) (x : A) → In xs x → In (y ∷ t) x → In t x
    after t x i (inl e) = absurd (d.0 (subst (λ z. In xs z) (sym e) i))
    after t x i (inr j) = j

-- a list is a sublist of itself
pub whole_sublist : {A : Type 0} (xs : List A) → In (sublists xs) xs
unfolding sublists
whole_sublist [] = inl refl
whole_sublist (y ∷ xs) = In-append_right (sublists xs) _ (y ∷ xs) (In-map (λ s. y ∷ s) (sublists xs) xs (whole_sublist xs))

-- members by places
pub In_Contains : {A : Type 0} (xs : List A) (x : A) → In xs x → Contains xs x
In_Contains [] x h = absurd h
In_Contains (y ∷ xs) x (inl e) = (zero, omega arith, e)
In_Contains (y ∷ xs) x (inr h) = let r = In_Contains xs x h in (suc r.0, omega (arith, r.1), r.2)

at_In : {A : Type 0} (xs : List A) (n : ℕ) (x : A) → n < length xs → get_or xs n x ≡ x → In xs x
at_In [] n x low e = absurd (omega arith)
at_In (y ∷ xs) zero x low e = inl e
at_In (y ∷ xs) (suc n) x low e = inr (at_In xs n x (omega arith) e)

-- a member by its place
pub In_at : {A : Type 0} (xs : List A) (i : ℕ) (d : A) → i < length xs → In xs (get_or xs i d)
In_at [] i d low = absurd (omega arith)
In_at (x ∷ xs) zero d low = inl refl
In_at (x ∷ xs) (suc i) d low = inr (In_at xs i d (omega arith))

pub Contains_In : {A : Type 0} (xs : List A) (x : A) → Contains xs x → In xs x
Contains_In xs x h = at_In xs h.0 x h.1 h.2

pub list_all_same : {A : Type 0} (p q : A → Bool) (xs : List A) → ((x : A) → In xs x → p x ≡ q x) → list_all p xs ≡ list_all q xs
list_all_same p q [] h = refl
list_all_same p q (y ∷ xs) h = rw (h y (inl refl), list_all_same p q xs (λ x k. h x (inr k))) refl

pub all_fails : {A : Type 0} (p : A → Bool) (xs : List A) (x : A) → In xs x → p x ≡ false → list_all p xs ≡ false
all_fails p [] x i e = absurd i
all_fails p (y ∷ xs) x (inl s) e = and_left (p y) (list_all p xs) (ap p s ∙ e)
all_fails p (y ∷ xs) x (inr i) e = and_right (p y) (list_all p xs) (all_fails p xs x i e)

-- a member of a front is a member
pub In_take : {A : Type 0} (xs : List A) (n : ℕ) (x : A) → In (take n xs) x → In xs x
In_take [] zero x i = i
In_take [] (suc n) x i = i
In_take (y ∷ xs) zero x i = absurd i
In_take (y ∷ xs) (suc n) x (inl e) = inl e
In_take (y ∷ xs) (suc n) x (inr i) = inr (In_take xs n x i)
