-- The first answer of a test: at a front with none, at its place, and where there is none.
use Rattle.std.proofs.Common.{◌≡◌, ℕ, ◌+◌, ◌<◌, ◌≤◌, Bool, true, false, cond, List, [], ◌∷◌, ◌++◌, map, filter, flat_map, length, get_or, drop, Option, Some, None, refl, sym, ap, ◌∙◌, ◌⊎◌, inl, inr}
use Rattle.std.specs.Option.{option_map}
use Rattle.std.proofs.lemmas.List.{drop_more, drop_all}
use Rattle.finite_lists.specs.First.{first, or_else, some_if}
use Rattle.finite_lists.specs.Members.{In}

-- where the test gives nothing at a member, the rest decides
pub first_none-cons : {A B : Type 0} (test : A → Option B) (a : A) (rest : List A) → test a ≡ None → first test (a ∷ rest) ≡ first test rest
first_none-cons test a rest e = ap (λ o. or_else o (first test rest)) e

pub first_some-cons : {A B : Type 0} (test : A → Option B) (a : A) (b : B) (rest : List A) → test a ≡ Some b → first test (a ∷ rest) ≡ Some b
first_some-cons test a b rest e = ap (λ o. or_else o (first test rest)) e

-- no answer at any member is no answer
pub first_none : {A B : Type 0} (test : A → Option B) (xs : List A) → ((x : A) → In xs x → test x ≡ None) → first test xs ≡ None
first_none test [] h = refl
first_none test (a ∷ rest) h = first_none-cons test a rest (h a (inl refl)) ∙ first_none test rest (λ x i. h x (inr i))

pub or_else_none : {B : Type 0} (o later : Option B) → or_else o later ≡ None → (o ≡ None) × (later ≡ None)
or_else_none None later e = (refl, e)
or_else_none (Some b) later e = cc

-- and no answer is none at any member
pub first_none_each : {A B : Type 0} (test : A → Option B) (xs : List A) (x : A) → first test xs ≡ None → In xs x → test x ≡ None
first_none_each test [] x e i = absurd i
first_none_each test (a ∷ rest) x e (inl p) = ap test (sym p) ∙ (or_else_none (test a) (first test rest) e).0
first_none_each test (a ∷ rest) x e (inr j) = first_none_each test rest x (or_else_none (test a) (first test rest) e).1 j

-- a test that is off gives no answer, and only such a one
pub some_if-false : {A : Type 0} (test : Bool) (a : A) → some_if test a ≡ None → test ≡ false
some_if-false true a e = cc
some_if-false false a e = refl

-- an answer is one at a member
pub first_some_each : {A B : Type 0} (test : A → Option B) (xs : List A) (b : B) → first test xs ≡ Some b → (x : A) × In xs x × (test x ≡ Some b)
first_some_each test [] b e = cc
first_some_each {A} {B} test (a ∷ rest) b e = at (test a) refl e (first_some_each test rest b)
  where
    at : (o : Option B) → test a ≡ o → or_else o (first test rest) ≡ Some b →
        (first test rest ≡ Some b → (x : A) × In rest x × (test x ≡ Some b)) → (x : A) × In (a ∷ rest) x × (test x ≡ Some b)
    at (Some c) t e later = (a, inl refl, t ∙ e)
    at None t e later = let r : (x : A) × In rest x × (test x ≡ Some b) = later e in (r.0, inr r.1, r.2)

pub first_same : {A B : Type 0} (test other : A → Option B) (xs : List A) → ((x : A) → In xs x → test x ≡ other x) → first test xs ≡ first other xs
first_same test other [] h = refl
first_same test other (a ∷ rest) h = ap (λ o. or_else o (first test rest)) (h a (inl refl)) ∙ ap (or_else (other a)) (first_same test other rest (λ x i. h x (inr i)))

-- a search along what is left of a list
pub first_left-none : {A B : Type 0} (test : A → Option B) (xs : List A) (i : ℕ) (d : A) → i < length xs → test (get_or xs i d) ≡ None → first test (drop i xs) ≡ first test (drop (i + 1) xs)
first_left-none test xs i d h e = ap (first test) (drop_more xs i d h) ∙ ap (λ o. or_else o (first test (drop (i + 1) xs))) e

pub first_left-some : {A B : Type 0} (test : A → Option B) (xs : List A) (i : ℕ) (d : A) (b : B) → i < length xs → test (get_or xs i d) ≡ Some b → first test (drop i xs) ≡ Some b
first_left-some test xs i d b h e = ap (first test) (drop_more xs i d h) ∙ ap (λ o. or_else o (first test (drop (i + 1) xs))) e

pub first_left-end : {A B : Type 0} (test : A → Option B) (xs : List A) (i : ℕ) → length xs ≤ i → first test (drop i xs) ≡ None
first_left-end test xs i h = ap (first test) (drop_all i xs h)

-- a value of an answer is the answer of the search for values
pub option_map-first : {A B C : Type 0} (f : B → C) (test : A → Option B) (xs : List A) → option_map f (first test xs) ≡ first (λ x. option_map f (test x)) xs
option_map-first f test [] = refl
option_map-first {A} {B} {C} f test (x ∷ xs) = at (test x) (option_map-first f test xs)
  where
    at : (o : Option B) → option_map f (first test xs) ≡ first (λ x. option_map f (test x)) xs → option_map f (or_else o (first test xs)) ≡ or_else (option_map f o) (first (λ x. option_map f (test x)) xs)
    at (Some b) ih = refl
    at None ih = ih

pub option_map-some_if : {A B : Type 0} (f : A → B) (test : Bool) (a : A) → option_map f (some_if test a) ≡ some_if test (f a)
option_map-some_if f true a = refl
option_map-some_if f false a = refl

or_else_assoc : {B : Type 0} (o p q : Option B) → or_else (or_else o p) q ≡ or_else o (or_else p q)
or_else_assoc (Some b) p q = refl
or_else_assoc None p q = refl

pub first-append : {A B : Type 0} (test : A → Option B) (xs ys : List A) → first test (xs ++ ys) ≡ or_else (first test xs) (first test ys)
first-append test [] ys = refl
first-append test (x ∷ xs) ys = ap (or_else (test x)) (first-append test xs ys) ∙ sym (or_else_assoc (test x) (first test xs) (first test ys))

pub first-map : {A B C : Type 0} (test : B → Option C) (f : A → B) (xs : List A) → first test (map f xs) ≡ first (λ x. test (f x)) xs
first-map test f [] = refl
first-map test f (x ∷ xs) = ap (or_else (test (f x))) (first-map test f xs)

-- a search along joined lists is a search for the first list with an answer
pub first-flat_map : {A B C : Type 0} (test : B → Option C) (f : A → List B) (xs : List A) → first test (flat_map f xs) ≡ first (λ x. first test (f x)) xs
first-flat_map test f [] = refl
first-flat_map test f (x ∷ xs) = first-append test (f x) (flat_map f xs) ∙ ap (or_else (first test (f x))) (first-flat_map test f xs)

-- an answer of the first search, or else one of the second where the first has none
pub or_else_cases : {B : Type 0} (o later : Option B) (b : B) → or_else o later ≡ Some b → (o ≡ Some b) ⊎ ((o ≡ None) × (later ≡ Some b))
or_else_cases None later b e = inr (refl, e)
or_else_cases (Some c) later b e = inl e

-- a search among the members that pass a test
pub first-filter : {A B : Type 0} (test : A → Option B) (p : A → Bool) (xs : List A) → first test (filter p xs) ≡ first (λ x. cond (p x) (test x) None) xs
first-filter test p [] = refl
first-filter {A} {B} test p (x ∷ xs) = at (p x) (first-filter test p xs)
  where
    at : (b : Bool) → first test (filter p xs) ≡ first (λ x. cond (p x) (test x) None) xs → first test (cond b (x ∷ filter p xs) (filter p xs)) ≡ or_else (cond b (test x) None) (first (λ x. cond (p x) (test x) None) xs)
    at true ih = ap (or_else (test x)) ih
    at false ih = ih

pub some_if-some : {A : Type 0} (test : Bool) (a b : A) → some_if test a ≡ Some b → (test ≡ true) × (Some a ≡ Some b)
some_if-some true a b e = (refl, e)
some_if-some false a b e = cc
