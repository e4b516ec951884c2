-- First answers along mapped and joined lists, and of the one member that answers.
use Rattle.std.proofs.Common.{◌≡◌, Bool, true, false, ◌⊎◌, inl, inr, List, [], ◌∷◌, ◌++◌, map, Option, Some, None, refl, sym, ap, ◌∙◌}
use Rattle.std.specs.List.{flat_map}
use Rattle.std.specs.Option.{option_map}
use Rattle.finite_lists.specs.Members.{In}
use Rattle.finite_lists.specs.First.{first, or_else, some_if}
use Rattle.finite_lists.proofs.FirstAnswers.{first_none}

pub first-append : {A B : Type 0} (t : A → Option B) (xs ys : List A) → first t (xs ++ ys) ≡ or_else (first t xs) (first t ys)
first-append t [] ys = refl
first-append {A} {B} t (x ∷ xs) ys = at (t x) (first-append t xs ys)
  where
    at : (o : Option B) → first t (xs ++ ys) ≡ or_else (first t xs) (first t ys) → or_else o (first t (xs ++ ys)) ≡ or_else (or_else o (first t xs)) (first t ys)
    at (Some b) e = refl
    at None e = e

pub first-flat_map : {A B C : Type 0} (t : B → Option C) (F : A → List B) (xs : List A) → first t (flat_map F xs) ≡ first (λ x. first t (F x)) xs
first-flat_map t F [] = refl
first-flat_map t F (x ∷ xs) = first-append t (F x) (flat_map F xs) ∙ ap (or_else (first t (F x))) (first-flat_map t F xs)

pub first-map : {A B C : Type 0} (t : B → Option C) (g : A → B) (xs : List A) → first t (map g xs) ≡ first (λ x. t (g x)) xs
first-map t g [] = refl
first-map t g (x ∷ xs) = ap (or_else (t (g x))) (first-map t g xs)

pub option_map-first : {A B C : Type 0} (g : B → C) (t : A → Option B) (xs : List A) → option_map g (first t xs) ≡ first (λ x. option_map g (t x)) xs
option_map-first g t [] = refl
option_map-first {A} {B} {C} g t (x ∷ xs) = at (t x) (option_map-first g t xs)
  where
    at : (o : Option B) → option_map g (first t xs) ≡ first (λ x. option_map g (t x)) xs → option_map g (or_else o (first t xs)) ≡ or_else (option_map g o) (first (λ x. option_map g (t x)) xs)
    at (Some b) e = refl
    at None e = e

pub option_map-some_if : {A B : Type 0} (g : A → B) (b : Bool) (x : A) → option_map g (some_if b x) ≡ some_if b (g x)
option_map-some_if g true x = refl
option_map-some_if g false x = refl

-- where all other members give no answer, the answer is that of the one
pub first-one : {A B : Type 0} (t : A → Option B) (xs : List A) (x : A) → In xs x → ((y : A) → (y ≡ x) ⊎ (t y ≡ None)) → first t xs ≡ t x
first-one {A} {B} t xs x i others = at (t x) refl
  where
    here : (b : B) → t x ≡ Some b → (ys : List A) → In ys x → first t ys ≡ Some b
    here b e [] i = absurd i
    here b e (y ∷ ys) i = each (t y) refl (others y) i (here b e ys)
      where
        each : (o : Option B) → t y ≡ o → (y ≡ x) ⊎ (t y ≡ None) → In (y ∷ ys) x → (In ys x → first t ys ≡ Some b) → or_else o (first t ys) ≡ Some b
        each (Some c) e' (inl s) i ih = sym e' ∙ ap t s ∙ e
        each (Some c) e' (inr n) i ih = absurd (cc)
        each None e' s (inl q) ih = let f : t y ≡ t x = ap t q in absurd (cc)
        each None e' s (inr j) ih = ih j

    at : (o : Option B) → t x ≡ o → first t xs ≡ t x
    at (Some b) e = here b e xs i ∙ sym e
    at None e = first_none t xs (λ y j. elim (others y) [ inl s ↦ ap t s ∙ e | inr n ↦ n ]) ∙ sym e
