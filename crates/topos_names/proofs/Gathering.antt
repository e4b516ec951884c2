-- What is found for each of a list that a loop walks.
use Rattle.std.proofs.Common.{◌≡◌, ℕ, ◌+◌, ◌<◌, ◌≤◌, List, [], ◌∷◌, ◌++◌, map, reverse, take, length, get_or, drop, Some, None, Ok, Err, refl, sym, ap, ◌∙◌, append_assoc}
use Rattle.std.proofs.lemmas.List.{at_drop_more, at_drop_all, map-append, reverse-append}
use Rattle.std.proofs.lemmas.Grind.{take_at_read}
use Rattle.topos_model.specs.declared.ty.Ty.{Ty}
use Rattle.topos_model.specs.declared.fault.Fault.{Fault}
use Rattle.topos_text.specs.Trees.{Binding}
use Rattle.topos_text.specs.Names.{Name, Scope, Checked, ◌>>=◌, for_each, twice_fault}
use Rattle.topos_text.specs.TermNames.{type_of, context_of, variables}

-- what was found before, and then the rest
abbrev pub with_rest : {B : Type 0} → List B → Checked (List B) → Checked (List B)
with_rest found r = r >>= λ bs. Ok (found ++ bs)

no_more : {B : Type 0} (xs : List B) → xs ++ [] ≡ xs
no_more [] = refl
no_more (x ∷ xs) = ap (λ l. x ∷ l) (no_more xs)

nothing_before : {B : Type 0} (r : Checked (List B)) → r ≡ with_rest [] r
nothing_before (Ok bs) = refl
nothing_before (Err f) = refl

one_more : {B : Type 0} (found : List B) (b : B) (r : Checked (List B)) → with_rest found (r >>= λ bs. Ok (b ∷ bs)) ≡ with_rest (found ++ b ∷ []) r
one_more found b (Ok bs) = ap Ok (sym (append_assoc found (b ∷ []) bs))
one_more found b (Err f) = refl

module _ {A B C : Type 0} (find : A → Checked B) (view : C → A) where
  abbrev pub gathered : List B → List C → ℕ → Checked (List B)
  gathered found xs i = with_rest found (for_each find (map view (drop i xs)))

  pub gathered-begins : (xs : List C) → for_each find (map view xs) ≡ gathered [] xs 0
  gathered-begins xs = nothing_before (for_each find (map view xs))

  pub gathered-ends : (found : List B) (xs : List C) (i : ℕ) → length xs ≤ i → gathered found xs i ≡ Ok found
  unfolding for_each
  gathered-ends found xs i high = at_drop_all (λ ys. with_rest found (for_each find (map view ys))) xs i high ∙ ap Ok (no_more found)

  module _ (found : List B) (xs : List C) (i : ℕ) (x : C) (low : i < length xs) where
    pub gathered-goes_on : (b : B) → find (view (get_or xs i x)) ≡ Ok b → gathered found xs i ≡ gathered (found ++ b ∷ []) xs (i + 1)
    unfolding for_each
    gathered-goes_on b step = at_drop_more (λ ys. with_rest found (for_each find (map view ys))) xs i x low ∙ rw step (one_more found b (for_each find (map view (drop (i + 1) xs))))

    pub gathered-stops : (fault : Fault) → find (view (get_or xs i x)) ≡ Err fault → gathered found xs i ≡ Err fault
    unfolding for_each
    gathered-stops fault step = at_drop_more (λ ys. with_rest found (for_each find (map view ys))) xs i x low ∙ rw step

-- the types of a context
module _ {C : Type 0} (s : Scope) (view : C → Binding) where
  abbrev pub typed : List Ty → List Name → List C → ℕ → Checked (List Ty)
  typed found names xs i = with_rest found (context_of s names (map view (drop i xs)))

  pub typed-begins : (xs : List C) → context_of s [] (map view xs) ≡ typed [] [] xs 0
  typed-begins xs = nothing_before (context_of s [] (map view xs))

  pub typed-ends : (found : List Ty) (names : List Name) (xs : List C) (i : ℕ) → length xs ≤ i → typed found names xs i ≡ Ok found
  unfolding context_of
  typed-ends found names xs i high = at_drop_all (λ ys. with_rest found (context_of s names (map view ys))) xs i high ∙ ap Ok (no_more found)

  module _ (found : List Ty) (names : List Name) (xs : List C) (i : ℕ) (x : C) (low : i < length xs) (is : x ≡ get_or xs i x) where
    first : typed found names xs i ≡ with_rest found (context_of s names (view x ∷ map view (drop (i + 1) xs)))
    first = at_drop_more (λ ys. with_rest found (context_of s names (map view ys))) xs i x low ∙ ap (λ y. with_rest found (context_of s names (view y ∷ map view (drop (i + 1) xs)))) (sym is)

    pub typed-goes_on : (T : Ty) → twice_fault names (view x).variable ≡ None → type_of s (view x).type ≡ Ok T → typed found names xs i ≡ typed (found ++ T ∷ []) ((view x).variable.text ∷ names) xs (i + 1)
    unfolding context_of
    typed-goes_on T new step = first ∙ rw (new, step) (one_more found T (context_of s ((view x).variable.text ∷ names) (map view (drop (i + 1) xs))))

    pub typed-twice : (fault : Fault) → twice_fault names (view x).variable ≡ Some fault → typed found names xs i ≡ Err fault
    unfolding context_of
    typed-twice fault there = first ∙ rw there

    pub typed-stops : (fault : Fault) → twice_fault names (view x).variable ≡ None → type_of s (view x).type ≡ Err fault → typed found names xs i ≡ Err fault
    unfolding context_of
    typed-stops fault new step = first ∙ rw (new, step)

-- the variables of one more binding
pub variables_more : {C : Type 0} (view : C → Binding) (xs : List C) (i : ℕ) (x : C) → i < length xs → x ≡ get_or xs i x → variables (map view (take (i + 1) xs)) ≡ (view x).variable.text ∷ variables (map view (take i xs))
variables_more view xs i x low is =
    let more : take (i + 1) xs ≡ take i xs ++ x ∷ [] = (take_at_read xs i x low).1 ∙ ap (λ y. take i xs ++ y ∷ []) (sym is) in
    ap (λ l. variables (map view l)) more ∙ ap (λ l. reverse (map (λ b. b.variable.text) l)) (map-append view (take i xs) (x ∷ [])) ∙ ap reverse (map-append (λ b. b.variable.text) (map view (take i xs)) (view x ∷ [])) ∙ reverse-append (map (λ b. b.variable.text) (map view (take i xs))) ((view x).variable.text ∷ [])
