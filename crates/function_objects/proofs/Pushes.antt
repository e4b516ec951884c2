-- Lists that grow by one item, or by the items of a list.
use Rattle.std.proofs.Common.{◌≡◌, ℕ, zero, suc, ◌+◌, ◌*◌, ◌<◌, ◌≤◌, Bool, true, false, cond, List, [], ◌∷◌, ◌++◌, length, get_or, map, filter, take, flat_map, refl, sym, ap, ◌∙◌, arith, inl, inr}
use Rattle.std.proofs.lemmas.List.{take_more, map-append, append-nil, append_assoc}
use Rattle.std.proofs.lemmas.List.Elements.{filter-append}
use Rattle.std.proofs.lemmas.Grind.{flat_map-append}
use Rattle.natural_search.specs.declared.squares.Square.{Square}
use Rattle.place_closures.proofs.PairNumbers.{total}

module _ {A : Type 0} (h : ℕ → A) (p : ℕ → Bool) (xs : List ℕ) (front ys : List A) (i : ℕ) (low : i < length xs) (before : ys ≡ front ++ map h (filter p (take i xs))) where
  kept : (b : Bool) → p (get_or xs i 0) ≡ b → front ++ map h (filter p (take (i + 1) xs)) ≡ ys ++ map h (cond b (get_or xs i 0 ∷ []) [])
  kept b e =
      ap (λ l. front ++ map h (filter p l)) (take_more xs i 0 low) ∙ ap (λ l. front ++ map h l) (filter-append p (take i xs) (get_or xs i 0 ∷ []) ∙ ap (λ c. filter p (take i xs) ++ cond c (get_or xs i 0 ∷ []) []) e)
      ∙ ap (λ l. front ++ l) (map-append h (filter p (take i xs)) (cond b (get_or xs i 0 ∷ []) []))
      ∙ sym (append_assoc front (map h (filter p (take i xs))) (map h (cond b (get_or xs i 0 ∷ []) []))) ∙ ap (λ l. l ++ map h (cond b (get_or xs i 0 ∷ []) [])) (sym before)

  pub kept_more : p (get_or xs i 0) ≡ true → ys ++ h (get_or xs i 0) ∷ [] ≡ front ++ map h (filter p (take (i + 1) xs))
  kept_more e = sym (kept true e)

  pub passed_more : p (get_or xs i 0) ≡ false → ys ≡ front ++ map h (filter p (take (i + 1) xs))
  passed_more e = sym (kept false e ∙ append-nil ys)

abbrev square : ℕ → ℕ → ℕ → Square
square g e r = record { arrow = g; element = e; restricted = r }

pub square_same : (g e e' r r' : ℕ) → e ≡ e' → r ≡ r' → square g e r ≡ square g e' r'
square_same g e e' r r' p q = ap (λ n. square g n r) p ∙ ap (square g e') q

pub front_more : {A : Type 0} (h : ℕ → List A) (xs : List ℕ) (front ys : List A) (i : ℕ) → i < length xs → ys ≡ front ++ flat_map h (take i xs) → ys ++ h (get_or xs i 0) ≡ front ++ flat_map h (take (i + 1) xs)
front_more h xs front ys i low e =
    ap (λ l. l ++ h (get_or xs i 0)) e ∙ append_assoc front (flat_map h (take i xs)) (h (get_or xs i 0))
    ∙ ap (λ l. front ++ l)
    (sym (ap (flat_map h) (take_more xs i 0 low) ∙ flat_map-append h (take i xs) (get_or xs i 0 ∷ []) ∙ ap (λ l. flat_map h (take i xs) ++ l) (append-nil (h (get_or xs i 0)))))
