-- The bound at the place of an element.
use Rattle.std.proofs.Common.{◌≡◌, ℕ, zero, suc, ◌+◌, ◌<◌, List, [], ◌∷◌, ◌++◌, length, get_or, map, flat_map, replicate, refl, sym, ap, subst, ◌∙◌, arith}
use Rattle.std.specs.List.{range_with_len}
use Rattle.std.proofs.lemmas.List.FromFn.{length-range_with_len, get_or-range_with_len}
use Rattle.topos_model.specs.categories.Category.{Category}
use Rattle.topos_model.specs.types.Types.{Presheaf}
use Rattle.topos_model.specs.Laws.{size}
use Rattle.natural_maps.specs.Places.{offset}
use Rattle.natural_maps.specs.Search.{bounds_of}
use Rattle.natural_maps.proofs.FlatSquares.{place_of}

replicated_left : (n b : ℕ) (l : List ℕ) (x : ℕ) → x < n → get_or (replicate n b ++ l) x 0 ≡ b
replicated_left zero b l x low = absurd (omega arith)
replicated_left (suc n) b l zero low = refl
replicated_left (suc n) b l (suc x) low = replicated_left n b l x (omega arith)

replicated_right : (n b : ℕ) (l : List ℕ) (x : ℕ) → get_or (replicate n b ++ l) (n + x) 0 ≡ get_or l x 0
replicated_right zero b l x = let e : 0 + x ≡ x = omega arith in ap (λ m. get_or l m 0) e
replicated_right (suc n) b l x = let e : suc n + x ≡ suc (n + x) = omega arith in ap (λ m. get_or (b ∷ replicate n b ++ l) m 0) e ∙ replicated_right n b l x

module _ (P Q : Presheaf) where
  bound_among : (cs : List ℕ) (i x : ℕ) → i < length cs → x < size P (get_or cs i 0) →
      get_or (flat_map (λ c. replicate (size P c) (size Q c)) cs) (offset (map (size P) cs) i + x) 0 ≡ size Q (get_or cs i 0)
  bound_among [] i x low within = absurd (omega arith)
  bound_among (c ∷ cs) zero x low within =
      (let e : 0 + x ≡ x = omega arith in ap (λ m. get_or (replicate (size P c) (size Q c) ++ flat_map (λ c. replicate (size P c) (size Q c)) cs) m 0) e)
      ∙ replicated_left (size P c) (size Q c) (flat_map (λ c. replicate (size P c) (size Q c)) cs) x within
  bound_among (c ∷ cs) (suc i) x low within =
      (let e : size P c + offset (map (size P) cs) i + x ≡ size P c + (offset (map (size P) cs) i + x) = omega arith in
      ap (λ m. get_or (replicate (size P c) (size Q c) ++ flat_map (λ c. replicate (size P c) (size Q c)) cs) m 0) e)
      ∙ replicated_right (size P c) (size Q c) (flat_map (λ c. replicate (size P c) (size Q c)) cs) (offset (map (size P) cs) i + x) ∙ bound_among cs i x (omega arith) within

module _ (k : Category) (P Q : Presheaf) where
  pub bound_at : (c x : ℕ) → c < k.objects → x < size P c → get_or (bounds_of k P Q) (place_of k P Q c x) 0 ≡ size Q c
  bound_at c x low within =
      let at : get_or (range_with_len 0 k.objects) c 0 ≡ c = get_or-range_with_len 0 k.objects c 0 low ∙ omega arith in
      bound_among P Q (range_with_len 0 k.objects) c x (omega (arith, low, length-range_with_len 0 k.objects)) (subst (λ d. x < size P d) (sym at) within) ∙ ap (size Q) at
