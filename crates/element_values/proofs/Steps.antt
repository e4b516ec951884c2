-- One place more.
use Rattle.std.proofs.Common.{◌≡◌, ℕ, ◌+◌, ◌<◌, ◌≤◌, false, eqb, List, [], ◌∷◌, ◌++◌, length, get_or, map, drop, take, sym, ap, ◌∙◌}
use Rattle.std.proofs.Math.ListN.{drop_of_length-le}
use Rattle.std.proofs.lemmas.Bool.{cond-false}
use Rattle.std.proofs.lemmas.List.{append-nil, append_assoc, drop_more, take_more, map-append}
use Rattle.element_values.specs.declared.places.Place.{Place}
use Rattle.element_values.specs.declared.places.Image.{Image}
use Rattle.element_values.specs.Places.{marked, imaged}
use Rattle.element_values.proofs.PlaceLists.{no_place, image_of}

module _ (ps : List Place) (row : List ℕ) (i : ℕ) (low : i < length ps) (low' : i < length row) where
  marked_here : marked (drop i ps) (drop i row) ≡ marked (get_or ps i no_place ∷ drop (i + 1) ps) (get_or row i 0 ∷ drop (i + 1) row)
  marked_here = ap (λ q. marked q (drop i row)) (drop_more ps i no_place low) ∙ ap (marked (get_or ps i no_place ∷ drop (i + 1) ps)) (drop_more row i 0 low')

  pub marked_on : (kept : List Place) → get_or row i 0 ≡ 1 → (kept ++ get_or ps i no_place ∷ []) ++ marked (drop (i + 1) ps) (drop (i + 1) row) ≡ kept ++ marked (drop i ps) (drop i row)
  unfolding marked
  marked_on kept on =
      append_assoc kept (get_or ps i no_place ∷ []) (marked (drop (i + 1) ps) (drop (i + 1) row))
      ∙ ap (λ l. kept ++ l) (sym (marked_here ∙ ap (λ n. marked (get_or ps i no_place ∷ drop (i + 1) ps) (n ∷ drop (i + 1) row)) on))

  pub marked_off : (kept : List Place) → eqb (get_or row i 0) 1 ≡ false → kept ++ marked (drop (i + 1) ps) (drop (i + 1) row) ≡ kept ++ marked (drop i ps) (drop i row)
  unfolding marked
  marked_off kept off = ap (λ l. kept ++ l) (sym (marked_here ∙ cond-false (eqb (get_or row i 0) 1) (get_or ps i no_place ∷ marked (drop (i + 1) ps) (drop (i + 1) row)) (marked (drop (i + 1) ps) (drop (i + 1) row)) off))

  pub imaged_more : (images : List Image) → (images ++ image_of (get_or ps i no_place) (get_or row i 0) ∷ []) ++ imaged (drop (i + 1) ps) (drop (i + 1) row) ≡ images ++ imaged (drop i ps) (drop i row)
  unfolding imaged
  imaged_more images =
      append_assoc images (image_of (get_or ps i no_place) (get_or row i 0) ∷ []) (imaged (drop (i + 1) ps) (drop (i + 1) row))
      ∙ ap (λ l. images ++ l) (sym (ap (λ q. imaged q (drop i row)) (drop_more ps i no_place low) ∙ ap (imaged (get_or ps i no_place ∷ drop (i + 1) ps)) (drop_more row i 0 low')))

-- nothing is left
pub marked_end : (kept ps : List Place) (row : List ℕ) (i : ℕ) → length ps ≤ i → kept ++ marked (drop i ps) (drop i row) ≡ kept
unfolding marked
marked_end kept ps row i high = ap (λ q. kept ++ marked q (drop i row)) (drop_of_length-le ps high) ∙ append-nil kept

pub imaged_end : (images : List Image) (ps : List Place) (row : List ℕ) (i : ℕ) → length ps ≤ i → images ++ imaged (drop i ps) (drop i row) ≡ images
unfolding imaged
imaged_end images ps row i high = ap (λ q. images ++ imaged q (drop i row)) (drop_of_length-le ps high) ∙ append-nil images

-- a value for one more
pub mapped_more : {A B : Type 0} (f : A → B) (xs : List A) (i : ℕ) (d : A) (y : B) (ys : List B) → i < length xs → ys ≡ map f (take i xs) → y ≡ f (get_or xs i d) → ys ++ y ∷ [] ≡ map f (take (i + 1) xs)
mapped_more f xs i d y ys low e h =
    ap (λ l. l ++ y ∷ []) e ∙ ap (λ z. map f (take i xs) ++ z ∷ []) h ∙ sym (ap (map f) (take_more xs i d low) ∙ map-append f (take i xs) (get_or xs i d ∷ []))
