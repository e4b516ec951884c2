-- Choices of one member of each list.
use Rattle.std.proofs.Common.{◌≡◌, ℕ, zero, suc, ◌<◌, inl, inr, List, [], ◌∷◌, map, length, get_or, refl, sym, ap, subst, arith}
use Rattle.finite_lists.specs.Members.{In}
use Rattle.finite_lists.specs.Rising.{Rising, LexicographicBelow}
use Rattle.finite_lists.proofs.Lists.{In-map, In-map_from, In-flat_map, In-flat_map_from}
use Rattle.finite_lists.proofs.RisingLists.{Rising-map, Rising-flat_map}
use Rattle.topos_model.specs.presheaves.NaturalMaps.{choices}

-- a choice has one member of each list
pub record IsChoice {A : Type 0} (xss : List (List A)) (ys : List A) : Type 0 where
  pub places : length ys ≡ length xss
  pub each : (i : ℕ) (d : A) → i < length xss → In (get_or xss i []) (get_or ys i d)

pub In-choices_from : {A : Type 0} (xss : List (List A)) (ys : List A) → In (choices xss) ys → IsChoice xss ys
unfolding choices
In-choices_from [] ys (inl e) = record { places = ap length (sym e); each = λ i d low. absurd (omega arith) }
In-choices_from [] ys (inr i) = absurd i
In-choices_from {A} (xs ∷ rest) ys i =
    let x = In-flat_map_from (λ x. map (λ ys. x ∷ ys) (choices rest)) xs ys i in
    let zs = In-map_from (λ ys. x.0 ∷ ys) (choices rest) ys x.2 in
    subst (IsChoice (xs ∷ rest)) zs.2 (more x.0 zs.0 x.1 (In-choices_from rest zs.0 zs.1))
  where
    more : (x : A) (zs : List A) → In xs x → IsChoice rest zs → IsChoice (xs ∷ rest) (x ∷ zs)
    more x zs i is = record { places = ap suc is.places; each = at }
      where
        at : (j : ℕ) (d : A) → j < length (xs ∷ rest) → In (get_or (xs ∷ rest) j []) (get_or (x ∷ zs) j d)
        at zero d low = i
        at (suc j) d low = is.each j d (omega arith)

pub In-choices : {A : Type 0} (xss : List (List A)) (ys : List A) → IsChoice xss ys → In (choices xss) ys
unfolding choices
In-choices [] [] is = inl refl
In-choices [] (y ∷ ys) is = absurd (omega (arith, is.places))
In-choices (xs ∷ rest) [] is = absurd (omega (arith, is.places))
In-choices {A} (xs ∷ rest) (y ∷ ys) is =
    In-flat_map (λ x. map (λ ys. x ∷ ys) (choices rest)) xs y (y ∷ ys) (is.each 0 y (omega arith))
    (In-map (λ ys. y ∷ ys) (choices rest) ys (In-choices rest ys (record {
      places = omega (arith, is.places);
      each = λ i d low. is.each (suc i) d (omega arith);
    })))

pub Rising-choices : {A : Type 0} (below : A → A → Type 0) (xss : List (List A)) → ((xs : List A) → In xss xs → Rising below xs) → Rising (LexicographicBelow below) (choices xss)
unfolding choices
Rising-choices below [] h = (λ y i. absurd i, tt)
Rising-choices {A} below (xs ∷ rest) h =
    Rising-flat_map below (LexicographicBelow below) (λ x. map (λ ys. x ∷ ys) (choices rest)) xs (h xs (inl refl))
    (λ x i. Rising-map (LexicographicBelow below) (LexicographicBelow below) (λ ys. x ∷ ys) (choices rest) (λ s t p q b. inr (refl, b)) (Rising-choices below rest (λ zs j. h zs (inr j))))
    (λ x z s t p q b u v.
    let one = In-map_from (λ ys. x ∷ ys) (choices rest) s u in
    let other = In-map_from (λ ys. z ∷ ys) (choices rest) t v in
    subst (λ l. LexicographicBelow below l t) one.2 (subst (λ l. LexicographicBelow below (x ∷ one.0) l) other.2 (inl b)))
