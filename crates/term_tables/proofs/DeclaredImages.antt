-- The images of a map whose pairs are listed in the order of the elements.
use Rattle.std.proofs.Common.{◌≡◌, ℕ, zero, suc, ◌<◌, true, false, List, [], ◌∷◌, length, get_or, map, refl, sym, ap, subst, ◌∙◌, arith}
use Rattle.std.proofs.lemmas.Bool.{cond-true, cond-false}
use Rattle.std.proofs.lemmas.List.{length-map}
use Rattle.finite_lists.specs.Members.{In, Distinct}
use Rattle.topos_model.specs.declared.ty.Ty.{Ty}
use Rattle.topos_model.specs.declared.value.Val.{Val, Star}
use Rattle.topos_model.specs.types.Values.{same}
use Rattle.topos_model.specs.formulas.Forcing.{World, values, image_of}
use Rattle.functor_store.specs.Faithful.{Stands}
use Rattle.type_laws.proofs.Numbering.{get_In}
use Rattle.type_laws.proofs.Presheaves.{Distinct-elements}
use Rattle.type_laws.proofs.Same.{same_equal, same_self}
use Rattle.truth_tables.specs.Tables.{number}
use Rattle.term_tables.specs.Parts.{AreImages}

-- the image of the k-th element is the k-th image
image_at : (pairs : List (Val × Val)) (k : ℕ) → Distinct (map (λ p. p.0) pairs) → k < length pairs → image_of (get_or (map (λ p. p.0) pairs) k Star) pairs ≡ (get_or pairs k (Star, Star)).1
unfolding image_of
image_at [] k d low = absurd (omega (arith, low))
image_at (p ∷ pairs) zero d low = cond-true (same p.0 p.0) p.1 (image_of p.0 pairs) (same_self p.0)
image_at (p ∷ pairs) (suc k) d low =
    let v = get_or (map (λ p. p.0) pairs) k Star in
    let inside : k < length (map (λ p. p.0) pairs) = omega (arith, low, length-map pairs (λ p. p.0)) in
    cond-false (same p.0 v) p.1 (image_of v pairs) (differ (same p.0 v) refl (λ e. d.0 (subst (In (map (λ p. p.0) pairs)) (sym e) (get_In (map (λ p. p.0) pairs) k Star inside))))
    ∙ image_at pairs k d.1 (omega (arith, low))
  where
    differ : (b : _) → same p.0 (get_or (map (λ p. p.0) pairs) k Star) ≡ b → (p.0 ≡ get_or (map (λ p. p.0) pairs) k Star → ⊥) → b ≡ false
    differ true e apart = absurd (apart (same_equal _ _ e))
    differ false e apart = refl

module _ (w : World) (m : ℕ) (S T : Ty) (images : List (List ℕ)) where
  -- the pairs of the map at an object
  abbrev pub pairs_at : ℕ → List (Val × Val)
  pairs_at c = get_or (get_or w.maps m []) c []

  pub images_of_pairs : length images ≡ w.site.category.objects → ((c : ℕ) → c < w.site.category.objects → map (λ p. p.0) (pairs_at c) ≡ values w S c) →
      ((c : ℕ) → c < w.site.category.objects → length (get_or images c []) ≡ length (pairs_at c)) →
      ((c k : ℕ) → c < w.site.category.objects → k < length (pairs_at c) → Stands w.site w.functors T c (number images c k) (get_or (pairs_at c) k (Star, Star)).1) → AreImages w m S T images
  images_of_pairs objects elements long stand =
      let count : (c : ℕ) → c < w.site.category.objects → length (pairs_at c) ≡ length (values w S c) = λ c low. sym (length-map (pairs_at c) (λ p. p.0)) ∙ ap length (elements c low) in
      record {
        objects = objects;
        elements = λ c low. long c low ∙ count c low;
        stand = λ c k low inside.
            let k' : k < length (pairs_at c) = omega (arith, inside, count c low) in
            let distinct = subst (λ l. Distinct l) (sym (elements c low)) (Distinct-elements w.site w.functors S c) in
            subst (Stands w.site w.functors T c (number images c k))
            (sym (ap (λ l. image_of (get_or l k Star) (pairs_at c)) (sym (elements c low)) ∙ image_at (pairs_at c) k distinct k')) (stand c k low k');
      }
