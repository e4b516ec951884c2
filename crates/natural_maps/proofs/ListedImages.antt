-- Entries that name elements, and the images that they give, one entry more.
use Rattle.std.proofs.Common.{◌≡◌, ℕ, ◌+◌, ◌<◌, ◌≤◌, Bool, true, false, not, ◌&&◌, eqb, ltb, ◌⊎◌, inl, inr, List, ◌∷◌, map, length, get_or, set, drop, replicate, Option, Some, None, refl, sym, ap, ◌∙◌, arith, length-set, get_or-set_same, get_or-set_other}
use Rattle.std.specs.List.{range_with_len}
use Rattle.std.proofs.lemmas.Bool.{eq-eqb, and_from, and_parts, eqb-true, lt-ltb, le-ltb, cases_eq}
use Rattle.std.proofs.lemmas.List.{drop_more, drop_all, get_or-replicate, length-replicate}
use Rattle.std.proofs.lemmas.List.FromFn.{length-map-range_with_len, get_or-map-range_with_len}
use Rattle.finite_lists.specs.First.{or_else, some_if}
use Rattle.topos_model.specs.declared.raw.RawEntry.{RawEntry}
use Rattle.topos_model.specs.declared.fault.Fault.TheVariants.{NoElement}
use Rattle.topos_model.specs.types.Types.{Presheaf}
use Rattle.topos_model.specs.Laws.{size}
use Rattle.topos_model.specs.presheaves.MapFaults.{entry_fault}
use Rattle.natural_maps.specs.Places.{offset}
use Rattle.natural_maps.specs.Images.{image_at, AreImages}
use Rattle.natural_maps.proofs.Offsets.{place_within, same_place}

module _ (P Q : Presheaf) (e : RawEntry) where
  pub left_unknown : size P e.at ≤ e.from → entry_fault P Q e ≡ Some (NoElement e.at e.from)
  unfolding entry_fault
  left_unknown h = ap (λ b. or_else (some_if (not b) (NoElement e.at e.from)) (some_if (not (ltb e.to (size Q e.at))) (NoElement e.at e.to))) (le-ltb _ _ h)

  pub right_unknown : e.from < size P e.at → size Q e.at ≤ e.to → entry_fault P Q e ≡ Some (NoElement e.at e.to)
  unfolding entry_fault
  right_unknown l h =
      ap (λ b. or_else (some_if (not b) (NoElement e.at e.from)) (some_if (not (ltb e.to (size Q e.at))) (NoElement e.at e.to))) (lt-ltb _ _ l)
      ∙ ap (λ b. some_if (not b) (NoElement e.at e.to)) (le-ltb _ _ h)

  pub both_known : e.from < size P e.at → e.to < size Q e.at → entry_fault P Q e ≡ None
  unfolding entry_fault
  both_known l h =
      ap (λ b. or_else (some_if (not b) (NoElement e.at e.from)) (some_if (not (ltb e.to (size Q e.at))) (NoElement e.at e.to))) (lt-ltb _ _ l)
      ∙ ap (λ b. some_if (not b) (NoElement e.at e.to)) (lt-ltb _ _ h)

module _ (sizes : List ℕ) where
  pub offset_at : (offsets : List ℕ) (c : ℕ) → offsets ≡ map (offset sizes) (range_with_len 0 (length sizes + 1)) → c ≤ length sizes → (c < length offsets) × (get_or offsets c 0 ≡ offset sizes c)
  offset_at offsets c are low = (
    omega (arith, ap length are, length-map-range_with_len (offset sizes) 0 (length sizes + 1)),
    ap (λ (l : List ℕ). get_or l c 0) are ∙ get_or-map-range_with_len (offset sizes) 0 (length sizes + 1) c c 0 (omega arith) (omega arith),
  )

  pub no_images_yet : (entries : List RawEntry) (i : ℕ) → length entries ≤ i → AreImages sizes (drop i entries) (replicate (offset sizes (length sizes)) None)
  no_images_yet entries i high = record {
    places = length-replicate (offset sizes (length sizes)) None;
    each = λ c x low within.
        get_or-replicate (offset sizes (length sizes)) (offset sizes c + x) None None (place_within sizes c x low within)
        ∙ sym (ap (λ l. image_at l c x) (drop_all i entries high));
  }

  pub images_more : (entries : List RawEntry) (i j : ℕ) (images : List (Option ℕ)) (d : RawEntry) → i < length entries → i + 1 ≡ j → (get_or entries i d).at < length sizes →
      (get_or entries i d).from < get_or sizes (get_or entries i d).at 0 → AreImages sizes (drop j entries) images →
      AreImages sizes (drop i entries) (set images (offset sizes (get_or entries i d).at + (get_or entries i d).from) (Some (get_or entries i d).to))
  images_more entries i j images d low next at_low from_low was = record {
    places = length-set images _ _ ∙ was.places;
    each = λ c x p q. step c x p q (cases_eq (offset sizes c + x) (offset sizes (get_or entries i d).at + (get_or entries i d).from));
  }
    where
      left : (c x : ℕ) → image_at (drop i entries) c x ≡ or_else (some_if (eqb (get_or entries i d).at c && eqb (get_or entries i d).from x) (get_or entries i d).to) (image_at (drop j entries) c x)
      left c x = ap (λ l. image_at l c x) (drop_more entries i d low ∙ ap (λ k. get_or entries i d ∷ drop k entries) next)

      step : (c x : ℕ) → c < length sizes → x < get_or sizes c 0 →
          (offset sizes c + x ≡ offset sizes (get_or entries i d).at + (get_or entries i d).from) ⊎ (offset sizes c + x ≡ offset sizes (get_or entries i d).at + (get_or entries i d).from → ⊥) →
          get_or (set images (offset sizes (get_or entries i d).at + (get_or entries i d).from) (Some (get_or entries i d).to)) (offset sizes c + x) None ≡ image_at (drop i entries) c x
      step c x p q (inl same) =
          let both = same_place sizes c (get_or entries i d).at x (get_or entries i d).from p at_low q from_low same in
          ap (λ k. get_or (set images (offset sizes (get_or entries i d).at + (get_or entries i d).from) (Some (get_or entries i d).to)) k None) same
          ∙ get_or-set_same images (offset sizes (get_or entries i d).at + (get_or entries i d).from) (Some (get_or entries i d).to) None (omega (arith, was.places, place_within sizes (get_or entries i d).at (get_or entries i d).from at_low from_low))
          ∙ sym (left c x
          ∙ ap (λ b. or_else (some_if b (get_or entries i d).to) (image_at (drop j entries) c x)) (and_from _ _ (eq-eqb _ _ (sym both.0)) (eq-eqb _ _ (sym both.1))))
      step c x p q (inr other) =
          get_or-set_other images (offset sizes (get_or entries i d).at + (get_or entries i d).from) (offset sizes c + x) (Some (get_or entries i d).to) None other ∙ was.each c x p q
          ∙ sym (left c x ∙ ap (λ b. or_else (some_if b (get_or entries i d).to) (image_at (drop j entries) c x)) (apart (eqb (get_or entries i d).at c && eqb (get_or entries i d).from x) refl))
        where
          apart : (b : Bool) → (eqb (get_or entries i d).at c && eqb (get_or entries i d).from x) ≡ b → (eqb (get_or entries i d).at c && eqb (get_or entries i d).from x) ≡ false
          apart false t = t
          apart true t =
              let both = and_parts _ _ t in
              let ec : (get_or entries i d).at ≡ c = eqb-true _ _ both.0 in
              let ex : (get_or entries i d).from ≡ x = eqb-true _ _ both.1 in
              absurd (other (sym (ap (λ a. offset sizes a + (get_or entries i d).from) ec ∙ ap (λ a. offset sizes c + a) ex)))
