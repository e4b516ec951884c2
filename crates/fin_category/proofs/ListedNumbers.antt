-- The test of listed data, part by part, and what it says.
use Rattle.std.proofs.Common.{◌≡◌, ℕ, ◌+◌, ◌<◌, ◌≤◌, Bool, true, false, ◌&&◌, length, ltb, leb, refl, sym}
use Rattle.std.specs.List.{list_all}
use Rattle.std.proofs.lemmas.Bool.{and_parts, and_from, and_left, and_right, leb-true, ltb-true, le-leb, lt-ltb}
use Rattle.finite_lists.proofs.Lists.{all_each, each_all}
use Rattle.topos_model.specs.declared.raw.RawCat.{RawCat}
use Rattle.topos_model.specs.categories.Listed.{all_ends}
use Rattle.topos_model.specs.categories.CategoryFaults.{IsDeclared, IsCategoryListing}
use Rattle.topos_model.specs.statements.Form.{is_listed_composite, is_category_listing, max_objects, max_arrows}
use Rattle.fin_category.proofs.AllEnds.{length-all_ends}

module _ (raw : RawCat) where
  abbrev few : Bool
  few = leb raw.objects max_objects && leb (raw.objects + length raw.ends) max_arrows

  abbrev ended : Bool
  ended = list_all (λ e. ltb e.0 raw.objects && ltb e.1 raw.objects) raw.ends

  abbrev composed : ℕ × ℕ × ℕ → Bool
  composed = is_listed_composite raw.objects (length (all_ends raw))

  pub many_fail : few ≡ false → false ≡ is_category_listing raw
  unfolding is_category_listing
  many_fail e = sym (and_left _ _ (and_left few ended e))

  pub ends_fail : ended ≡ false → false ≡ is_category_listing raw
  unfolding is_category_listing
  ends_fail e = sym (and_left _ _ (and_right few ended e))

  pub composites_decide : few ≡ true → ended ≡ true → list_all (is_listed_composite raw.objects (raw.objects + length raw.ends)) raw.listed ≡ is_category_listing raw
  unfolding is_category_listing
  composites_decide f e = rw (f, e, length-all_ends raw) refl

  is_composite : (e : ℕ × ℕ × ℕ) → composed e ≡ true → IsDeclared raw e.0 × IsDeclared raw e.1 × (e.2 < length (all_ends raw))
  is_composite e h =
      let (first, composite) = and_parts _ _ h in
      let (first_high, first_low) = and_parts _ _ first in
      let (second, first_from) = and_parts _ _ first_high in
      let (second_from, second_low) = and_parts _ _ second in
      ((leb-true _ _ second_from, ltb-true _ _ second_low), (leb-true _ _ first_from, ltb-true _ _ first_low), ltb-true _ _ composite)

  composite_is : (e : ℕ × ℕ × ℕ) → IsDeclared raw e.0 × IsDeclared raw e.1 × (e.2 < length (all_ends raw)) → composed e ≡ true
  composite_is e h =
      let ((a, b), (c, d), l) = h in
      and_from _ _ (and_from _ _ (and_from _ _ (and_from _ _ (le-leb raw.objects e.0 a) (lt-ltb e.0 (length (all_ends raw)) b)) (le-leb raw.objects e.1 c)) (lt-ltb e.1 (length (all_ends raw)) d)) (lt-ltb e.2 (length (all_ends raw)) l)

  pub within_if : is_category_listing raw ≡ true → (raw.objects ≤ max_objects) × (raw.objects + length raw.ends ≤ max_arrows) × IsCategoryListing raw
  unfolding is_category_listing
  within_if h =
      let (most, listed) = and_parts _ _ h in
      let (count, ends) = and_parts _ _ most in
      let (objects, arrows) = and_parts _ _ count in (
        leb-true _ _ objects,
        leb-true _ _ arrows,
        record {
          ends = λ e i. let (x, y) = and_parts _ _ (all_each _ raw.ends e ends i) in (ltb-true _ _ x, ltb-true _ _ y);
          listed = λ e i. is_composite e (all_each _ raw.listed e listed i);
        },
      )

  pub if_within : (raw.objects ≤ max_objects) × (raw.objects + length raw.ends ≤ max_arrows) × IsCategoryListing raw → is_category_listing raw ≡ true
  unfolding is_category_listing
  if_within h =
      let (objects, arrows, within) = h in
      and_from _ _
      (and_from _ _ (and_from _ _ (le-leb raw.objects max_objects objects) (le-leb (raw.objects + length raw.ends) max_arrows arrows))
      (each_all (λ e. ltb e.0 raw.objects && ltb e.1 raw.objects) raw.ends (λ e i. let (x, y) = within.ends e i in and_from _ _ (lt-ltb e.0 raw.objects x) (lt-ltb e.1 raw.objects y))))
      (each_all composed raw.listed (λ e i. composite_is e (within.listed e i)))
