-- The tables of a filled category.
use Rattle.std.proofs.Common.{◌≡◌, ℕ, ◌*◌, ◌≤◌, List, length, None, sym, ap, subst, ◌∙◌}
use Rattle.topos_model.specs.declared.raw.RawCat.{RawCat}
use Rattle.topos_model.specs.categories.Listed.{all_ends}
use Rattle.topos_model.specs.statements.Form.{max_objects, max_arrows}
use Rattle.topos_model.specs.categories.Filling.{filled_category, filled_composite}
use Rattle.topos_model.specs.categories.CategoryFaults.{listing_fault, missing_composite_fault, IsCategoryListing}
use Rattle.fin_category.specs.declared.listing.Listing.{Listing}
use Rattle.fin_category.specs.Listings.{IsListing}
use Rattle.fin_category.specs.Filling.{HoldsComposites}
use Rattle.fin_category.specs.Tables.{tabulated, entry, category_of, ending_at_each, IsClosed, AreTables}
use Rattle.fin_category.proofs.Tabulated.{tabulated_same}
use Rattle.fin_category.proofs.FilledCategories.{filled_is, closed_filled}

module _ (raw : RawCat) (listing : Listing) (square : List ℕ) (known : IsListing raw listing) (held : HoldsComposites raw square) where
  pub category_of_filled : category_of raw.objects listing.ends square ≡ filled_category raw
  unfolding category_of
  category_of_filled =
      ap (λ (ends : List (ℕ × ℕ)). tabulated raw.objects ends (entry square (length ends))) known.ends
      ∙ tabulated_same raw.objects (all_ends raw) (entry square (length (all_ends raw))) (filled_composite raw) (λ g f p q m. held.rows g p f q m)
      ∙ sym (filled_is raw)

  pub tables_filled : raw.objects ≤ max_objects → length (all_ends raw) ≤ max_arrows → IsCategoryListing raw → listing_fault raw ≡ None → missing_composite_fault raw ≡ None →
      AreTables raw.objects listing.ends square listing.rows
  tables_filled few_objects few_arrows ok faultless complete = record {
    few_objects = few_objects;
    few_arrows = subst (λ (ends : List (ℕ × ℕ)). length ends ≤ max_arrows) (sym known.ends) few_arrows;
    places = subst (λ (ends : List (ℕ × ℕ)). length square ≡ length ends * length ends) (sym known.ends) held.places;
    closed = subst IsClosed (sym (category_of_filled ∙ filled_is raw)) (closed_filled raw faultless ok complete);
    rows_into = known.rows ∙ ap (λ (ends : List (ℕ × ℕ)). ending_at_each ends raw.objects) (sym known.ends);
  }
