-- What is known of a listed category before its composites are filled.
use Rattle.std.specs.Prelude.{◌≡◌, ℕ, ◌&&◌, eqb, List, Option}
use Rattle.indexmap.specs.IndexMap.{IndexMap, get}
use Rattle.finite_lists.specs.First.{first, some_if}
use Rattle.topos_model.specs.declared.raw.RawCat.{RawCat}
use Rattle.topos_model.specs.categories.Listed.{all_ends}
use Rattle.fin_category.specs.declared.listing.Listing.{Listing}
use Rattle.fin_category.specs.Tables.{ending_at_each}

-- the composite that is listed for (g, f)
abbrev pub listed_at : List (ℕ × ℕ × ℕ) → ℕ → ℕ → Option ℕ
listed_at listed g f = first (λ e. some_if (eqb e.0 g && eqb e.1 f) e.2) listed

-- a map that has the listed composites by their pairs
abbrev pub HoldsComposites : {S : Type 0} → IndexMap (ℕ × ℕ) ℕ S → List (ℕ × ℕ × ℕ) → Type 0
HoldsComposites composites listed = (g f : ℕ) → get (λ p q. eqb p.0 q.0 && eqb p.1 q.1) composites (g, f) ≡ listed_at listed g f

pub record IsListing (raw : RawCat) (listing : Listing) : Type 0 where
  pub ends : listing.ends ≡ all_ends raw
  pub rows : listing.rows ≡ ending_at_each (all_ends raw) raw.objects
  pub composites : HoldsComposites listing.composites raw.listed
