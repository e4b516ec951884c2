-- Covers are sieves, and a closed sieve by facts.
use Rattle.std.proofs.Common.{◌≡◌, ℕ, Bool, true, false, ◌||◌, not, List, refl, ap}
use Rattle.finite_lists.specs.Members.{In}
use Rattle.topos_model.specs.categories.Category.{sieves}
use Rattle.topos_model.specs.topologies.Cover.{Site, covers, is_cover}
use Rattle.topos_model.specs.Laws.{IsInto}
use Rattle.finite_lists.proofs.Lists.{In-filter_from}
use Rattle.type_laws.proofs.Arrows.{In_sieves, sieve_arrow}

-- a or not b, as an implication
pub or_not : (a b : Bool) → (a || not b) ≡ true → b ≡ true → a ≡ true
or_not true b h j = refl
or_not false b h j = cc (ap not j)

pub or_not_from : (a b : Bool) → (b ≡ true → a ≡ true) → (a || not b) ≡ true
or_not_from true b h = refl
or_not_from false true h = h refl
or_not_from false false h = refl

module _ (s : Site) where
  pub cover_sieve : (c : ℕ) (R : List ℕ) → In (covers s c) R → In (sieves s.category c) R
  unfolding covers
  cover_sieve c R h = (In-filter_from (is_cover s c) (sieves s.category c) R h).0

  pub cover_arrow : (c g : ℕ) (R : List ℕ) → In (covers s c) R → In R g → IsInto s.category c g
  cover_arrow c g R h i = sieve_arrow s.category c g R (In_sieves s.category c R (cover_sieve c R h)).member i
