-- The covers of a site (III).
use Rattle.std.specs.Prelude.{ℕ, Bool, cond, ◌&&◌, ◌||◌, List, eqb, filter}
use Rattle.std.specs.List.{list_any, list_all}
use Rattle.topos_model.specs.declared.raw.Family.{Family}
use Rattle.topos_model.specs.categories.Category.{Category, has, into, dom, compose, sieves, generated}

-- a category with a topology: the dense one, or the one of listed families, each an object and arrows into it
pub record Site : Type 0 where
  pub category : Category
  pub dense : Bool
  pub families : List Family

abbrev pub contains : List ℕ → List ℕ → Bool
contains small large = list_all (λ f. has f large) small

module _ (s : Site) where
  -- each arrow into c has a composite in the sieve
  unfoldable pub is_dense : ℕ → List ℕ → Bool
  is_dense c sieve = list_all (λ f. list_any (λ g. has (compose s.category f g) sieve) (into s.category (dom s.category f))) (into s.category c)

  -- maximal, or above a sieve that is listed for c
  unfoldable pub is_listed : ℕ → List ℕ → Bool
  is_listed c sieve =
      contains (into s.category c) sieve || list_any (λ family. eqb family.at c && contains (generated s.category c family.arrows) sieve) s.families

  unfoldable pub is_cover : ℕ → List ℕ → Bool
  is_cover c sieve = cond s.dense (is_dense c sieve) (is_listed c sieve)

  unfoldable pub covers : ℕ → List (List ℕ)
  covers c = filter (is_cover c) (sieves s.category c)
