-- Listed sieves as the code keeps them, by objects, and the candidate tests over them (III).
use Rattle.std.specs.Prelude.{◌≡◌, ℕ, ◌<◌, Bool, false, cond, not, ◌&&◌, ◌||◌, List, [], ◌∷◌, map, eqb, Option, length, get_or}
use Rattle.std.specs.Option.{option_map}
use Rattle.std.specs.List.{list_any, range_with_len, flat_map}
use Rattle.finite_lists.specs.Members.{In}
use Rattle.finite_lists.specs.First.{first, some_if}
use Rattle.topos_model.specs.declared.raw.Family.{Family}
use Rattle.topos_model.specs.categories.Category.{Category, into, dom, pull}
use Rattle.topos_model.specs.topologies.Cover.{Site, contains}
use Rattle.topos_model.specs.Laws.{IsInto}
use Rattle.topos_model.specs.topologies.TopologyFaults.{intersection, listed_sieves}
use Rattle.fin_category.specs.declared.mask.ArrowMask.{ArrowMask}
use Rattle.fin_category.specs.ArrowSets.{arrows_in}
use Rattle.sieve_table.specs.declared.sieve.Sieve.{Sieve}
use Rattle.sieve_table.specs.Composites.{composites}
use Rattle.sieve_table.specs.Sieves.{sieve_arrows, IsSieveOf}

-- the site that families list
abbrev pub listed_site : Category → List Family → Site
listed_site k families = record { category = k; dense = false; families = families }

-- a sieve as its object and its arrows
abbrev pub kept_as : Sieve → ℕ × List ℕ
kept_as l = (l.at, sieve_arrows l)

-- the listed sieves of an object, and of all objects in order
abbrev pub listed_at : Category → List Family → ℕ → List (ℕ × List ℕ)
listed_at k families c = map (λ S. (c, S)) (listed_sieves (listed_site k families) c)

abbrev pub listed_rows : Category → List Family → List (ℕ × List ℕ)
listed_rows k families = flat_map (listed_at k families) (range_with_len 0 k.objects)

-- sieves on objects of the category
abbrev pub AreSieves : Category → List Sieve → Type 0
AreSieves k sieves = (l : Sieve) → In sieves l → IsSieveOf k l × (l.at < k.objects)

-- the arrows of S that all sieves have that are listed for c
unfoldable pub common_arrows : ℕ → List ℕ → List Sieve → List ℕ
common_arrows c S [] = S
common_arrows c S (l ∷ ls) = common_arrows c (cond (eqb l.at c) (intersection S (sieve_arrows l)) S) ls

-- one set of arrows into each object
abbrev pub AreCovers : Category → List ArrowMask → Type 0
AreCovers k least = (length least ≡ k.objects) × ((c f : ℕ) → c < k.objects → In (get_or (map arrows_in least) c []) f → IsInto k c f)

-- the arrows f.g with f in the least cover of c and g in that of dom f
abbrev pub taken_twice : Category → List ArrowMask → ℕ → List ℕ
taken_twice k least c = composites k (λ d. get_or (map arrows_in least) d []) c (get_or (map arrows_in least) c [])

module _ (k : Category) (sieves : List Sieve) where
  -- whether a sieve on c has all arrows, or those of a sieve that is listed for c
  abbrev pub covered : ℕ → List ℕ → Bool
  covered c S = contains (into k c) S || list_any (λ l. eqb l.at c && contains (sieve_arrows l) S) sieves

  -- the first arrow along which a sieve pulls back to no cover
  abbrev pub unstable_along : Sieve → Option ℕ
  unstable_along l = first (λ f. some_if (not (covered (dom k f) (pull k f (sieve_arrows l)))) f) (into k l.at)

  -- the first listed sieve that has one, with it
  abbrev pub unstable : Option (Sieve × ℕ)
  unstable = first (λ l. option_map (λ f. (l, f)) (unstable_along l)) sieves

  -- the first listed sieve whose intersection with a sieve is no cover
  abbrev pub narrow_with : Sieve → Option Sieve
  narrow_with l = first (λ m. some_if (eqb m.at l.at && not (covered l.at (intersection (sieve_arrows l) (sieve_arrows m)))) m) sieves

  -- the first pair of such sieves
  abbrev pub narrow : Option (Sieve × Sieve)
  narrow = first (λ l. option_map (λ m. (l, m)) (narrow_with l)) sieves

  -- the first object at which the least covers taken twice are no cover
  abbrev pub thin : List ArrowMask → Option ℕ
  thin least = first (λ c. some_if (not (covered c (taken_twice k least c))) c) (range_with_len 0 k.objects)
