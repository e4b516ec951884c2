-- The first candidate at which a topology breaks a law (III).
use Rattle.std.specs.Prelude.{◌≡◌, ◌↔◌, ℕ, cond, not, List, [], eqb, map, filter, Option, Some, None}
use Rattle.std.specs.List.{list_any, range_with_len}
use Rattle.finite_lists.specs.Members.{In}
use Rattle.finite_lists.specs.First.{first, or_else, some_if}
use Rattle.topos_model.specs.declared.raw.Family.{Family}
use Rattle.topos_model.specs.declared.fault.Fault.{Fault}
use Rattle.topos_model.specs.declared.fault.Fault.TheVariants.{NotStable, NotTransitive}
use Rattle.topos_model.specs.categories.Category.{has, into, dom, compose, sieves, generated, pull}
use Rattle.topos_model.specs.topologies.Cover.{Site, covers}
use Rattle.topos_model.specs.Laws.{IsCategory, IsInto, IsTopology}
use Rattle.topos_model.specs.topologies.LeastCovers.{is_among_covers, least}

-- the intersection of two sieves
unfoldable pub intersection : List ℕ → List ℕ → List ℕ
intersection S T = filter (λ f. has f T) S

module _ (s : Site) where
  -- the sieves that are listed for c, in order; of the dense topology none is listed
  unfoldable pub listed_sieves : ℕ → List (List ℕ)
  listed_sieves c = cond s.dense [] (map (λ family. generated s.category c family.arrows) (filter (λ family. eqb family.at c) s.families))

  -- all f.g with f in the least cover of c and g in that of dom f
  unfoldable pub least_twice : ℕ → List ℕ
  least_twice c =
      filter (λ h. list_any (λ f. list_any (λ g. eqb (compose s.category f g) h) (least s (dom s.category f))) (least s c)) (into s.category c)

module _ (s : Site) (under : ℕ) where
  -- the first (c, S, f) with S listed for c, f into c, and the pullback of S along f no cover
  unfoldable pub stability_fault : Option Fault
  stability_fault =
      first (λ c. first (λ S. first (λ f.
      some_if (not (is_among_covers s (dom s.category f) (pull s.category f S))) (NotStable under c S f))
      (into s.category c)) (listed_sieves s c)) (range_with_len 0 s.category.objects)

  -- the first (c, S, T) with S and T listed for c, and their intersection no cover
  unfoldable pub intersection_fault : Option Fault
  intersection_fault =
      first (λ c. first (λ S. first (λ T.
      some_if (not (is_among_covers s c (intersection S T))) (NotTransitive under c S (intersection S T)))
      (listed_sieves s c)) (listed_sieves s c)) (range_with_len 0 s.category.objects)

  -- the first c at which the least covers taken twice are no cover
  unfoldable pub least_twice_fault : Option Fault
  least_twice_fault =
      first (λ c. some_if (not (is_among_covers s c (least_twice s c))) (NotTransitive under c (least s c) (least_twice s c)))
      (range_with_len 0 s.category.objects)

  -- the first candidate that fails, under being the topology's number
  unfoldable pub topology_fault : Option Fault
  topology_fault = or_else stability_fault (or_else intersection_fault least_twice_fault)

-- that of the first topology that has one, among n topologies
unfoldable pub first_topology_fault : (ℕ → Site) → ℕ → Option Fault
first_topology_fault topology n = first (λ j. topology_fault (topology j) j) (range_with_len 0 n)

-- listed families are made of arrows into their objects
abbrev pub IsListed : Site → Type 0
IsListed s = (family : Family) → In s.families family → (f : ℕ) → In family.arrows f → IsInto s.category family.at f

-- the law that is named fails at the instance
abbrev pub Fails : Site → ℕ → Fault → Type 0
Fails s j (NotStable under c S f) =
    (under ≡ j) × In (covers s c) S × IsInto s.category c f × (In (covers s (dom s.category f)) (pull s.category f S) → ⊥)
Fails s j (NotTransitive under c S R) =
    (under ≡ j) × In (covers s c) S × In (sieves s.category c) R
    × ((f : ℕ) → In S f → In (covers s (dom s.category f)) (pull s.category f R)) × (In (covers s c) R → ⊥)
Fails s j _ = ⊥

-- no candidate fails exactly if the three laws hold for all sieves
abbrev pub NoFaultIsTopology : Type 0
NoFaultIsTopology = (s : Site) (j : ℕ) → IsCategory s.category → IsListed s → (topology_fault s j ≡ None) ↔ IsTopology s

-- and at a candidate that is given the law that is named fails
abbrev pub FaultsFail : Type 0
FaultsFail = (s : Site) (j : ℕ) (fault : Fault) → IsCategory s.category → IsListed s → topology_fault s j ≡ Some fault → Fails s j fault
