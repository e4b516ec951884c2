-- Worked examples, by computation: least covers, closures, and the first candidate at which a topology fails.
use Rattle.std.proofs.Common.{◌≡◌, ℕ, zero, suc, ◌<◌, true, false, inl, inr, List, [], ◌∷◌, length, get_or, refl, ap, subst, arith}
use Rattle.std.specs.Prelude.{Some, None}
use Rattle.finite_lists.specs.Members.{In}
use Rattle.finite_lists.specs.Sublists.{sublists}
use Rattle.topos_model.specs.declared.fault.Fault.TheVariants.{NotStable, NotTransitive}
use Rattle.topos_model.specs.categories.Category.{Category, into, dom, is_sieve, sieves, generated, pull}
use Rattle.topos_model.specs.topologies.Cover.{Site, is_cover, is_dense, is_listed, covers}
use Rattle.topos_model.specs.categories.Listed.{all_ends, composable, listed_composite, listed_category}
use Rattle.topos_model.specs.topologies.LeastCovers.{IsLeast, is_among_covers, least, closure}
use Rattle.topos_model.specs.topologies.TopologyFaults.{Fails, intersection, listed_sieves, least_twice, stability_fault, intersection_fault, least_twice_fault, topology_fault, first_topology_fault}

-- what the examples compute with
opened : Unit {0}
unfolding sublists into is_sieve sieves generated pull is_cover is_dense is_listed covers all_ends composable listed_composite listed_category is_among_covers least closure intersection listed_sieves least_twice stability_fault intersection_fault least_twice_fault topology_fault first_topology_fault
opened = tt

-- two parallel arrows, numbers 2 and 3, from the vertices to the edges
abbrev pub graph : Category
graph = listed_category (record { objects = 2; ends = (0, 1) ∷ (0, 1) ∷ []; listed = [] })

abbrev pub dense : Site
dense = record { category = graph; dense = true; families = [] }

abbrev pub trivial : Site
trivial = record { category = graph; dense = false; families = [] }

-- the empty sieves cover
abbrev pub nothing : Site
nothing = record { category = graph; dense = false; families = record { at = 1; arrows = [] } ∷ record { at = 0; arrows = [] } ∷ [] }

least_dense_edge : least dense 1 ≡ 2 ∷ 3 ∷ []
unfolding opened
least_dense_edge = refl

least_trivial_edge : least trivial 1 ≡ 1 ∷ 2 ∷ 3 ∷ []
unfolding opened
least_trivial_edge = refl

least_nothing_edge : least nothing 1 ≡ []
unfolding opened
least_nothing_edge = refl

-- the empty sieve is the least cover where nothing covers anything, and not for the dense topology
empty_is_least : IsLeast nothing (λ c. [])
unfolding opened
empty_is_least = record {
  sieve = empty_sieve;
  within = λ c f S covers member. absurd member;
  above = every_sieve;
  sink = λ c f g i member. absurd member;
  split = λ c h member. absurd member;
}
  where
    empty_sieve : (c : ℕ) → c < 2 → In (sieves graph c) []
    empty_sieve zero low = inl refl
    empty_sieve (suc zero) low = inl refl
    empty_sieve (suc (suc c)) low = absurd (omega (low, arith))

    every_sieve : (c : ℕ) (S : List ℕ) → c < 2 → In (sieves graph c) S → ((f : ℕ) → ⊥ → In S f) → In (covers nothing c) S
    every_sieve zero S low sieve contains = sieve
    every_sieve (suc zero) S low sieve contains = sieve
    every_sieve (suc (suc c)) S low sieve contains = absurd (omega (low, arith))

empty_not_least : IsLeast dense (λ c. []) → ⊥
unfolding opened
empty_not_least is_least =
    elim (is_least.above 1 [] (omega arith) (inl refl) (λ f member. absurd member)) [
      | inl p ↦ absurd (omega (ap length p, arith))
      | inr (inl p) ↦ absurd (omega (ap length p, arith))
      | inr (inr h) ↦ h
    ]

maximal_not_least : IsLeast dense (into graph) → ⊥
unfolding opened
maximal_not_least is_least =
    elim (is_least.within 1 1 (2 ∷ 3 ∷ []) (inl refl) (inl refl)) [
      | inl p ↦ absurd (omega (p, arith))
      | inr (inl p) ↦ absurd (omega (p, arith))
      | inr (inr h) ↦ h
    ]

-- a sieve with both ends is dense in the edge, one with one end is closed
closure_both : closure dense 1 (2 ∷ 3 ∷ []) ≡ 1 ∷ 2 ∷ 3 ∷ []
unfolding opened
closure_both = refl

closure_one : closure dense 1 (2 ∷ []) ≡ 2 ∷ []
unfolding opened
closure_one = refl

dense_has_no_fault : topology_fault dense 0 ≡ None
unfolding opened
dense_has_no_fault = refl

trivial_has_no_fault : topology_fault trivial 0 ≡ None
unfolding opened
trivial_has_no_fault = refl

nothing_has_no_fault : topology_fault nothing 0 ≡ None
unfolding opened
nothing_has_no_fault = refl

-- nothing covers the edges: then nothing would have to cover the vertices
abbrev empty_edge : Site
empty_edge = record { category = graph; dense = false; families = record { at = 1; arrows = [] } ∷ [] }

empty_edge_not_stable : topology_fault empty_edge 0 ≡ Some (NotStable 0 1 [] 2)
unfolding opened
empty_edge_not_stable = refl

-- the laws fail there
empty_edge_fails : Fails empty_edge 0 (NotStable 0 1 [] 2)
unfolding opened
empty_edge_fails = (refl, inl refl, (omega arith, refl), λ h. elim h [ inl p ↦ absurd (omega (ap length p, arith)) | inr e ↦ e ])

-- each end alone covers the edge, and what they share does not
abbrev either_end : Site
either_end = record { category = graph; dense = false; families = record { at = 0; arrows = [] } ∷ record { at = 1; arrows = 2 ∷ [] } ∷ record { at = 1; arrows = 3 ∷ [] } ∷ [] }

either_end_not_transitive : topology_fault either_end 3 ≡ Some (NotTransitive 3 1 (2 ∷ []) [])
unfolding opened
either_end_not_transitive = refl

-- A -> B -> C with arrows 3 : A -> B, 4 : B -> C and 5 : A -> C; C is covered by B, and B by A
abbrev chain : Category
chain = listed_category (record { objects = 3; ends = (0, 1) ∷ (1, 2) ∷ (0, 2) ∷ []; listed = (4, 3, 5) ∷ [] })

abbrev step_by_step : Site
step_by_step = record { category = chain; dense = false; families = record { at = 2; arrows = 4 ∷ [] } ∷ record { at = 1; arrows = 3 ∷ [] } ∷ [] }

step_by_step_not_transitive : topology_fault step_by_step 0 ≡ Some (NotTransitive 0 2 (4 ∷ 5 ∷ []) (5 ∷ []))
unfolding opened
step_by_step_not_transitive = refl

abbrev Covered : ℕ → Type 0
Covered f = In (covers step_by_step (dom chain f)) (pull chain f (5 ∷ []))

step_by_step_fails : Fails step_by_step 0 (NotTransitive 0 2 (4 ∷ 5 ∷ []) (5 ∷ []))
unfolding opened
step_by_step_fails = (refl, inl refl, inr (inl refl), along, not_cover)
  where
    along : (f : ℕ) → In {A = ℕ} (4 ∷ 5 ∷ []) f → Covered f
    along f (inl p) = subst Covered p (inl refl)
    along f (inr (inl p)) = subst Covered p (inl refl)
    along f (inr (inr e)) = absurd e

    not_cover : In {A = List ℕ} ((4 ∷ 5 ∷ []) ∷ (2 ∷ 4 ∷ 5 ∷ []) ∷ []) (5 ∷ []) → ⊥
    not_cover (inl p) = absurd (omega (ap length p, arith))
    not_cover (inr (inl p)) = absurd (omega (ap length p, arith))
    not_cover (inr (inr e)) = e

-- with the composite listed too, it is a topology
whole_chain_has_no_fault : topology_fault (record step_by_step { families = record { at = 2; arrows = 5 ∷ [] } ∷ record { at = 1; arrows = 3 ∷ [] } ∷ [] }) 0 ≡ None
unfolding opened
whole_chain_has_no_fault = refl

-- of two topologies the second fails, and its number is given
second_topology_fails : first_topology_fault (λ j. get_or (dense ∷ empty_edge ∷ []) j dense) 2 ≡ Some (NotStable 1 1 [] 2)
unfolding opened
second_topology_fails = refl

no_topology_fails : first_topology_fault (λ j. get_or (trivial ∷ dense ∷ []) j dense) 2 ≡ None
unfolding opened
no_topology_fails = refl
