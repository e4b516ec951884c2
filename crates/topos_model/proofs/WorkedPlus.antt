-- Worked examples, by computation: the plus construction and the order of traces.
use Rattle.std.proofs.Common.{◌≡◌, ℕ, zero, suc, ◌<◌, true, inl, inr, List, [], ◌∷◌, refl, ap, subst, arith}
use Rattle.std.specs.Prelude.{None}
use Rattle.finite_lists.specs.Members.{In}
use Rattle.finite_lists.specs.Rising.{Rising, SublistBelow}
use Rattle.finite_lists.specs.Sublists.{sublists}
use Rattle.topos_model.specs.categories.Category.{into, dom, compose, is_sieve, sieves, generated, pull}
use Rattle.topos_model.specs.topologies.Cover.{Site, is_cover, is_dense, is_listed, covers}
use Rattle.topos_model.specs.types.Types.{Presheaf}
use Rattle.topos_model.specs.Laws.{IsInto, act, size}
use Rattle.topos_model.specs.categories.Listed.{all_ends, composable, listed_composite, listed_category}
use Rattle.topos_model.specs.presheaves.Maps.{after}
use Rattle.topos_model.specs.presheaves.NaturalMaps.{choices}
use Rattle.topos_model.specs.topologies.LeastCovers.{is_among_covers, least, closure}
use Rattle.topos_model.specs.topologies.TopologyFaults.{intersection, listed_sieves, least_twice, stability_fault, intersection_fault, least_twice_fault, topology_fault, first_topology_fault}
use Rattle.topos_model.specs.topologies.Sheaves.{IsMatching, element_at, agrees, matching_families, amalgamations, sheaf_fault}
use Rattle.topos_model.specs.topologies.PlusConstruction.{IsPlus, IsAssociated, families, restricted, restrictions, plus, unit, pairs, trace, traces}

-- what the examples compute with
opened : Unit {0}
unfolding sublists into is_sieve sieves generated pull is_cover is_dense is_listed covers all_ends composable listed_composite listed_category is_among_covers least closure intersection listed_sieves least_twice stability_fault intersection_fault least_twice_fault topology_fault first_topology_fault choices agrees matching_families amalgamations sheaf_fault families restricted restrictions plus unit pairs trace traces after
opened = tt

-- an idempotent r, number 1, which is the least dense cover
abbrev pub idempotent : Site
idempotent = record { category = listed_category (record { objects = 1; ends = (0, 0) ∷ []; listed = (1, 1, 1) ∷ [] }); dense = true; families = [] }

-- a.r = b, b.r = b, c.r = c
abbrev pub X : Presheaf
X = record { sizes = 3 ∷ []; along = (0 ∷ 1 ∷ 2 ∷ []) ∷ (1 ∷ 1 ∷ 2 ∷ []) ∷ [] }

abbrev Agrees : ℕ → ℕ → Type 0
Agrees f g = act X g (element_at (1 ∷ []) (1 ∷ []) f) ≡ element_at (1 ∷ []) (1 ∷ []) (compose idempotent.category f g)

-- b and c are matching families on the idempotent, a is none
b_matches : IsMatching idempotent.category X (1 ∷ []) (1 ∷ [])
unfolding opened
b_matches = record { count = refl; within = inside; agree = same }
  where
    inside : (f : ℕ) → In {A = ℕ} (1 ∷ []) f → element_at (1 ∷ []) (1 ∷ []) f < size X (dom idempotent.category f)
    inside f (inl p) = subst (λ g. element_at (1 ∷ []) (1 ∷ []) g < size X (dom idempotent.category g)) p (omega arith)
    inside f (inr e) = absurd e

    at_idempotent : (g : ℕ) → g < 2 → Agrees 1 g
    at_idempotent zero low = refl
    at_idempotent (suc zero) low = refl
    at_idempotent (suc (suc g)) low = absurd (omega (low, arith))

    same : (f g : ℕ) → In {A = ℕ} (1 ∷ []) f → IsInto idempotent.category (dom idempotent.category f) g → Agrees f g
    same f g (inl p) i = subst (λ h. Agrees h g) p (at_idempotent g i.0)
    same f g (inr e) i = absurd e

a_does_not_match : IsMatching idempotent.category X (1 ∷ []) (0 ∷ []) → ⊥
unfolding opened
a_does_not_match matching = absurd (omega (matching.agree 1 1 (inl refl) (omega arith, refl), arith))

X_families : families idempotent X 0 ≡ (1 ∷ []) ∷ (2 ∷ []) ∷ []
unfolding opened
X_families = refl

X_plus : plus idempotent X ≡ record { sizes = 2 ∷ []; along = (0 ∷ 1 ∷ []) ∷ (0 ∷ 1 ∷ []) ∷ [] }
unfolding opened
X_plus = refl

X_unit : unit idempotent X ≡ (0 ∷ 0 ∷ 1 ∷ []) ∷ []
unfolding opened
X_unit = refl

X_plus_sheaf : sheaf_fault idempotent (plus idempotent X) ≡ None
unfolding opened
X_plus_sheaf = refl

-- X itself has too many elements
X_not_plus : IsPlus idempotent X X ((0 ∷ 1 ∷ 2 ∷ []) ∷ []) → ⊥
unfolding opened
X_not_plus plus = absurd (omega (plus.sizes 0 (omega arith), arith))

-- by the order of families the trace of b stands first, which the order of traces does not allow: it has (id, a)
X_plus_traces : traces idempotent.category X (plus idempotent X) (unit idempotent X) 0 ≡ ((0, 0) ∷ (0, 1) ∷ (1, 0) ∷ (1, 1) ∷ []) ∷ ((0, 2) ∷ (1, 2) ∷ []) ∷ []
unfolding opened
X_plus_traces = refl

-- the associated sheaf: two elements, c first
X_traces : traces idempotent.category X (plus idempotent X) ((1 ∷ 1 ∷ 0 ∷ []) ∷ []) 0 ≡ ((0, 2) ∷ (1, 2) ∷ []) ∷ ((0, 0) ∷ (0, 1) ∷ (1, 0) ∷ (1, 1) ∷ []) ∷ []
unfolding opened
X_traces = refl

-- the traces rise where c stands first, and not where it stands last
abbrev pub X_pairs : List (ℕ × ℕ)
X_pairs = (0, 0) ∷ (0, 1) ∷ (0, 2) ∷ (1, 0) ∷ (1, 1) ∷ (1, 2) ∷ []

X_pairs_are : pairs idempotent.category X 0 ≡ X_pairs
unfolding opened
X_pairs_are = refl

abbrev pub trace_c : List (ℕ × ℕ)
trace_c = (0, 2) ∷ (1, 2) ∷ []

abbrev pub trace_a : List (ℕ × ℕ)
trace_a = (0, 0) ∷ (0, 1) ∷ (1, 0) ∷ (1, 1) ∷ []

a_not_in_c : In trace_c (0, 0) → ⊥
a_not_in_c (inl p) = absurd (omega (ap (λ q. q.1) p, arith))
a_not_in_c (inr (inl p)) = absurd (omega (ap (λ q. q.1) p, arith))
a_not_in_c (inr (inr e)) = e

pub X_traces_rise : Rising (SublistBelow X_pairs) (trace_c ∷ trace_a ∷ [])
X_traces_rise = (above, ((λ y h. absurd h), tt))
  where
    above : (y : List (ℕ × ℕ)) → In (trace_a ∷ []) y → SublistBelow X_pairs trace_c y
    above y (inl p) = subst (SublistBelow X_pairs trace_c) p (inl (a_not_in_c, inl refl))
    above y (inr e) = absurd e

X_plus_traces_fall : Rising (SublistBelow X_pairs) (trace_a ∷ trace_c ∷ []) → ⊥
X_plus_traces_fall rising =
    elim (rising.0 trace_c (inl refl)) [
      | inl below ↦ below.0 (inl refl)
      | inr below ↦ a_not_in_c (below.0 (inl refl))
    ]

-- the plus alone is not the associated sheaf: its elements stand in another order
X_plus_not_in_order : IsAssociated idempotent X (plus idempotent X) (unit idempotent X) → ⊥
unfolding opened
X_plus_not_in_order associated = X_plus_traces_fall (associated.order 0 (omega arith))
