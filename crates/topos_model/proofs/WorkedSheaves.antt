-- Worked examples, by computation: sheaves, and the first matching family that does not glue to one element.
use Rattle.std.proofs.Common.{◌≡◌, ℕ, zero, suc, ◌<◌, false, inl, [], ◌∷◌, refl, sym, ◌∙◌, arith}
use Rattle.std.specs.Prelude.{Some, None}
use Rattle.finite_lists.specs.Sublists.{sublists}
use Rattle.topos_model.specs.categories.Category.{Category, into, dom, is_sieve, sieves, generated, pull}
use Rattle.topos_model.specs.topologies.Cover.{Site, is_cover, is_dense, is_listed, covers}
use Rattle.topos_model.specs.types.Types.{Presheaf}
use Rattle.topos_model.specs.Laws.{act, size}
use Rattle.topos_model.specs.categories.Listed.{all_ends, composable, listed_composite, listed_category}
use Rattle.topos_model.specs.presheaves.Maps.{ExactlyOne}
use Rattle.topos_model.specs.presheaves.NaturalMaps.{choices}
use Rattle.topos_model.specs.topologies.LeastCovers.{is_among_covers, least, closure}
use Rattle.topos_model.specs.topologies.Sheaves.{IsAmalgamation, IsSeparated, IsSheaf, element_at, agrees, matching_families, amalgamations, sheaf_fault}
use Rattle.topos_model.proofs.WorkedTopologies.{graph, dense, trivial, nothing}

-- what the examples compute with
opened : Unit {0}
unfolding sublists into is_sieve sieves generated pull is_cover is_dense is_listed covers all_ends composable listed_composite listed_category is_among_covers least closure choices agrees matching_families amalgamations sheaf_fault
opened = tt

-- where the empty sieves cover, a sheaf has exactly one element everywhere
two_vertices : Presheaf
two_vertices = record { sizes = 2 ∷ 0 ∷ []; along = (0 ∷ 1 ∷ []) ∷ [] ∷ [] ∷ [] ∷ [] }

two_vertices_no_sheaf : sheaf_fault nothing two_vertices ≡ Some (record { at = 0; cover = []; family = []; found = Some (0, 1) })
unfolding opened two_vertices
two_vertices_no_sheaf = refl

-- two elements restrict to the empty family on the empty cover
two_vertices_not_separated : IsSeparated nothing two_vertices → ⊥
unfolding opened two_vertices
two_vertices_not_separated separated =
    let same : 0 ≡ 1 = separated 0 [] [] 0 1 (omega arith) (inl refl)
    (record { count = refl; within = λ f h. absurd h; agree = λ f g h. absurd h })
    (record { within = omega arith; restricts = λ f h. absurd h }) (record { within = omega arith; restricts = λ f h. absurd h }) in
    absurd (omega (same, arith))

two_vertices_refuted : IsSheaf nothing two_vertices → ⊥
unfolding opened two_vertices
two_vertices_refuted sheaf =
    let one : ExactlyOne (IsAmalgamation two_vertices 0 [] []) = sheaf 0 [] [] (omega arith) (inl refl) (record { count = refl; within = λ f h. absurd h; agree = λ f g h. absurd h }) in
    let amalgamation : (x : ℕ) → x < 2 → IsAmalgamation two_vertices 0 [] [] x = λ x low. record { within = low; restricts = λ f h. absurd h } in
    let zeroth : 0 ≡ one.0 = one.2 0 (amalgamation 0 (omega arith)) in
    let first : 1 ≡ one.0 = one.2 1 (amalgamation 1 (omega arith)) in
    absurd (omega (zeroth, first, arith))

terminal : Presheaf
terminal = record { sizes = 1 ∷ 1 ∷ []; along = (0 ∷ []) ∷ (0 ∷ []) ∷ (0 ∷ []) ∷ (0 ∷ []) ∷ [] }

terminal_sheaf : sheaf_fault nothing terminal ≡ None
unfolding opened terminal
terminal_sheaf = refl

-- it is a sheaf in the words of the law, over all covers
terminal_is_sheaf : IsSheaf dense terminal
unfolding opened terminal
terminal_is_sheaf c S family low cover matching = (
  0,
  record { within = inside c low; restricts = λ f member. restricted f (element_at S family f) (matching.within f member) },
  λ x other. at_most c x other.within,
)
  where
    inside : (c : ℕ) → c < 2 → 0 < size terminal c
    inside zero low = omega arith
    inside (suc zero) low = omega arith
    inside (suc (suc c)) low = absurd (omega (low, arith))

    at_most : (c x : ℕ) → x < size terminal c → x ≡ 0
    at_most zero x low = omega (low, arith)
    at_most (suc zero) x low = omega (low, arith)
    at_most (suc (suc c)) x low = absurd (omega (low, arith))

    action : (f : ℕ) → act terminal f 0 ≡ 0
    action zero = refl
    action (suc zero) = refl
    action (suc (suc zero)) = refl
    action (suc (suc (suc zero))) = refl
    action (suc (suc (suc (suc f)))) = refl

    restricted : (f x : ℕ) → x < size terminal (dom graph f) → act terminal f 0 ≡ x
    restricted f x low = action f ∙ sym (at_most (dom graph f) x low)

-- vertices p, q, two edges from p to q and one back
G : Presheaf
G = record { sizes = 2 ∷ 3 ∷ []; along = (0 ∷ 1 ∷ []) ∷ (0 ∷ 1 ∷ 2 ∷ []) ∷ (0 ∷ 0 ∷ 1 ∷ []) ∷ (1 ∷ 1 ∷ 0 ∷ []) ∷ [] }

-- for the dense topology a sheaf has one edge for each two vertices, and there is none from p to p
edge_missing : sheaf_fault dense G ≡ Some (record { at = 1; cover = 2 ∷ 3 ∷ []; family = 0 ∷ 0 ∷ []; found = None })
unfolding opened G
edge_missing = refl

-- and two from p to q
edges_found : amalgamations G 1 (2 ∷ 3 ∷ []) (0 ∷ 1 ∷ []) ≡ 0 ∷ 1 ∷ []
unfolding opened G
edges_found = refl

G_trivial_sheaf : sheaf_fault trivial G ≡ None
unfolding opened G
G_trivial_sheaf = refl

-- one vertex with two loops
loops : Presheaf
loops = record { sizes = 1 ∷ 2 ∷ []; along = (0 ∷ []) ∷ (0 ∷ 1 ∷ []) ∷ (0 ∷ 0 ∷ []) ∷ (0 ∷ 0 ∷ []) ∷ [] }

two_loops_no_sheaf : sheaf_fault dense loops ≡ Some (record { at = 1; cover = 2 ∷ 3 ∷ []; family = 0 ∷ 0 ∷ []; found = Some (0, 1) })
unfolding opened loops
two_loops_no_sheaf = refl

-- U covered by A (arrow 5) and B (6), which meet in W1 and W2; from the one to the other the gluing swaps
abbrev pub two_pieces : Category
two_pieces = listed_category (record {
  objects = 5;
  ends = (1, 0) ∷ (2, 0) ∷ (3, 1) ∷ (4, 1) ∷ (3, 2) ∷ (4, 2) ∷ (3, 0) ∷ (4, 0) ∷ [];
  listed = (5, 7, 11) ∷ (5, 8, 12) ∷ (6, 9, 11) ∷ (6, 10, 12) ∷ [];
})

abbrev pub by_two_pieces : Site
by_two_pieces = record { category = two_pieces; dense = false; families = record { at = 0; arrows = 5 ∷ 6 ∷ [] } ∷ [] }

least_two_pieces : least by_two_pieces 0 ≡ 5 ∷ 6 ∷ 11 ∷ 12 ∷ []
unfolding opened
least_two_pieces = refl

abbrev pub swapped : Presheaf
swapped = record {
  sizes = 0 ∷ 2 ∷ 2 ∷ 2 ∷ 2 ∷ [];
  along = [] ∷ (0 ∷ 1 ∷ []) ∷ (0 ∷ 1 ∷ []) ∷ (0 ∷ 1 ∷ []) ∷ (0 ∷ 1 ∷ []) ∷ [] ∷ [] ∷ (0 ∷ 1 ∷ []) ∷ (0 ∷ 1 ∷ []) ∷ (0 ∷ 1 ∷ []) ∷ (1 ∷ 0 ∷ []) ∷ [] ∷ [] ∷ [];
}

-- no family matches over U, and there is no element
swapped_sheaf : sheaf_fault by_two_pieces swapped ≡ None
unfolding opened
swapped_sheaf = refl
