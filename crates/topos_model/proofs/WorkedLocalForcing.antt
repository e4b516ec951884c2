-- Worked examples, by computation: existence that is only local, and subsets that are closed for the dense topology.
use Rattle.std.specs.Prelude.{◌≡◌, ℕ, true, false, [], ◌∷◌, map, refl}
use Rattle.topos_model.specs.declared.ty.Ty.{Base, Omega, Pow}
use Rattle.topos_model.specs.declared.term.Term.{Term, Truth, Exists}
use Rattle.topos_model.specs.declared.value.Val.{out-Val, El, Sv, Sub}
use Rattle.finite_lists.specs.Sublists.{sublists}
use Rattle.topos_model.specs.categories.Category.{into, is_sieve, sieves, generated, pull}
use Rattle.topos_model.specs.topologies.Cover.{Site, is_cover, is_dense, is_listed, covers}
use Rattle.topos_model.specs.types.Types.{Presheaf, elements, places, closed_below, closed_under_covers, is_closed_sieve, at_place, in_entries, base_elements, base_along, omega_elements, omega_along, pow_elements, pow_along}
use Rattle.topos_model.specs.formulas.Forcing.{World, meaning, forces, values, along, exists_forced, locally}
use Rattle.topos_model.specs.types.Values.{same, number_of, first_of, second_of, arrows_of, entries_of, assigns_of}
use Rattle.topos_model.specs.categories.Listed.{all_ends, composable, listed_composite, listed_category}
use denote.Hole.Carrier
use Rattle.topos_model.specs.declared.term.Term.TheBlock.{hidden-the_row-Term-0}
use Rattle.topos_model.specs.declared.ty.Ty.TheBlock.{hidden-the_row-Ty-0}
use Rattle.topos_model.specs.declared.value.Val.TheBlock.{hidden-the_row-Val-0, hidden-the_row-Entry-1, hidden-the_row-Assign-2, shown-the_row-Val-0, shown-the_row-Entry-1, shown-the_row-Assign-2}
use Rattle.topos_model.proofs.WorkedTopologies.{graph}
use Rattle.topos_model.proofs.WorkedSheaves.{two_pieces, by_two_pieces, swapped}

-- what the examples compute with
opened : Unit {0}
unfolding sublists into is_sieve sieves generated all_ends composable listed_composite listed_category pull is_cover is_dense is_listed covers places closed_below closed_under_covers is_closed_sieve at_place in_entries along exists_forced locally elements base_elements base_along omega_elements omega_along pow_elements pow_along meaning same number_of first_of second_of arrows_of entries_of assigns_of out-Val hidden-the_row-Term-0 hidden-the_row-Ty-0 hidden-the_row-Val-0 hidden-the_row-Entry-1 hidden-the_row-Assign-2 Carrier.hidden Carrier.shown Carrier.out shown-the_row-Val-0 shown-the_row-Entry-1 shown-the_row-Assign-2
opened = tt

-- the pieces A and B that cover U have elements, and U has none
pieces : World
pieces = record { site = by_two_pieces; functors = swapped ∷ []; maps = [] }

nothing_over_the_whole : values pieces (Base 0) 0 ≡ []
unfolding opened pieces
nothing_over_the_whole = refl

some_element : Term
some_element = Exists (Base 0) Truth

element_exists_locally : forces pieces some_element 0 [] ≡ true
unfolding opened pieces some_element
element_exists_locally = refl

-- one vertex and one loop, under the dense topology
loop : World
loop = record {
  site = record { category = graph; dense = true; families = [] };
  functors = record { sizes = 1 ∷ 1 ∷ []; along = (0 ∷ []) ∷ (0 ∷ []) ∷ (0 ∷ []) ∷ (0 ∷ []) ∷ [] } ∷ [];
  maps = [];
}

closed_subsets_vertex : values loop (Pow (Base 0)) 0 ≡ map Sub ([] ∷ (record { arrow = 0; val = El 0 } ∷ []) ∷ [])
unfolding opened loop
closed_subsets_vertex = refl

-- a subset with both ends holds the edge
closed_subsets_edge : values loop (Pow (Base 0)) 1 ≡ map Sub (
    [] ∷ (record { arrow = 3; val = El 0 } ∷ []) ∷ (record { arrow = 2; val = El 0 } ∷ []) ∷
    (record { arrow = 1; val = El 0 } ∷ record { arrow = 2; val = El 0 } ∷ record { arrow = 3; val = El 0 } ∷ []) ∷ [])
unfolding opened loop
closed_subsets_edge = refl
