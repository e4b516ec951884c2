-- Worked examples, by computation: runs and checks of small documents.
use Rattle.std.proofs.Common.{◌≡◌, ℕ, ◌≤◌, ◌<◌, true, false, List, [], ◌∷◌, map, Some, None, refl, inl, inr, arith}
use Rattle.std.specs.Prelude.{codes}
use denote.Hole.Carrier
use Rattle.finite_lists.specs.Sublists.{sublists}
use Rattle.topos_model.specs.declared.ty.Ty.{Ty, out-Ty, Base, Omega}
use Rattle.topos_model.specs.declared.ty.Ty.TheBlock.{hidden-the_row-Ty-0, shown-the_row-Ty-0}
use Rattle.topos_model.specs.declared.term.Term.{Var, Truth, Eq}
use Rattle.topos_model.specs.declared.term.Term.TheBlock.{hidden-the_row-Term-0}
use Rattle.topos_model.specs.declared.value.Val.{Val, out-Val, El}
use Rattle.topos_model.specs.declared.value.Val.TheBlock.{hidden-the_row-Val-0, hidden-the_row-Entry-1, hidden-the_row-Assign-2, shown-the_row-Val-0, shown-the_row-Entry-1, shown-the_row-Assign-2}
use Rattle.topos_model.specs.declared.raw.RawFunctor.{RawFunctor}
use Rattle.topos_model.specs.declared.doc.Doc.{Doc}
use Rattle.topos_model.specs.declared.stmt.Stmt.{Stmt}
use Rattle.topos_model.specs.declared.stmt.Stmt.TheVariants.{Presheaf, Show}
use Rattle.topos_model.specs.declared.answer.Answer.{Answer}
use Rattle.topos_model.specs.declared.answer.Answer.TheVariants.{Quiet, Shown}
use Rattle.topos_model.specs.declared.answer.Tuple.{Tuple}
use Rattle.topos_model.specs.declared.answer.End.TheVariants.{Whole, Checked, Refused, Budget}
use Rattle.topos_model.specs.declared.fault.Fault.TheVariants.{NotAssociative}
use Rattle.topos_model.specs.categories.Category.{into, is_sieve, sieves, generated, pull}
use Rattle.topos_model.specs.topologies.Cover.{is_cover, is_dense, is_listed, covers}
use Rattle.topos_model.specs.types.Values.{same, number_of, first_of, second_of, arrows_of, entries_of}
use Rattle.topos_model.specs.types.Types.{elements, restr, places, closed_below, closed_under_covers, is_closed_sieve, in_entries, base_elements, base_along, omega_elements, omega_along, two_elements, two_along}
use Rattle.topos_model.specs.formulas.Forcing.{along, and_forced, or_forced, implies_forced, not_forced, exists_forced, forall_forced, unique_forced, tuples, shown, locally, always, falsity_forced, meaning}
use Rattle.topos_model.specs.categories.Listed.{all_ends, composable, listed_composite, listed_category, listed_row, listed_presheaf}
use Rattle.topos_model.specs.Faults.{associativity_fault, functoriality_fault}
use Rattle.topos_model.specs.categories.Filling.{candidates, has_composite, filled_composite, filled_category, has_restriction, fills, filling_pair, composite_row, filled_row, filled_rows, filled_presheaf}
use Rattle.topos_model.specs.categories.CategoryFaults.{has_ends, listed_composite_fault, listing_fault, is_determined, missing_composite_fault, category_fault}
use Rattle.topos_model.specs.presheaves.PresheafFaults.{declared, has_entry, total_fault, missing_restriction_fault, restriction_fault, presheaf_fault}
use Rattle.topos_model.specs.topologies.LeastCovers.{is_among_covers, least}
use Rattle.topos_model.specs.topologies.TopologyFaults.{intersection, listed_sieves, least_twice, stability_fault, intersection_fault, least_twice_fault, topology_fault, first_topology_fault}
use Rattle.topos_model.specs.topologies.Sheaves.{agrees, matching_families, amalgamations, sheaf_fault}
use Rattle.topos_model.specs.presheaves.NaturalMaps.{choices}
use Rattle.topos_model.specs.types.SameType.{same_type}
use Rattle.topos_model.specs.formulas.Typing.{typed}
use Rattle.topos_model.specs.statements.Needs.{parts, inner, step_terms, terms_of, term_needs, types_of, needs, under, named}
use Rattle.topos_model.specs.statements.StatementFaults.{applied, depends_on_covers, foreign_map_fault, formula_fault, term_fault, step_fault, typing_fault}
use Rattle.topos_model.specs.statements.Cells.{presheaf_cells, is_named, without_repeats, width, cells_of, types_cells, types_under, cells}
use Rattle.topos_model.specs.statements.Declarations.{Declared, nothing, with_functor, category_of, site_of, map_ends, world_under, with_types, cells_so_far}
use Rattle.topos_model.specs.statements.Refusals.{topologies_fault, sheaf_refusal, foreign_refusal, term_refusal, ends_fit, refusal, late_refusal}
use Rattle.topos_model.specs.statements.Answers.{unforced}
use Rattle.topos_model.specs.statements.Run.{everything, site_refusal, IsAnswered, with_its_types, ended, over, answered, site_refused, site_accepted, RunOf}
use Rattle.topos_model.specs.statements.Check.{leading, checked_part, CheckOf}

-- what the examples compute with
unfoldable pub opened : Unit {0}
unfolding sublists out-Ty out-Val hidden-the_row-Ty-0 shown-the_row-Ty-0 hidden-the_row-Term-0 hidden-the_row-Val-0 hidden-the_row-Entry-1 hidden-the_row-Assign-2 shown-the_row-Val-0 shown-the_row-Entry-1 shown-the_row-Assign-2 Carrier.hidden Carrier.shown Carrier.out into is_sieve sieves generated pull is_cover is_dense is_listed covers same number_of first_of second_of arrows_of entries_of elements restr places closed_below closed_under_covers is_closed_sieve in_entries base_elements base_along omega_elements omega_along two_elements two_along along and_forced or_forced implies_forced not_forced exists_forced forall_forced unique_forced tuples shown locally always falsity_forced meaning all_ends composable listed_composite listed_category listed_row listed_presheaf associativity_fault functoriality_fault candidates has_composite filled_composite filled_category has_restriction fills filling_pair composite_row filled_row filled_rows filled_presheaf has_ends listed_composite_fault listing_fault is_determined missing_composite_fault category_fault declared has_entry total_fault missing_restriction_fault restriction_fault presheaf_fault is_among_covers least intersection listed_sieves least_twice stability_fault intersection_fault least_twice_fault topology_fault first_topology_fault agrees matching_families amalgamations sheaf_fault choices same_type typed parts inner step_terms terms_of term_needs types_of needs under named applied depends_on_covers foreign_map_fault formula_fault term_fault step_fault typing_fault presheaf_cells is_named without_repeats width cells_of types_cells types_under cells category_of site_of map_ends world_under with_types cells_so_far topologies_fault sheaf_refusal foreign_refusal term_refusal ends_fit refusal late_refusal unforced site_refusal leading checked_part
opened = tt

-- graphs, with a loop l and two edges e and f from p to q; the equal pairs
abbrev pub raw : RawFunctor
raw = record { sizes = 2 ∷ 3 ∷ []; along = record { arrow = 2; entries = (0, 0) ∷ (1, 0) ∷ (2, 1) ∷ [] } ∷ record { arrow = 3; entries = (0, 1) ∷ (1, 1) ∷ (2, 0) ∷ [] } ∷ [] }

abbrev pub G : Stmt
G = Presheaf 0 raw

abbrev pub equal_pairs : Stmt
equal_pairs = Show 0 (record { types = Base 0 ∷ Base 0 ∷ [] }) (Eq (Var 1) (Var 0))

abbrev pub graphs : Doc
graphs = record {
  version = 1;
  objects = codes "V" ∷ codes "E" ∷ [];
  arrows = codes "s" ∷ codes "t" ∷ [];
  cat = record { objects = 2; ends = (0, 1) ∷ (0, 1) ∷ []; listed = [] };
  tops = record { name = None; dense = false; covers = [] } ∷ [];
  site_len = 2;
  functors = [];
  maps = [];
  stmts = G ∷ equal_pairs ∷ [];
  cats = [];
  cat_functors = [];
  on_functors = [];
  on_maps = [];
}

-- no fault of the site
site_lawful : site_refusal everything graphs ≡ None
unfolding opened
site_lawful = refl

pub pair : ℕ → ℕ → Tuple
pair m n = record { vals = El m ∷ El n ∷ [] }

abbrev pub pairs_at : List (ℕ × ℕ) → List Tuple
pairs_at pairs = map (λ p. pair p.0 p.1) pairs

abbrev pub shown_pairs : Answer
shown_pairs = Shown (record { types = Base 0 ∷ Base 0 ∷ [] }) (pairs_at ((0, 0) ∷ (1, 1) ∷ []) ∷ pairs_at ((0, 0) ∷ (1, 1) ∷ (2, 2) ∷ []) ∷ [])

-- what is declared behind the graph, and behind the statement on its pairs
pub behind_graph : Declared
unfolding opened
behind_graph = with_functor (with_types nothing G) (filled_presheaf (category_of graphs) raw)

pub behind_pairs : Declared
unfolding opened behind_graph
behind_pairs = with_types behind_graph equal_pairs

-- the graph has 16 cells
graph_answered : (budget : ℕ) → 16 ≤ budget → IsAnswered everything graphs budget nothing G Quiet behind_graph
unfolding opened behind_graph
graph_answered budget h = record {
  types = record { is_run = refl; accepted = refl; within = omega arith };
  goes_on = refl;
  answers = (refl, refl);
  within = h;
}

-- truth values have 24 more, and pairs 44
pairs_answered : (budget : ℕ) → 84 ≤ budget → IsAnswered everything graphs budget behind_graph equal_pairs shown_pairs behind_pairs
unfolding opened behind_graph behind_pairs pair
pairs_answered budget h = record {
  types = record { is_run = refl; accepted = refl; within = h };
  goes_on = refl;
  answers = (refl, refl);
  within = h;
}

graphs_run : RunOf graphs 84 (Quiet ∷ shown_pairs ∷ []) (Whole 84)
unfolding opened behind_graph behind_pairs
graphs_run = site_accepted refl (answered (graph_answered 84 (omega arith)) (answered (pairs_answered 84 (omega arith)) ended))

-- one cell too few
graphs_stopped : RunOf graphs 83 (Quiet ∷ []) (Budget 4)
unfolding opened behind_graph
graphs_stopped =
    site_accepted refl (answered (graph_answered 83 (omega arith)) (over (with_its_types refl refl (omega arith))))

-- the statements up to the graph
graphs_checked : CheckOf graphs 16 (Checked 3 16)
unfolding opened behind_graph
graphs_checked = (Quiet ∷ [], Whole 16, site_accepted refl (answered graph_alone ended), refl)
  where
    graph_alone : IsAnswered everything (checked_part graphs) 16 nothing G Quiet behind_graph
    graph_alone = record {
      types = record { is_run = refl; accepted = refl; within = omega arith };
      goes_on = refl;
      answers = (refl, refl);
      within = omega arith;
    }

-- two elements that multiply as no monoid does
abbrev no_monoid : Doc
no_monoid = record graphs { cat = record { objects = 1; ends = (0, 0) ∷ (0, 0) ∷ []; listed = (1, 1, 2) ∷ (1, 2, 1) ∷ (2, 1, 2) ∷ (2, 2, 2) ∷ [] } }

no_monoid_refused : RunOf no_monoid 84 [] (Refused None (NotAssociative 1 1 1))
unfolding opened
no_monoid_refused = site_refused refl
