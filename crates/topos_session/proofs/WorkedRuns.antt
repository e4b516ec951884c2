-- Worked examples, by computation: runs as far as the language is run.
use Rattle.std.proofs.Common.{[], ◌∷◌, Some, refl, arith}
use Rattle.topos_model.specs.declared.ty.Ty.{Base, Omega}
use Rattle.topos_model.specs.declared.term.Term.{Var}
use Rattle.topos_model.specs.declared.doc.Doc.{Doc}
use Rattle.topos_model.specs.declared.stmt.Stmt.{Stmt}
use Rattle.topos_model.specs.declared.stmt.Stmt.TheVariants.{Valid}
use Rattle.topos_model.specs.declared.answer.Answer.TheVariants.{Quiet}
use Rattle.topos_model.specs.declared.answer.End.TheVariants.{Refused}
use Rattle.topos_model.specs.declared.fault.Fault.TheVariants.{Expected}
use Rattle.topos_model.specs.categories.Filling.{filled_presheaf}
use Rattle.topos_model.specs.statements.Form.{is_category_listing, is_presheaf_listing, is_map_listing, are_distinct}
use Rattle.topos_model.specs.statements.Declarations.{Declared, nothing, with_functor, with_types, category_of}
use Rattle.topos_model.specs.statements.Run.{IsAnswered, at_once, refused, answered, site_accepted}
use Rattle.topos_model.proofs.WorkedRuns.{opened, raw, G, graphs}
use Rattle.term_ranges.specs.Ranges.{is_part_in_range, is_type_in_range, is_term_in_range}
use Rattle.topos_session.specs.Ranges.{is_topology_in_range, is_formula_in_range, is_in_range, declares, are_in_range, has_range}
use Rattle.topos_session.specs.Built.{is_built, today}
use Rattle.topos_session.specs.StagedRun.{StagedRunOf, in_range}

-- what the examples compute with
unfoldable built : Unit {0}
unfolding is_category_listing is_presheaf_listing is_map_listing are_distinct is_part_in_range is_type_in_range is_term_in_range is_topology_in_range is_formula_in_range is_in_range declares are_in_range has_range is_built
built = tt

-- a graph, and then a verdict on one variable
abbrev judged : Stmt → Doc
judged verdict = record graphs { stmts = G ∷ verdict ∷ [] }

behind_graph : Declared
unfolding opened
behind_graph = with_functor (with_types nothing G) (filled_presheaf (category_of graphs) raw)

graph_answered : (verdict : Stmt) → IsAnswered today (judged verdict) 16 nothing G Quiet behind_graph
unfolding opened built behind_graph
graph_answered verdict = record {
  types = record { is_run = refl; accepted = refl; within = omega arith };
  goes_on = refl;
  answers = (refl, refl);
  within = omega arith;
}

-- a variable over a graph is no formula
abbrev no_formula : Stmt
no_formula = Valid 0 (record { types = Base 0 ∷ [] }) (Var 0)

no_formula_refused : StagedRunOf (judged no_formula) 16 (Quiet ∷ []) (Refused (Some 4) (Expected Omega (Base 0)))
unfolding opened built behind_graph
no_formula_refused = in_range refl (site_accepted refl (answered (graph_answered no_formula) (refused (at_once refl refl))))
