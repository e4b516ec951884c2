-- Worked examples, by computation: the run of a question why, which is stopped by its types, refused for want of a tuple, stopped by its certificate, or answered;
-- and the run of a list of maps.
use Rattle.std.proofs.Common.{◌≡◌, ℕ, ◌≤◌, true, false, List, [], ◌∷◌, Some, None, refl, sym, ap, arith}
use denote.Hole.Carrier
use Rattle.topos_model.specs.declared.ty.Ty.{Base}
use Rattle.topos_model.specs.declared.term.Term.{Term, Var, Eq, Not, Exists}
use Rattle.topos_model.specs.declared.value.Val.{Val, El}
use Rattle.topos_model.specs.declared.stmt.Stmt.{Stmt}
use Rattle.topos_model.specs.declared.stmt.Stmt.TheVariants.{Presheaf, Why, Hom}
use Rattle.topos_model.specs.declared.doc.Doc.{Doc}
use Rattle.topos_model.specs.declared.raw.RawFunctor.{RawFunctor}
use Rattle.topos_model.specs.declared.answer.WhyNode.{WhyNode, out-WhyNode, roll-WhyNode}
use Rattle.topos_model.specs.declared.answer.WhyNode.TheBlock.{hidden-the_row-WhyNode-0, shown-the_row-WhyNode-0}
use Rattle.topos_model.specs.declared.answer.Answer.{Answer}
use Rattle.topos_model.specs.declared.answer.Answer.TheVariants.{Quiet, Maps, Why as Reason}
use Rattle.topos_model.specs.declared.answer.MapShape.{MapShape}
use Rattle.topos_model.specs.declared.answer.End.TheVariants.{Whole, Refused, Budget}
use Rattle.topos_model.specs.declared.fault.Fault.TheVariants.{NoTuple}
use Rattle.topos_model.specs.categories.Filling.{filled_presheaf}
use Rattle.topos_model.specs.presheaves.NaturalMaps.{choices, rows, all_components, commutes_at, is_natural_map, maps}
use Rattle.topos_model.specs.formulas.Plain.{is_simple, is_plain}
use Rattle.topos_model.specs.certificates.Certificates.{inhabited}
use Rattle.topos_model.specs.certificates.FirstCertificate.{count_nodes, node, and_children, or_children, implies_children, not_children, exists_children, forall_children, unique_children, part_of, first_cert}
use Rattle.topos_model.specs.statements.Cells.{hom_cells}
use Rattle.topos_model.specs.statements.Declarations.{Declared, nothing, with_functor, with_types, with_others, category_of}
use Rattle.topos_model.specs.statements.Answers.{element_pairs, functor_map}
use Rattle.topos_model.specs.statements.Run.{everything, IsCounted, IsAnswered, with_its_types, with_its_answer, late, ended, refused, over, answered, site_accepted, RunOf}
use Rattle.topos_model.proofs.CertificateNodes.{nodes_of_root}
use Rattle.topos_model.proofs.WorkedRuns.{opened as opened_runs, graphs}

-- what the examples compute with
opened : Unit {0}
unfolding opened_runs out-WhyNode roll-WhyNode hidden-the_row-WhyNode-0 shown-the_row-WhyNode-0 Carrier.roll is_simple is_plain inhabited node and_children or_children implies_children not_children exists_children forall_children unique_children part_of first_cert choices rows all_components commutes_at is_natural_map maps hom_cells element_pairs functor_map
opened = tt

-- one edge k from a to b
abbrev raw : RawFunctor
raw = record { sizes = 2 ∷ 1 ∷ []; along = record { arrow = 2; entries = (0, 0) ∷ [] } ∷ record { arrow = 3; entries = (0, 1) ∷ [] } ∷ [] }

abbrev K : Stmt
K = Presheaf 0 raw

-- why is the edge other than some edge?
abbrev other : Term
other = Exists (Base 0) (Not (Eq (Var 1) (Var 0)))

abbrev question : ℕ → Stmt
question n = Why 0 1 n (record { types = Base 0 ∷ [] }) other

abbrev asked : ℕ → Doc
asked n = record graphs { stmts = K ∷ question n ∷ [] }

behind_graph : Declared
unfolding opened
behind_graph = with_functor (with_types nothing K) (filled_presheaf (category_of graphs) raw)

graph_answered : (n budget : ℕ) → 8 ≤ budget → IsAnswered everything (asked n) budget nothing K Quiet behind_graph
unfolding opened behind_graph
graph_answered n budget h = record {
  types = record { is_run = refl; accepted = refl; within = omega arith };
  goes_on = refl;
  answers = (refl, refl);
  within = h;
}

-- it is not: k is the only edge
reason : WhyNode
unfolding opened
reason = roll-WhyNode (record {
  side = None;
  arrow = 1;
  extra = None;
  yes = false;
  kids =
      roll-WhyNode (record {
        side = None;
        arrow = 1;
        extra = Some (El 0);
        yes = false;
        kids =
            roll-WhyNode (record { side = None; arrow = 1; extra = None; yes = true; kids = [] }) ∷ [];
      }) ∷ [];
})

three_nodes : count_nodes reason ≡ 3
unfolding reason
three_nodes = rw (nodes_of_root, nodes_of_root, nodes_of_root) refl

-- the graph has 8 cells, truth values 24, pairs 12, and the certificate 3 nodes
behind_question : Declared
unfolding behind_graph
behind_question = with_others (with_types behind_graph (question 0)) 3

types_counted : (n budget : ℕ) → 44 ≤ budget → IsCounted everything (asked n) budget behind_graph (question n)
unfolding opened behind_graph
types_counted n budget h = record { is_run = refl; accepted = refl; within = h }

question_answered : IsAnswered everything (asked 0) 47 behind_graph (question 0) (Reason reason) behind_question
unfolding opened behind_graph reason behind_question
question_answered = record {
  types = types_counted 0 47 (omega arith);
  goes_on = refl;
  answers = (refl, ap (λ n. with_others (with_types behind_graph (question 0)) n) (sym three_nodes));
  within = omega arith;
}

why_run : RunOf (asked 0) 47 (Quiet ∷ Reason reason ∷ []) (Whole 47)
unfolding opened behind_graph behind_question
why_run = site_accepted refl (answered (graph_answered 0 47 (omega arith)) (answered question_answered ended))

why_stopped : RunOf (asked 0) 46 (Quiet ∷ []) (Budget 4)
unfolding opened behind_graph reason behind_question
why_stopped =
    site_accepted refl (answered (graph_answered 0 46 (omega arith))
    (over (with_its_answer (Reason reason) behind_question (types_counted 0 46 (omega arith)) refl
    (refl, ap (λ n. with_others (with_types behind_graph (question 0)) n) (sym three_nodes)) (omega arith))))

-- there is one edge, and it has the number 0: this is refused behind the cells of the types, and stopped before it
no_such_edge : RunOf (asked 1) 44 (Quiet ∷ []) (Refused (Some 4) (NoTuple 1 1))
unfolding opened behind_graph
no_such_edge = site_accepted refl (answered (graph_answered 1 44 (omega arith)) (refused (late (types_counted 1 44 (omega arith)) refl)))

no_such_edge_stopped : RunOf (asked 1) 43 (Quiet ∷ []) (Budget 4)
unfolding opened behind_graph
no_such_edge_stopped = site_accepted refl (answered (graph_answered 1 43 (omega arith)) (over (with_its_types refl refl (omega arith))))

-- the only map from the graph to itself costs 1 and its 3 elements
abbrev listed : Doc
listed = record graphs { stmts = K ∷ Hom 0 0 ∷ [] }

identity : MapShape
identity = record { ends = record { dom = Base 0; cod = Base 0 }; stages = ((El 0, El 0) ∷ (El 1, El 1) ∷ []) ∷ ((El 0, El 0) ∷ []) ∷ [] }

graph_declared : IsAnswered everything listed 12 nothing K Quiet behind_graph
unfolding opened behind_graph
graph_declared = record {
  types = record { is_run = refl; accepted = refl; within = omega arith };
  goes_on = refl;
  answers = (refl, refl);
  within = omega arith;
}

maps_listed : IsAnswered everything listed 12 behind_graph (Hom 0 0) (Maps (identity ∷ [])) (with_others (with_types behind_graph (Hom 0 0)) 4)
unfolding opened behind_graph identity
maps_listed = record {
  types = record { is_run = refl; accepted = refl; within = omega arith };
  goes_on = refl;
  answers = (refl, refl);
  within = omega arith;
}

listed_run : RunOf listed 12 (Quiet ∷ Maps (identity ∷ []) ∷ []) (Whole 12)
unfolding opened behind_graph
listed_run = site_accepted refl (answered graph_declared (answered maps_listed ended))
