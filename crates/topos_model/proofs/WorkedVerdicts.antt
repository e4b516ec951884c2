-- Worked examples, by computation: runs with verdicts, certificates and topologies of their own.
use Rattle.std.proofs.Common.{◌≡◌, ℕ, true, false, List, [], ◌∷◌, Some, None, refl, arith}
use Rattle.std.specs.Prelude.{codes}
use denote.Hole.Carrier
use Rattle.topos_model.specs.declared.ty.Ty.{Base, Omega}
use Rattle.topos_model.specs.declared.term.Term.{Term, Var, Eq, Or, Not, Forall, Exists}
use Rattle.topos_model.specs.declared.value.Val.{El}
use Rattle.topos_model.specs.declared.stmt.Stmt.{Stmt}
use Rattle.topos_model.specs.declared.stmt.Stmt.TheVariants.{Presheaf, Valid, Why, Sheaf, Hom}
use Rattle.topos_model.specs.declared.doc.Doc.{Doc}
use Rattle.topos_model.specs.declared.raw.RawFunctor.{RawFunctor}
use Rattle.topos_model.specs.declared.answer.Answer.{Answer}
use Rattle.topos_model.specs.declared.answer.Answer.TheVariants.{Quiet, Verdict, NotSheaf, Why as Reason}
use Rattle.topos_model.specs.declared.answer.End.TheVariants.{Whole, Refused, Budget}
use Rattle.topos_model.specs.declared.fault.Fault.TheVariants.{NoTuple, NotStable}
use Rattle.topos_model.specs.categories.Filling.{filled_presheaf}
use Rattle.topos_model.specs.statements.Declarations.{Declared, nothing, with_functor, with_types, with_others, category_of}
use Rattle.topos_model.specs.statements.Run.{everything, IsAnswered, with_its_types, with_its_answer, late, ended, refused, over, answered, site_refused, site_accepted, RunOf}
use Rattle.topos_model.proofs.WorkedRuns.{opened, graphs}

-- every truth value or its negation
abbrev excluded : Term
excluded = Forall Omega (Or (Var 0) (Not (Var 0)))

abbrev undecided : Stmt
undecided = Valid 0 (record { types = [] }) excluded

-- it is not forced at the edges
abbrev not_at_edges : Answer
not_at_edges = Verdict (record { types = [] }) ([] ∷ (record { vals = [] } ∷ []) ∷ [])

abbrev excluded_middle : Doc
excluded_middle = record graphs { stmts = undecided ∷ [] }

-- truth values have 24 cells, and the empty context 6
undecided_answered : IsAnswered everything excluded_middle 30 nothing undecided not_at_edges (with_types nothing undecided)
unfolding opened
undecided_answered = record {
  types = record { is_run = refl; accepted = refl; within = omega arith };
  goes_on = refl;
  answers = (refl, refl);
  within = omega arith;
}

excluded_middle_run : RunOf excluded_middle 30 (not_at_edges ∷ []) (Whole 30)
unfolding opened
excluded_middle_run = site_accepted refl (answered undecided_answered ended)

excluded_middle_stopped : RunOf excluded_middle 29 [] (Budget 3)
unfolding opened
excluded_middle_stopped = site_accepted refl (over (with_its_types refl refl (omega arith)))

-- the same under the dense topology of version 2, where it is forced: cells are counted for each topology
abbrev dense_too : Doc
dense_too = record graphs {
  version = 2;
  tops = record { name = None; dense = false; covers = [] } ∷ record { name = Some (codes "D"); dense = true; covers = [] } ∷ [];
  site_len = 4;
  stmts = undecided ∷ Valid 1 (record { types = [] }) excluded ∷ [];
}

abbrev decided : Stmt
decided = Valid 1 (record { types = [] }) excluded

abbrev forced : Answer
forced = Verdict (record { types = [] }) ([] ∷ [] ∷ [])

undecided_first : IsAnswered everything dense_too 56 nothing undecided not_at_edges (with_types nothing undecided)
unfolding opened
undecided_first = record {
  types = record { is_run = refl; accepted = refl; within = omega arith };
  goes_on = refl;
  answers = (refl, refl);
  within = omega arith;
}

decided_then : IsAnswered everything dense_too 56 (with_types nothing undecided) decided forced (with_types (with_types nothing undecided) decided)
unfolding opened
decided_then = record {
  types = record { is_run = refl; accepted = refl; within = omega arith };
  goes_on = refl;
  answers = (refl, refl);
  within = omega arith;
}

dense_too_run : RunOf dense_too 56 (not_at_edges ∷ forced ∷ []) (Whole 56)
unfolding opened
dense_too_run = site_accepted refl (answered undecided_first (answered decided_then ended))

-- an edge that the empty family covers: not so its ends
abbrev unstable : Doc
unstable = record graphs {
  version = 2;
  tops = record { name = None; dense = false; covers = [] } ∷ record { name = Some (codes "J"); dense = false; covers = record { at = 1; arrows = [] } ∷ [] } ∷ [];
}

unstable_refused : RunOf unstable 30 [] (Refused None (NotStable 1 1 [] 2))
unfolding opened
unstable_refused = site_refused refl
