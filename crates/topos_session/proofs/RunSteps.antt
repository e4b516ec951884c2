-- A run goes on behind an answer, and ends at a refusal or behind the last statement.
use Rattle.std.proofs.Common.{◌≡◌, ℕ, ◌+◌, ◌≤◌, true, List, [], ◌∷◌, ◌++◌, length, drop, slice_get, Some, refl, sym, ◌∙◌, subst, add_assoc, add-one, add-zero, append_assoc, append-nil}
use Rattle.std.proofs.Math.Seq.{drop-cons}
use Rattle.std.proofs.lemmas.List.{drop_all}
use Rattle.std.proofs.lemmas.Option.{get_or_from_slice_get, slice_get_within}
use Rattle.topos_model.specs.declared.doc.Doc.{Doc}
use Rattle.topos_model.specs.declared.stmt.Stmt.{Stmt}
use Rattle.topos_model.specs.declared.answer.Answer.{Answer}
use Rattle.topos_model.specs.declared.answer.End.{End}
use Rattle.topos_model.specs.declared.answer.End.TheVariants.{Whole, Refused, Budget}
use Rattle.topos_model.specs.declared.fault.Fault.{Fault}
use Rattle.topos_model.specs.statements.Declarations.{cells_so_far}
use Rattle.topos_model.specs.statements.Run.{Runs, ended, refused, over, answered, site_accepted}
use Rattle.topos_session.specs.Built.{today}
use Rattle.topos_session.specs.StagedRun.{StagedRunOf, in_range}
use Rattle.topos_session.specs.declared.stop.Stop.TheVariants as Stop
use Rattle.topos_session.specs.Progress.{Progress}
use Rattle.topos_session.specs.Steps.{IsOpened, IsStep, IsStop}

-- the statements that are left, where one is next
next_of : (stmts : List Stmt) (i : ℕ) (stmt : Stmt) → slice_get stmts i ≡ Some stmt → drop i stmts ≡ stmt ∷ drop (i + 1) stmts
next_of stmts i stmt next =
    rw (add-one, drop-cons stmts i stmt (slice_get_within stmts i stmt next), get_or_from_slice_get stmts i stmt stmt next) refl

-- what the statements that are left of a session run to
abbrev pub runs_from : Progress → List Answer → End → Type 0
runs_from p later end = Runs today p.doc p.budget p.declared (p.doc.site_len + p.answered + 1) (drop p.answered p.doc.stmts) later end

-- answers of a document's first statements: whatever follows them completes its run
pub record HasAnswered (doc : Doc) (budget : ℕ) (answers : List Answer) (p : Progress) : Type 0 where
  pub same : p.doc ≡ doc
  pub budget_is : p.budget ≡ budget
  pub live : p.live ≡ true
  pub goes_on : (later : List Answer) (end : End) → runs_from p later end → StagedRunOf doc budget (answers ++ later) end

pub none_answered : (doc : Doc) (budget : ℕ) (p : Progress) → IsOpened doc budget p → HasAnswered doc budget [] p
none_answered doc budget p opened = subst (HasAnswered doc budget []) (sym opened.begins) (record {
  same = refl;
  budget_is = refl;
  live = refl;
  goes_on = λ later end runs. in_range opened.range (site_accepted opened.accepted (rw add-zero at runs));
})

pub one_answered : (doc : Doc) (budget : ℕ) (answers : List Answer) (p q : Progress) (answer : Answer) → HasAnswered doc budget answers p → IsStep p answer q →
    HasAnswered doc budget (answers ++ answer ∷ []) q
one_answered doc budget answers p q answer before step = record {
  same = step.moved.0 ∙ before.same;
  budget_is = step.moved.1 ∙ before.budget_is;
  live = step.moved.3;
  goes_on = λ later end runs.
      rw append_assoc (before.goes_on (answer ∷ later) end
      (rw (next_of p.doc.stmts p.answered step.stmt step.next)
      (answered step.answers
      (rw (step.moved.0, step.moved.1, step.moved.2, ← add_assoc p.doc.site_len p.answered 1) at runs))));
}

whole_end : (p : Progress) → Runs today p.doc p.budget p.declared (p.doc.site_len + p.answered + 1) [] [] (Whole (cells_so_far p.doc p.declared))
whole_end p = ended

-- a run to its end, of the document that is handed back
ended_by : (doc back : Doc) (budget : ℕ) (answers : List Answer) (end : End) → back ≡ doc → StagedRunOf doc budget (answers ++ []) end → StagedRunOf back budget answers end
ended_by doc back budget answers end is whole =
    subst (λ (d : Doc). StagedRunOf d budget answers end) (sym is) (subst (λ (l : List Answer). StagedRunOf doc budget l end) (append-nil answers) whole)

-- all statements are answered
pub all_answered : (doc back : Doc) (budget : ℕ) (answers : List Answer) (p : Progress) (cells : ℕ) → HasAnswered doc budget answers p → length p.doc.stmts ≤ p.answered → back ≡ p.doc → cells ≡ cells_so_far p.doc p.declared →
    StagedRunOf back budget answers (Whole cells)
all_answered doc back budget answers p cells before done is all =
    ended_by doc back budget answers (Whole cells) (is ∙ before.same) (before.goes_on [] (Whole cells) (rw (drop_all p.answered p.doc.stmts done, all) (whole_end p)))

-- the next statement is refused
pub refused_next : (doc back : Doc) (budget : ℕ) (answers : List Answer) (p : Progress) (number : ℕ) (fault : Fault) → HasAnswered doc budget answers p → IsStop p (Stop.Refused fault) →
    number ≡ p.doc.site_len + p.answered + 1 → back ≡ p.doc → StagedRunOf back budget answers (Refused (Some number) fault)
refused_next doc back budget answers p number fault before stop at is =
    ended_by doc back budget answers (Refused (Some number) fault) (is ∙ before.same)
    (before.goes_on [] (Refused (Some number) fault) (rw (next_of p.doc.stmts p.answered stop.stmt stop.next, at) (refused stop.refused)))

-- the next statement is over the budget
pub over_next : (doc back : Doc) (budget : ℕ) (answers : List Answer) (p : Progress) (number : ℕ) → HasAnswered doc budget answers p → IsStop p Stop.Budget →
    number ≡ p.doc.site_len + p.answered + 1 → back ≡ p.doc → StagedRunOf back budget answers (Budget number)
over_next doc back budget answers p number before stop at is =
    ended_by doc back budget answers (Budget number) (is ∙ before.same)
    (before.goes_on [] (Budget number) (rw (next_of p.doc.stmts p.answered stop.stmt stop.next, at) (over stop.refused)))
