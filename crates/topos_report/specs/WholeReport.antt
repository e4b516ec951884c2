-- The report of a run, and the lines of a check.
use Rattle.std.specs.Prelude.{ℕ, ◌+◌, List, [], ◌∷◌, ◌++◌, codes, decimal}
use Rattle.topos_model.specs.declared.doc.Doc.{Doc}
use Rattle.topos_model.specs.declared.stmt.Stmt.{Stmt}
use Rattle.topos_model.specs.declared.answer.Answer.{Answer}
use Rattle.topos_model.specs.declared.answer.End.{End}
use Rattle.topos_model.specs.declared.answer.End.TheVariants.{Whole, Checked, Refused, Budget}
use Rattle.topos_report.specs.FaultTexts.{fault_line}
use Rattle.topos_report.specs.AnswerLines.{heading, answer_text}
use Rattle.topos_report.specs.Report.{cells_line}

module _ (doc : Doc) where
  -- the answers to these statements, the first having the number k
  unfoldable pub texts_from : ℕ → List Stmt → List Answer → List ℕ
  texts_from k (stmt ∷ rest) (answer ∷ later) = answer_text doc k stmt answer ++ texts_from (k + 1) rest later
  texts_from k _ _ = []

  unfoldable pub ending : End → List ℕ
  ending (Whole cells) = cells_line cells
  ending (Checked statements cells) = codes "checked " ++ decimal statements ++ codes "\n" ++ cells_line cells
  ending (Refused at fault) = fault_line doc at fault
  ending (Budget k) = heading k (codes "budget")

  -- the answers are those to the first statements after the site
  unfoldable pub whole_report : List Answer → End → List ℕ
  whole_report answers end = texts_from (doc.site_len + 1) doc.stmts answers ++ ending end
