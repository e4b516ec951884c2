-- The report of a run.
use Rattle.std.specs.Prelude.{ℕ, ◌+◌, List, [], ◌∷◌, ◌++◌, length, codes, decimal, flat_map}
use Rattle.std.specs.List.{range_with_len}
use Rattle.topos_model.specs.declared.answer.Answer.{Answer}
use Rattle.topos_model.specs.declared.answer.Answer.TheVariants.{Quiet, Built, Shown, Classified, Verdict, Sheaf, NotSheaf, Maps}
use Rattle.topos_model.specs.declared.answer.End.{End}
use Rattle.topos_model.specs.declared.answer.End.TheVariants.{Whole, Refused, Budget}
use Rattle.topos_model.specs.declared.stmt.Stmt.{Stmt}
use Rattle.topos_model.specs.declared.doc.Doc.{Doc}
use Rattle.topos_report.specs.Stages.{tuples_list}
use Rattle.topos_report.specs.AnswerLines.{heading, verdict_lines, classified_at, failing_family, built_lines, listed_map_lines}
use Rattle.topos_report.specs.Refusals.{refusal_line}

-- how many cells there are
unfoldable pub cells_line : ℕ → List ℕ
cells_line cells = codes "cells " ++ decimal cells ++ codes "\n"

module _ (doc : Doc) where
  -- the lines of the answer to a statement, its number being k; those that no statement gives yet have none
  unfoldable pub answer_lines : ℕ → Stmt → Answer → List ℕ
  answer_lines k stmt Quiet = []
  answer_lines k stmt (Built shape maps) = built_lines doc k stmt shape maps
  answer_lines k stmt (Shown ctx stages) = decimal k ++ codes " show\n" ++ tuples_list doc ctx.types stages
  answer_lines k stmt (Classified ctx stages) = heading k (codes "classify") ++ flat_map (classified_at doc ctx.types stages) (range_with_len 0 doc.cat.objects)
  answer_lines k stmt (Verdict ctx stages) = verdict_lines doc k ctx.types stages
  answer_lines k stmt Sheaf = heading k (codes "sheaf")
  answer_lines k stmt (NotSheaf functor c cover family found) = heading k (codes "not a sheaf") ++ failing_family doc functor c cover family found
  answer_lines k stmt (Maps maps) = heading k (codes "hom " ++ decimal (length maps)) ++ flat_map (listed_map_lines doc maps) (range_with_len 0 (length maps))
  answer_lines k stmt _ = []

  -- of the answers to these statements, the first having the number k
  unfoldable pub lines_from : ℕ → List Stmt → List Answer → List ℕ
  lines_from k (stmt ∷ later) (answer ∷ rest) = answer_lines k stmt answer ++ lines_from (k + 1) later rest
  lines_from k _ _ = []

  -- a whole run ends with the number of its cells
  unfoldable pub end_line : End → List ℕ
  end_line (Whole cells) = cells_line cells
  end_line (Refused at fault) = refusal_line doc at fault
  end_line (Budget k) = heading k (codes "budget")
  end_line _ = []

  -- the answers are those to the first statements after the site
  unfoldable pub report : List Answer → End → List ℕ
  report answers end = lines_from (doc.site_len + 1) doc.stmts answers ++ end_line end
