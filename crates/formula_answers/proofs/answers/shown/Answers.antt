use Rattle.std.proofs.Common.{reverse, ◌∙◌}
use Rattle.std.proofs.lemmas.Result.{IfOk-weaker}
use Rattle.formula_answers.specs.Formulas.{world_of}
use Rattle.formula_answers.proofs.KeptAnswers.{shown_kept}
use Rattle.formula_answers.proofs.answers.shown.Goals as goal

pub returns : goal.returns
returns c = record { stages = IfOk-weaker c.tuples_where.result _ _ (λ stages is. is ∙ shown_kept (world_of c.args.world.now c.args.maps.now) (reverse c.args.types.now) c.args.formula.now) c.tuples_where.ensures }
