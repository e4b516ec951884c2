use Rattle.std.proofs.Common.{reverse, ◌∙◌}
use Rattle.std.proofs.lemmas.Result.{IfOk-weaker}
use Rattle.formula_answers.specs.Formulas.{world_of}
use Rattle.formula_answers.proofs.KeptAnswers.{unforced_kept}
use Rattle.formula_answers.proofs.answers.unforced.Goals as goal

pub returns : goal.returns
returns c = record { stages = IfOk-weaker c.tuples_where.result _ _ (λ stages is. is ∙ unforced_kept (world_of c.args.world.now c.args.maps.now) (reverse c.args.types.now) c.args.formula.now) c.tuples_where.ensures }
