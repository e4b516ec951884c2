use Rattle.std.proofs.Common.{map}
use Rattle.topos_text.specs.Tokens.{token_of}
use Rattle.topos_text.specs.Views.{step_of}
use Rattle.topos_grammar.specs.Kinds.{Step}
use Rattle.topos_statements.proofs.Items.{phrase_read, phrase_shorter, step_starts}
use Rattle.topos_statements.proofs.step.StepTreeItem.read.Goals as goal

pub returns-clause-passes : goal.returns-clause-passes
returns-clause-passes c = phrase_read Step (λ x. step_of x.0) (λ x. map token_of x.1.now) (map token_of c.args.tokens.now) c.step.result c.step.ensures

pub returns-clause-shorter : goal.returns-clause-shorter
returns-clause-shorter c = phrase_shorter Step step_starts (λ x. step_of x.0) (λ x. x.1.now) c.args.tokens.now c.step.result c.step.ensures
