use Rattle.std.proofs.Common.{map}
use Rattle.topos_text.specs.Tokens.{token_of}
use Rattle.topos_text.specs.Views.{arrow_of}
use Rattle.topos_grammar.specs.Kinds.{ArrowName}
use Rattle.topos_statements.proofs.Items.{phrase_read, phrase_shorter, arrow_starts}
use Rattle.topos_statements.proofs.site.ArrowTreeItem.read.Goals as goal

pub returns-clause-passes : goal.returns-clause-passes
returns-clause-passes c = phrase_read ArrowName (λ x. arrow_of x.0) (λ x. map token_of x.1.now) (map token_of c.args.tokens.now) c.arrow_name.result c.arrow_name.ensures

pub returns-clause-shorter : goal.returns-clause-shorter
returns-clause-shorter c = phrase_shorter ArrowName arrow_starts (λ x. arrow_of x.0) (λ x. x.1.now) c.args.tokens.now c.arrow_name.result c.arrow_name.ensures
