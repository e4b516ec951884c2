use Rattle.std.proofs.Common.{map}
use Rattle.topos_text.specs.Tokens.{token_of}
use Rattle.topos_text.specs.Views.{map_at_of}
use Rattle.topos_grammar.specs.Kinds.{MapAt}
use Rattle.topos_statements.proofs.Items.{phrase_read, phrase_shorter, map_at_starts}
use Rattle.topos_statements.proofs.entries.MapAtTreeItem.read.Goals as goal

pub returns-clause-passes : goal.returns-clause-passes
returns-clause-passes c = phrase_read MapAt (λ x. map_at_of x.0) (λ x. map token_of x.1.now) (map token_of c.args.tokens.now) c.map_at.result c.map_at.ensures

pub returns-clause-shorter : goal.returns-clause-shorter
returns-clause-shorter c = phrase_shorter MapAt map_at_starts (λ x. map_at_of x.0) (λ x. x.1.now) c.args.tokens.now c.map_at.result c.map_at.ensures
