use Rattle.std.proofs.Common.{map}
use Rattle.topos_text.specs.Tokens.{token_of}
use Rattle.topos_text.specs.Views.{cover_of}
use Rattle.topos_grammar.specs.Kinds.{Cover}
use Rattle.topos_statements.proofs.Items.{phrase_read, phrase_shorter, cover_starts}
use Rattle.topos_statements.proofs.site.CoverTreeItem.read.Goals as goal

pub returns-clause-passes : goal.returns-clause-passes
returns-clause-passes c = phrase_read Cover (λ x. cover_of x.0) (λ x. map token_of x.1.now) (map token_of c.args.tokens.now) c.cover.result c.cover.ensures

pub returns-clause-shorter : goal.returns-clause-shorter
returns-clause-shorter c = phrase_shorter Cover cover_starts (λ x. cover_of x.0) (λ x. x.1.now) c.args.tokens.now c.cover.result c.cover.ensures
