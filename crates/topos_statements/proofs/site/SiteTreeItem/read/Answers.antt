use Rattle.std.proofs.Common.{map}
use Rattle.topos_text.specs.Tokens.{token_of}
use Rattle.topos_text.specs.Views.{site_of}
use Rattle.topos_grammar.specs.Kinds.{SiteStatement}
use Rattle.topos_statements.proofs.Items.{phrase_read, phrase_shorter, site_starts}
use Rattle.topos_statements.proofs.site.SiteTreeItem.read.Goals as goal

pub returns-clause-passes : goal.returns-clause-passes
returns-clause-passes c = phrase_read SiteStatement (λ x. site_of x.0) (λ x. map token_of x.1.now) (map token_of c.args.tokens.now) c.site_statement.result c.site_statement.ensures

pub returns-clause-shorter : goal.returns-clause-shorter
returns-clause-shorter c = phrase_shorter SiteStatement site_starts (λ x. site_of x.0) (λ x. x.1.now) c.args.tokens.now c.site_statement.result c.site_statement.ensures
