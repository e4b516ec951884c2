use Rattle.std.proofs.Common.{map}
use Rattle.topos_text.specs.Tokens.{token_of}
use Rattle.topos_text.specs.Views.{place_of}
use Rattle.topos_statements.proofs.Items.{place_read}
use Rattle.topos_statements.proofs.names.PlaceTreeItem.read.Goals as goal

pub returns-clause-passes : goal.returns-clause-passes
returns-clause-passes c = place_read (λ x. place_of x.0) (λ x. map token_of x.1.now) (map token_of c.args.tokens.now) c.expect_place.result c.expect_place.ensures
