use Rattle.std.proofs.Common.{map}
use Rattle.topos_text.specs.Tokens.{token_of, written}
use Rattle.topos_statements.proofs.Items.{name_read}
use Rattle.topos_statements.proofs.names.WrittenItem.read.Goals as goal

pub returns-clause-passes : goal.returns-clause-passes
returns-clause-passes c = name_read (λ x. written x.0) (λ x. map token_of x.1.now) (map token_of c.args.tokens.now) c.expect_name.result c.expect_name.ensures
