use Rattle.std.proofs.Common.{map}
use Rattle.topos_text.specs.Tokens.{token_of}
use Rattle.topos_text.specs.Views.{binding_of}
use Rattle.topos_statements.proofs.Items.{binding_read}
use Rattle.topos_statements.proofs.names.BindingItem.read.Goals as goal

pub returns-clause-passes : goal.returns-clause-passes
returns-clause-passes c = binding_read (λ x. binding_of x.0) (λ x. map token_of x.1.now) (map token_of c.args.tokens.now) c.bind.result c.bind.ensures
