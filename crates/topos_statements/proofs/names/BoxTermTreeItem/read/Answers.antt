use Rattle.std.proofs.Common.{map}
use Rattle.topos_text.specs.Tokens.{token_of}
use Rattle.topos_text.specs.Views.{term_of}
use Rattle.topos_grammar.specs.Kinds.{AnyTerm}
use Rattle.topos_statements.proofs.Items.{kind_read}
use Rattle.topos_statements.proofs.names.BoxTermTreeItem.read.Goals as goal

pub returns-clause-passes : goal.returns-clause-passes
returns-clause-passes c = kind_read AnyTerm (λ x. term_of x.0.value) (λ x. map token_of x.1.now) (map token_of c.args.tokens.now) c.any_term.result c.any_term.ensures
