use Rattle.topos_text.specs.Views.{mapping_of}
use Rattle.topos_grammar.specs.Codes.{mapping}
use Rattle.topos_grammar.specs.Kinds.{OfMapping}
use Rattle.topos_statements.proofs.Items.{passage_shorter, mapping_starts}
use Rattle.topos_statements.proofs.entries.MappingTreeItem.read.Goals as goal

pub returns-clause-shorter : goal.returns-clause-shorter
returns-clause-shorter c = passage_shorter OfMapping (λ s k. mapping k) mapping_starts (λ x. mapping_of x.0) (λ x. x.1.now) c.args.tokens.now c.mapping.result c.mapping.ensures
