use Rattle.topos_text.specs.Views.{entry_of}
use Rattle.topos_grammar.specs.Codes.{entry}
use Rattle.topos_grammar.specs.Kinds.{OfEntry}
use Rattle.topos_statements.proofs.Items.{passage_shorter, entry_starts}
use Rattle.topos_statements.proofs.entries.EntryTreeItem.read.Goals as goal

pub returns-clause-shorter : goal.returns-clause-shorter
returns-clause-shorter c = passage_shorter OfEntry (λ s k. entry k) entry_starts (λ x. entry_of x.0) (λ x. x.1.now) c.args.tokens.now c.entry.result c.entry.ensures
