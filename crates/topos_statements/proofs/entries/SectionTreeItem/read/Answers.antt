use Rattle.std.proofs.Common.{map}
use Rattle.topos_text.specs.Tokens.{token_of}
use Rattle.topos_text.specs.Views.{section_of}
use Rattle.topos_grammar.specs.Kinds.{Section}
use Rattle.topos_statements.proofs.Items.{phrase_read, phrase_shorter, section_starts}
use Rattle.topos_statements.proofs.entries.SectionTreeItem.read.Goals as goal

pub returns-clause-passes : goal.returns-clause-passes
returns-clause-passes c = phrase_read Section (λ x. section_of x.0) (λ x. map token_of x.1.now) (map token_of c.args.tokens.now) c.section.result c.section.ensures

pub returns-clause-shorter : goal.returns-clause-shorter
returns-clause-shorter c = phrase_shorter Section section_starts (λ x. section_of x.0) (λ x. x.1.now) c.args.tokens.now c.section.result c.section.ensures
