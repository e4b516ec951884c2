use Rattle.std.proofs.Common.{map}
use Rattle.topos_text.specs.Tokens.{token_of}
use Rattle.topos_text.specs.Views.{topology_of}
use Rattle.topos_grammar.specs.Kinds.{Topology}
use Rattle.topos_statements.proofs.Items.{phrase_read, phrase_shorter, topology_starts}
use Rattle.topos_statements.proofs.site.TopologyTreeItem.read.Goals as goal

pub returns-clause-passes : goal.returns-clause-passes
returns-clause-passes c = phrase_read Topology (λ x. topology_of x.0) (λ x. map token_of x.1.now) (map token_of c.args.tokens.now) c.topology.result c.topology.ensures

pub returns-clause-shorter : goal.returns-clause-shorter
returns-clause-shorter c = phrase_shorter Topology topology_starts (λ x. topology_of x.0) (λ x. x.1.now) c.args.tokens.now c.topology.result c.topology.ensures
