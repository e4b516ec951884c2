-- The nodes of a certificate are its root and those of its children.
use Rattle.std.specs.Prelude.{◌≡◌, ℕ, ◌+◌, map, sum}
use Rattle.topos_model.specs.declared.answer.WhyNode.{WhyNode, WhyNode-F, roll-WhyNode, fold-roll-WhyNode}
use Rattle.topos_model.specs.certificates.FirstCertificate.{count_nodes}

pub nodes_of_root : (n : WhyNode-F WhyNode) → count_nodes (roll-WhyNode n) ≡ 1 + sum (map count_nodes n.kids)
unfolding count_nodes
nodes_of_root n = fold-roll-WhyNode ℕ (λ node. 1 + sum node.kids) n
