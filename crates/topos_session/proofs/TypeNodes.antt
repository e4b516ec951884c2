-- The nodes of a type, a form of type at a time.
use Rattle.topos_model.proofs.Nodes.{nodes-Base, nodes-One, nodes-Omega, nodes-Two, nodes-Pow, nodes-Fun}

pub ruleset node_rules = (nodes-Base, nodes-One, nodes-Omega, nodes-Two, nodes-Pow, nodes-Fun)
