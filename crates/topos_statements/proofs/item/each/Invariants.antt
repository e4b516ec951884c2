use Rattle.std.proofs.Common.{map, length}
use Rattle.topos_text.specs.Tokens.{token_of}
use Rattle.topos_statements.proofs.Lists.{Each}
use Rattle.topos_statements.proofs.item.each.Given as goal

abbrev pub invariant-loop-alloc : goal.invariant-loop-alloc
invariant-loop-alloc g l = Each g.T.Item.sort g.T.Listed.class g.T.Item.passage (map token_of l.tokens) (map g.T.Item.tree l.items.items) (map token_of l.rest)

abbrev pub decreases-loop-alloc : goal.decreases-loop-alloc
decreases-loop-alloc g l = length l.rest
