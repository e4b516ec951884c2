use Rattle.std.proofs.Common.{◌<◌, map, length}
use Rattle.topos_text.specs.Tokens.{token_of}
use Rattle.topos_statements.proofs.Lists.{Several}
use Rattle.topos_statements.proofs.item.several.Given as goal

abbrev pub invariant-loop-behind : goal.invariant-loop-behind
invariant-loop-behind g l = record {
  grown : Several g.T.Item.sort g.T.Item.passage (map token_of l.tokens) (map g.T.Item.tree l.items.items) (map token_of l.rest);
  shorter : length l.rest < length l.tokens;
}

abbrev pub decreases-loop-behind : goal.decreases-loop-behind
decreases-loop-behind g l = length l.rest
