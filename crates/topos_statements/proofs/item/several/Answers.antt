use Rattle.std.proofs.Common.{arith, map}
use Rattle.std.proofs.lemmas.List.{map_push}
use Rattle.std.proofs.lemmas.Result.{err_from_is_err_and}
use Rattle.topos_text.specs.Tokens.{token_of}
use Rattle.topos_statements.proofs.Lists.{first_item, no_first_item, next_item, no_next_item, last_item, behind_shorter}
use Rattle.topos_statements.proofs.item.several.Goals as goal

pub returns-in_err-first-clause-passes : goal.returns-in_err-first-clause-passes
returns-in_err-first-clause-passes g c =
    let p = err_from_is_err_and c.from_residual.result c.from_residual.ensures.1 in
    rw (p.1, p.2) (no_first_item g.T.Item.sort g.T.Item.passage (map token_of c.args.tokens.now) c.in_err-first.field-0.0 c.in_err-first.ensures.passes)

pub loop-behind-init : goal.loop-behind-init
loop-behind-init g c = record {
  grown = rw (c.in_ok-push.ensures.items, c.new-items.ensures.items) (first_item g.T.Item.sort g.T.Item.passage (map token_of c.args.tokens.now) (map token_of c.in_ok-first.rest.now) (g.T.Item.tree c.in_ok-first.first) c.in_ok-first.ensures.passes);
  shorter = c.in_ok-first.ensures.shorter;
}

pub returns-in_err-next-clause-passes : goal.returns-in_err-next-clause-passes
returns-in_err-next-clause-passes g c =
    let p = err_from_is_err_and c.from_residual-in_err-next.result c.from_residual-in_err-next.ensures.1 in
    rw (p.1, p.2) (no_next_item g.T.Item.sort g.T.Item.passage (map token_of c.args.tokens.now) (map token_of c.loop-behind.rest.now) (map token_of c.in-Some.behind.now) (map g.T.Item.tree c.loop-behind.items.items) c.in_err-next.field-0.0 c.loop-behind.invariant.grown c.in-Some.ensures c.in_err-next.ensures.passes)

pub loop-behind-smaller : goal.loop-behind-smaller
loop-behind-smaller g c = omega (arith, behind_shorter c.loop-behind.rest.now c.in-Some.behind.now _ c.in-Some.ensures, c.in_ok-next.ensures.shorter)

pub loop-behind-preserved : goal.loop-behind-preserved
loop-behind-preserved g c = record {
  grown = rw (c.in_ok-push-2.ensures.items, map_push g.T.Item.tree c.loop-behind.items.items c.in_ok-next.next)
      (next_item g.T.Item.sort g.T.Item.passage (map token_of c.args.tokens.now) (map token_of c.loop-behind.rest.now) (map token_of c.in-Some.behind.now) (map token_of c.in_ok-next.after.now) (map g.T.Item.tree c.loop-behind.items.items) (g.T.Item.tree c.in_ok-next.next) c.loop-behind.invariant.grown c.in-Some.ensures c.in_ok-next.ensures.passes);
  shorter = omega (arith, behind_shorter c.loop-behind.rest.now c.in-Some.behind.now _ c.in-Some.ensures, c.in_ok-next.ensures.shorter, c.loop-behind.invariant.shorter);
}

pub returns-clause-passes : goal.returns-clause-passes
returns-clause-passes g c = last_item g.T.Item.sort g.T.Item.passage (map token_of c.args.tokens.now) (map token_of c.loop-behind.rest.now) (map g.T.Item.tree c.loop-behind.items.items) c.loop-behind.invariant.grown c.in_default.ensures

pub returns-clause-shorter : goal.returns-clause-shorter
returns-clause-shorter g c = c.loop-behind.invariant.shorter
