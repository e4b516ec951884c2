use Rattle.std.proofs.Common.{arith, map}
use Rattle.std.proofs.lemmas.List.{map_push}
use Rattle.std.proofs.lemmas.Result.{err_from_is_err_and}
use Rattle.topos_text.specs.Tokens.{token_of}
use Rattle.topos_statements.proofs.Lists.{no_item_yet, item_read, item_halts, item_unclosed, items_end, behind_shorter}
use Rattle.topos_statements.proofs.item.each.Goals as goal

pub loop-alloc-init : goal.loop-alloc-init
loop-alloc-init g c = rw (c.new-items.ensures.items, c.split_at.ensures.back) (no_item_yet g.T.Item.sort g.T.Listed.class g.T.Item.passage (map token_of c.args.tokens.now))

pub returns-in_err-item : goal.returns-in_err-item
returns-in_err-item g c =
    let p = err_from_is_err_and c.from_residual.result c.from_residual.ensures.1 in
    rw (p.1, p.2) (item_halts g.T.Item.sort g.T.Listed.class g.T.Item.passage (map token_of c.args.tokens.now) (map token_of c.loop-alloc.rest.now) (map g.T.Item.tree c.loop-alloc.items.items) c.in_err-item.field-0.0 c.loop-alloc.invariant c.loop-alloc-test.ensures c.in_err-item.ensures.passes)

pub returns-in_err-after : goal.returns-in_err-after
returns-in_err-after g c =
    let p = err_from_is_err_and c.from_residual-in_err-after.result c.from_residual-in_err-after.ensures.1 in
    rw (p.1, p.2) (item_unclosed g.T.Item.sort g.T.Listed.class g.T.Item.passage (map token_of c.args.tokens.now) (map token_of c.loop-alloc.rest.now) (map token_of c.in_ok-item.behind.now) (map g.T.Item.tree c.loop-alloc.items.items) (g.T.Item.tree c.in_ok-item.item) c.in_err-after.field-0.0 c.loop-alloc.invariant c.loop-alloc-test.ensures c.in_ok-item.ensures.passes c.in_err-after.ensures)

pub loop-alloc-smaller : goal.loop-alloc-smaller
loop-alloc-smaller g c = omega (arith, behind_shorter c.in_ok-item.behind.now c.in_ok-after.after.now _ c.in_ok-after.ensures, c.in_ok-item.ensures.shorter)

pub loop-alloc-preserved : goal.loop-alloc-preserved
loop-alloc-preserved g c = rw (c.in_ok-push.ensures.items, map_push g.T.Item.tree c.loop-alloc.items.items c.in_ok-item.item)
    (item_read g.T.Item.sort g.T.Listed.class g.T.Item.passage (map token_of c.args.tokens.now) (map token_of c.loop-alloc.rest.now) (map token_of c.in_ok-item.behind.now) (map token_of c.in_ok-after.after.now) (map g.T.Item.tree c.loop-alloc.items.items) (g.T.Item.tree c.in_ok-item.item) c.loop-alloc.invariant c.loop-alloc-test.ensures c.in_ok-item.ensures.passes c.in_ok-after.ensures)

pub returns : goal.returns
returns g c = items_end g.T.Item.sort g.T.Listed.class g.T.Item.passage (map token_of c.args.tokens.now) (map token_of c.loop-alloc.rest.now) (map g.T.Item.tree c.loop-alloc.items.items) c.loop-alloc.invariant c.loop-alloc-test.ensures
