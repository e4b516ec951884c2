use Rattle.std.proofs.Common.{◌∷◌, ◌++◌, [], sym, ap, ◌∙◌, arith}
use Rattle.std.proofs.lemmas.List.FromFn.{map-range_with_len_more}
use Rattle.place_closures.specs.Pairs.{moved}
use Rattle.place_closures.proofs.tables.moved_rows.Goals as goal

pub loop-w-preserved : goal.loop-w-preserved
loop-w-preserved g c =
    let row = moved c.args.cat.now (g.X.Elements.size c.args.x.now) (g.X.Elements.restriction c.args.x.now) c.args.c c.args.f c.args.gs.now in
    c.in_ok-push.ensures.ok ∙ ap (λ r. c.loop-w.rows ++ r ∷ []) c.in_ok-moved_row.ensures ∙ ap (λ l. l ++ row c.loop-w.w ∷ []) c.loop-w.invariant
    ∙ sym (map-range_with_len_more row 0 c.loop-w.w c.loop-w.w (omega arith))
