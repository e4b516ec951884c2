use Rattle.std.proofs.Common.{◌+◌, ◌++◌, ◌∷◌, [], map, sym, ap, ◌∙◌, arith, append_assoc}
use Rattle.std.specs.List.{range_with_len}
use Rattle.std.proofs.lemmas.List.FromFn.{map-range_with_len_more}
use Rattle.power_objects.proofs.under.push_numbers.Goals as goal

pub loop-w-preserved : goal.loop-w-preserved
loop-w-preserved c =
    let w = c.loop-w.w in
    c.in_ok-push.ensures.ok ∙ ap (λ l. l ++ (c.args.start + w) ∷ []) c.loop-w.invariant ∙ append_assoc c.args.out.now (map (λ w. c.args.start + w) (range_with_len 0 w)) ((c.args.start + w) ∷ [])
    ∙ ap (λ l. c.args.out.now ++ l) (sym (map-range_with_len_more (λ w. c.args.start + w) 0 w w (omega arith)))
