use Rattle.std.proofs.Common.{◌+◌, ◌<◌, ℕ, List, [], ◌∷◌, ◌++◌, length, get_or, take, drop, sym, ap, ◌∙◌, arith}
use Rattle.std.proofs.lemmas.List.{take_more, get_or-drop, length-drop}
use Rattle.natural_maps.proofs.listing.piece.Goals as goal

pub loop-x-preserved : goal.loop-x-preserved
loop-x-preserved c =
    let rest = drop c.args.start c.args.values.now in
    let low : c.loop-x.x < length rest = omega (arith, c.requires, length-drop c.args.start c.args.values.now) in
    c.in_ok-push.ensures.ok ∙ ap (λ (l : List ℕ). l ++ get_or c.args.values.now (c.args.start + c.loop-x.x) 0 ∷ []) c.loop-x.invariant
    ∙ ap (λ v. take c.loop-x.x rest ++ v ∷ []) (sym (get_or-drop c.args.start c.args.values.now c.loop-x.x 0)) ∙ sym (take_more rest c.loop-x.x 0 low)
