use Rattle.std.proofs.Common.{ap, ◌∙◌, get_or, arith}
use Rattle.std.proofs.lemmas.List.{get_or_default}
use Rattle.topos_model.specs.declared.value.Val.{Val, El, Star}
use Rattle.topos_session.proofs.ShownFunctors.{next_pair, all_with_numbers}
use Rattle.topos_session.proofs.shapes.with_numbers.Goals as goal

pub loop-n-preserved : goal.loop-n-preserved
loop-n-preserved c =
    let values = c.args.values.now in
    let n = c.loop-n.n in
    c.in_ok-push.ensures.ok
    ∙ next_pair (λ m. (get_or values m Star, El m)) n c.loop-n.pairs _ (ap (λ (v : Val). (v, El n)) (c.in_ok-copy.ensures ∙ c.index-values-n.is ∙ get_or_default values n _ Star (omega (arith, c.requires)))) c.loop-n.invariant

pub returns : goal.returns
returns c = all_with_numbers c.args.values.now c.loop-n.n c.loop-n.pairs (omega (arith, c.requires)) c.loop-n.invariant
