use Rattle.std.proofs.Common.{◌<◌, sym, subst, ◌∙◌}
use Rattle.element_values.proofs.Parts.{sealed_count}
use Rattle.element_values.proofs.sealed.count.Goals as goal

pub count-requires-clause-object : goal.count-requires-clause-object
count-requires-clause-object c = let (functors, know) = c.requires.known in subst (λ n. c.args.c < n) (sym know.objects) c.requires.object

pub returns : goal.returns
returns c = λ functors know. c.count.ensures.elements ∙ sealed_count c.args.elements.now functors c.args.ty.now c.place_of.result c.args.c know c.place_of.ensures.place c.requires.object
