use Rattle.topos_model.specs.declared.term.Term.{App}
use Rattle.topos_model.specs.formulas.Typing.{ends_of}
use Rattle.internal_interp.proofs.FormFacts.{image_known, retyped}
use Rattle.internal_interp.proofs.forms.image_term.Goals as goal

pub image-requires-clause-known : goal.image-requires-clause-known
image-requires-clause-known c =
    let (w, maps, Γ, U, t, k, l) = c.requires.known in
    let (h, e) = image_known w maps c.args.interpreter.now Γ c.args.context.now U c.args.map t c.args.argument k l in (w, maps, Γ, t, h)

pub returns : goal.returns
returns c = λ t l w maps Γ U k.
    let (h, e) = image_known w maps c.args.interpreter.now Γ c.args.context.now U c.args.map t c.args.argument k l in retyped w maps c.args.interpreter.now Γ c.args.context.now U (ends_of maps c.args.map).cod (App c.args.map t) c.in_ok-image.field-0 e (c.in_ok-image.ensures w maps Γ t h)
