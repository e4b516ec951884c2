use Rattle.std.proofs.lemmas.Result.{IfOk-weaker}
use Rattle.topos_model.specs.declared.term.Term.{App}
use Rattle.topos_model.specs.formulas.Forcing.{value}
use Rattle.truth_tables.proofs.Standing.{number_table}
use Rattle.term_tables.proofs.Contexts.{over_sizes}
use Rattle.term_tables.proofs.ReadingParts.{images_long, mapped, image_values}
use Rattle.term_tables.proofs.readings.image_table.Goals as goal

pub images-requires : goal.images-requires
images-requires c =
    let (w, Γ, m, S, T, t, h) = c.requires.parts in
    record {
      objects = c.requires.objects;
      numbers = over_sizes w Γ c.args.sizes.now h.counted c.args.arguments.now h.arguments_stand.over;
      images = images_long w Γ m S T t c.args.sizes.now c.args.map.now c.args.arguments.now h;
      elements = mapped w Γ m S T t c.args.sizes.now c.args.map.now c.args.arguments.now h;
    }

pub returns : goal.returns
returns c = record {
  stands = IfOk-weaker c.images.result _ _ (λ rows made w Γ m S T t h.
      number_table w Γ c.args.sizes.now h.counted T (value w (App m t)) _ rows made (image_values w Γ m S T t c.args.sizes.now c.args.map.now c.args.arguments.now h)) c.images.ensures;
}
