use Rattle.std.proofs.Common.{◌<◌, ℕ, sym, ◌∙◌, subst}
use Rattle.topos_model.specs.types.Types.{Presheaf}
use Rattle.topos_model.specs.presheaves.Maps.{Components, apply, IsNatural}
use Rattle.topos_model.specs.presheaves.Limits.{IsImage}
use Rattle.finite_limits.specs.Kept.{value_places}
use Rattle.finite_limits.specs.Parts.{part_presheaf}
use Rattle.finite_limits.proofs.PartPresheaf.{part_is, part_over}
use Rattle.finite_limits.proofs.ImageParts.{image_part, part_image, image_over}
use Rattle.finite_limits.proofs.values.image.Goals as goal

pub part-requires-clause-part : goal.part-requires-clause-part
part-requires-clause-part c =
    let k = c.args.cat.now in
    let r = c.requires in
    let rows = c.in_ok-elements in
    image_part k c.value_rows.ensures.lawful c.args.x.now c.args.y.now r.domain r.codomain c.args.m.now r.natural rows.elements rows.ranks rows.ensures.rows

pub place_rows-requires-clause-within : goal.place_rows-requires-clause-within
place_rows-requires-clause-within c = λ d x h l.
    let k = c.args.cat.now in
    let r = c.requires in
    let rows = c.in_ok-elements in
    let part = image_part k c.value_rows.ensures.lawful c.args.x.now c.args.y.now r.domain r.codomain c.args.m.now r.natural rows.elements rows.ranks rows.ensures.rows in
    subst (λ (s : ℕ). apply c.args.m.now d x < s) (sym (part.table d h)) (r.natural.within d x h (subst (λ (s : ℕ). x < s) (r.natural.total d h) l))

pub from_rows-onto-requires : goal.from_rows-onto-requires
from_rows-onto-requires c =
    let k = c.args.cat.now in
    let r = c.requires in
    let rows = c.in_ok-elements in
    let im = part_image k c.in_ok-part.ensures.lawful c.args.x.now c.args.y.now r.domain r.codomain c.args.m.now r.natural rows.elements rows.ranks rows.ensures.rows in
    let is = (part_is k c.args.y.now rows.elements rows.ranks c.args.room c.in_ok-part.field-0 c.in-Some.part c.in-Some.is c.in_ok-part.ensures.part).0 in
    record {
      natural =
          subst (λ (Z : Presheaf). IsNatural k c.args.x.now Z c.in_ok-places-in-Some.places) (sym is)
          (subst (IsNatural k c.args.x.now (part_presheaf k c.args.y.now rows.elements rows.ranks)) (sym c.in_ok-places-in-Some.ensures) im.onto);
    }

pub from_rows-inclusion-requires : goal.from_rows-inclusion-requires
from_rows-inclusion-requires c =
    let k = c.args.cat.now in
    let r = c.requires in
    let rows = c.in_ok-elements in
    let im = part_image k c.in_ok-part.ensures.lawful c.args.x.now c.args.y.now r.domain r.codomain c.args.m.now r.natural rows.elements rows.ranks rows.ensures.rows in
    let is = (part_is k c.args.y.now rows.elements rows.ranks c.args.room c.in_ok-part.field-0 c.in-Some.part c.in-Some.is c.in_ok-part.ensures.part).0 in
    record { natural = subst (λ (Z : Presheaf). IsNatural k Z c.args.y.now rows.elements) (sym is) im.inclusion }

pub returns-in-None-clause-over : goal.returns-in-None-clause-over
returns-in-None-clause-over c =
    let k = c.args.cat.now in
    let r = c.requires in
    let rows = c.in_ok-elements in
    image_over k c.in_ok-part.ensures.lawful c.args.x.now c.args.y.now r.domain r.codomain c.args.m.now r.natural rows.elements rows.ranks rows.ensures.rows c.args.room
    (part_over k c.args.y.now rows.elements rows.ranks c.args.room c.in_ok-part.field-0 c.in-None.is c.in_ok-part.ensures.part)

pub returns-in-None-clause-exists : goal.returns-in-None-clause-exists
returns-in-None-clause-exists c =
    let k = c.args.cat.now in
    let r = c.requires in
    let rows = c.in_ok-elements in (
      part_presheaf k c.args.y.now rows.elements rows.ranks,
      value_places k rows.ranks c.args.m.now,
      rows.elements,
      part_image k c.in_ok-part.ensures.lawful c.args.x.now c.args.y.now r.domain r.codomain c.args.m.now r.natural rows.elements rows.ranks rows.ensures.rows,
    )

pub returns-in_ok-places-in-Some-clause-image : goal.returns-in_ok-places-in-Some-clause-image
returns-in_ok-places-in-Some-clause-image c =
    let k = c.args.cat.now in
    let r = c.requires in
    let rows = c.in_ok-elements in
    let im = part_image k c.in_ok-part.ensures.lawful c.args.x.now c.args.y.now r.domain r.codomain c.args.m.now r.natural rows.elements rows.ranks rows.ensures.rows in
    let is = (part_is k c.args.y.now rows.elements rows.ranks c.args.room c.in_ok-part.field-0 c.in-Some.part c.in-Some.is c.in_ok-part.ensures.part).0 in
    subst (IsImage k c.args.x.now c.args.y.now c.args.m.now c.in-Some.part c.from_rows-onto.result) (sym c.from_rows-inclusion.ensures)
    (subst (λ (e : Components). IsImage k c.args.x.now c.args.y.now c.args.m.now c.in-Some.part e rows.elements) (sym (c.from_rows-onto.ensures ∙ c.in_ok-places-in-Some.ensures))
    (subst (λ (Z : Presheaf). IsImage k c.args.x.now c.args.y.now c.args.m.now Z (value_places k rows.ranks c.args.m.now) rows.elements) (sym is) im))
