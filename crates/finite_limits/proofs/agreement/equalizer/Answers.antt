use Rattle.std.proofs.Common.{sym, subst}
use Rattle.topos_model.specs.types.Types.{Presheaf}
use Rattle.topos_model.specs.presheaves.Maps.{IsNatural}
use Rattle.topos_model.specs.presheaves.Limits.{IsEqualizer}
use Rattle.finite_limits.specs.Parts.{part_presheaf}
use Rattle.finite_limits.proofs.PartPresheaf.{part_is, part_over}
use Rattle.finite_limits.proofs.EqualizerParts.{equalizer_part, part_equalizer, equalizer_over}
use Rattle.finite_limits.proofs.agreement.equalizer.Goals as goal

pub part-requires-clause-part : goal.part-requires-clause-part
part-requires-clause-part c =
    let k = c.args.cat.now in
    let r = c.requires in
    let rows = c.in_ok-elements in
    equalizer_part k c.agreeing_rows.ensures.lawful c.args.x.now c.args.y.now r.domain c.args.m.now c.args.n.now r.first r.second rows.elements rows.ranks rows.ensures.rows

pub from_rows-inclusion-requires : goal.from_rows-inclusion-requires
from_rows-inclusion-requires c =
    let k = c.args.cat.now in
    let r = c.requires in
    let rows = c.in_ok-elements in
    let eq = part_equalizer k c.in_ok-part.ensures.lawful c.args.x.now c.args.y.now r.domain c.args.m.now c.args.n.now r.first r.second rows.elements rows.ranks rows.ensures.rows in
    let is = (part_is k c.args.x.now rows.elements rows.ranks c.args.room c.in_ok-part.field-0 c.in-Some.part c.in-Some.is c.in_ok-part.ensures.part).0 in
    record { natural = subst (λ (Z : Presheaf). IsNatural k Z c.args.x.now rows.elements) (sym is) eq.inclusion }

pub returns-in-None-clause-over : goal.returns-in-None-clause-over
returns-in-None-clause-over c =
    let k = c.args.cat.now in
    let r = c.requires in
    let rows = c.in_ok-elements in
    equalizer_over k c.in_ok-part.ensures.lawful c.args.x.now c.args.y.now r.domain c.args.m.now c.args.n.now r.first r.second rows.elements rows.ranks rows.ensures.rows c.args.room
    (part_over k c.args.x.now rows.elements rows.ranks c.args.room c.in_ok-part.field-0 c.in-None.is c.in_ok-part.ensures.part)

pub returns-in-None-clause-exists : goal.returns-in-None-clause-exists
returns-in-None-clause-exists c =
    let k = c.args.cat.now in
    let r = c.requires in
    let rows = c.in_ok-elements in (
      part_presheaf k c.args.x.now rows.elements rows.ranks,
      rows.elements,
      part_equalizer k c.in_ok-part.ensures.lawful c.args.x.now c.args.y.now r.domain c.args.m.now c.args.n.now r.first r.second rows.elements rows.ranks rows.ensures.rows,
    )

pub returns-in-Some-clause-equalizer : goal.returns-in-Some-clause-equalizer
returns-in-Some-clause-equalizer c =
    let k = c.args.cat.now in
    let r = c.requires in
    let rows = c.in_ok-elements in
    let eq = part_equalizer k c.in_ok-part.ensures.lawful c.args.x.now c.args.y.now r.domain c.args.m.now c.args.n.now r.first r.second rows.elements rows.ranks rows.ensures.rows in
    let is = (part_is k c.args.x.now rows.elements rows.ranks c.args.room c.in_ok-part.field-0 c.in-Some.part c.in-Some.is c.in_ok-part.ensures.part).0 in
    subst (IsEqualizer k c.args.x.now c.args.y.now c.args.m.now c.args.n.now c.in-Some.part) (sym c.from_rows-inclusion.ensures)
    (subst (λ (Z : Presheaf). IsEqualizer k c.args.x.now c.args.y.now c.args.m.now c.args.n.now Z rows.elements) (sym is) eq)
