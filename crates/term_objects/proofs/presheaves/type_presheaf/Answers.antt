use Rattle.std.proofs.Common.{◌≡◌, sym, ap, subst, ◌∙◌}
use Rattle.topos_model.specs.topologies.Cover.{Site}
use Rattle.topos_model.specs.Laws.{IsCategory, IsFunctor}
use Rattle.type_laws.proofs.TypeFunctors.{types_are_functors}
use Rattle.term_objects.proofs.SealedPresheaves.{functors_lawful, type_held, sealed_presheaf, sealed_lawful}
use Rattle.term_objects.proofs.presheaves.type_presheaf.Goals as goal

pub place_of-id-requires : goal.place_of-id-requires
place_of-id-requires c = record { held = type_held c.args.world.now c.store-store.result.now c.store-store.ensures.store c.args.ty.now c.requires.named c.requires.counted }

pub from_rows-requires : goal.from_rows-requires
from_rows-requires c =
    let w = c.args.world.now in
    let held = c.store-store.ensures.store in
    let same : c.cat-cat.result.now ≡ w.site.category = c.cat-cat.ensures ∙ ap (λ (s : Site). s.category) c.site.ensures in
    let laws : IsCategory w.site.category = subst IsCategory same c.objects-objects.ensures.lawful in
    record {
      lawful = sealed_lawful w.site w.functors laws c.store-store.result.now c.args.ty.now c.place_of-id.result held.faithful c.place_of-id.ensures.place c.cat-cat.result.now same
          c.objects-objects.result c.objects-objects.ensures.count c.in_ok-sizes.sizes c.in_ok-along.along c.in_ok-sizes.ensures c.in_ok-along.ensures (functors_lawful w c.store-store.result.now held);
    }

pub returns : goal.returns
returns c =
    let w = c.args.world.now in
    let held = c.store-store.ensures.store in
    let same : c.cat-cat.result.now ≡ w.site.category = c.cat-cat.ensures ∙ ap (λ (s : Site). s.category) c.site.ensures in
    let laws : IsCategory w.site.category = subst IsCategory same c.objects-objects.ensures.lawful in
    let value =
    c.from_rows.ensures
    ∙ sealed_presheaf w.site w.functors laws c.store-store.result.now c.args.ty.now c.place_of-id.result held.faithful c.place_of-id.ensures.place c.cat-cat.result.now same
    c.objects-objects.result c.objects-objects.ensures.count c.in_ok-sizes.sizes c.in_ok-along.along c.in_ok-sizes.ensures c.in_ok-along.ensures in
    record { value = value; lawful = subst (IsFunctor w.site.category) (sym value) (types_are_functors w.site w.functors laws (functors_lawful w c.store-store.result.now held) c.args.ty.now) }
