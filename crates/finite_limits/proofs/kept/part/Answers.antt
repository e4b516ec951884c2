use Rattle.std.proofs.Common.{◌≡◌, ◌<◌, ◌≤◌, ℕ, List, map, length, sym, ap, ◌∙◌, subst}
use Rattle.topos_model.specs.types.Types.{Presheaf}
use Rattle.topos_model.specs.Laws.{IsFunctor}
use Rattle.natural_maps.specs.Room.{sized_cells}
use Rattle.natural_maps.proofs.CellSums.{cells_by_sizes, sizes_are, sizes_over, presheaf_is}
use Rattle.finite_limits.specs.Parts.{part_presheaf}
use Rattle.finite_limits.proofs.Carried.{carried_functor}
use Rattle.finite_limits.proofs.PartPresheaf.{part_carried}
use Rattle.finite_limits.proofs.kept.part.Goals as goal

pub returns-in-None-clause-part : goal.returns-in-None-clause-part
returns-in-None-clause-part c =
    let counts : c.as_slice.result.now ≡ map length c.args.elements.now = c.as_slice.ensures ∙ c.in_ok-counts.ensures in
    subst (λ (n : ℕ). c.args.room < n) (sym (cells_by_sizes c.args.cat.now (part_presheaf c.args.cat.now c.args.x.now c.args.elements.now c.args.ranks.now)))
    (subst (λ (s : List ℕ). c.args.room < sized_cells c.args.cat.now s) counts
    (sizes_over c.args.cat.now c.as_slice.result.now c.args.room c.in_ok-sizes_within.field-0 c.in-None.is c.in_ok-sizes_within.ensures.sizes))

pub from_rows-requires : goal.from_rows-requires
from_rows-requires c =
    let counts : c.as_slice.result.now ≡ map length c.args.elements.now = c.as_slice.ensures ∙ c.in_ok-counts.ensures in
    let sizes = sizes_are c.args.cat.now c.as_slice.result.now c.args.room c.in_ok-sizes_within.field-0 c.in-Some.sizes c.in-Some.is c.in_ok-sizes_within.ensures.sizes in
    let k = c.args.cat.now in
    let whole = carried_functor k c.sizes_within.ensures.lawful c.args.x.now c.args.x.now (part_presheaf k c.args.x.now c.args.elements.now c.args.ranks.now) c.requires.functor c.requires.functor c.args.elements.now c.args.elements.now
    (part_carried k c.sizes_within.ensures.lawful c.args.x.now c.args.elements.now c.args.ranks.now c.requires.part) in
    record { lawful = subst (IsFunctor c.args.cat.now) (sym (presheaf_is c.in-Some.sizes (map length c.args.elements.now) c.in_ok-along-in-Some.along _ (sizes.0 ∙ counts) c.in_ok-along-in-Some.ensures)) whole }

pub returns-clause-part : goal.returns-clause-part
returns-clause-part c =
    let counts : c.as_slice.result.now ≡ map length c.args.elements.now = c.as_slice.ensures ∙ c.in_ok-counts.ensures in
    let sizes = sizes_are c.args.cat.now c.as_slice.result.now c.args.room c.in_ok-sizes_within.field-0 c.in-Some.sizes c.in-Some.is c.in_ok-sizes_within.ensures.sizes in (
      c.from_rows.ensures ∙ presheaf_is c.in-Some.sizes (map length c.args.elements.now) c.in_ok-along-in-Some.along _ (sizes.0 ∙ counts) c.in_ok-along-in-Some.ensures,
      subst (λ (n : ℕ). n ≤ c.args.room)
          (sym (cells_by_sizes c.args.cat.now c.from_rows.result ∙ ap (λ (Z : Presheaf). sized_cells c.args.cat.now Z.sizes) c.from_rows.ensures ∙ ap (sized_cells c.args.cat.now) sizes.0)) sizes.1,
    )
