use Rattle.std.proofs.Common.{◌≡◌, ◌<◌, ◌≤◌, ℕ, List, map, length, sym, ap, ◌∙◌, subst}
use Rattle.topos_model.specs.types.Types.{Presheaf}
use Rattle.topos_model.specs.Laws.{IsFunctor}
use Rattle.topos_model.specs.presheaves.Maps.{IsNatural}
use Rattle.topos_model.specs.presheaves.Colimits.{IsCoequalizer}
use Rattle.natural_maps.specs.Room.{sized_cells}
use Rattle.natural_maps.proofs.CellSums.{cells_by_sizes, sizes_are, sizes_over, presheaf_is}
use Rattle.finite_colimits.specs.Classes.{class_presheaf}
use Rattle.finite_colimits.proofs.ClassRows.{class_coequalizer, coequalizer_over}
use Rattle.finite_colimits.proofs.coequalize.coequalizer.Goals as goal

pub from_rows-classes-requires : goal.from_rows-classes-requires
from_rows-classes-requires c =
    let r = c.requires in
    let co = class_coequalizer c.args.cat.now c.sizes_within.ensures.lawful c.args.x.now c.args.y.now r.domain r.codomain c.args.m.now c.args.n.now c.in_ok-numbers.numbers c.in_ok-numbers.least r.first r.second c.in_ok-numbers.ensures in
    let counts : c.as_slice.result.now ≡ map length c.in_ok-numbers.least = c.as_slice.ensures ∙ c.in_ok-counts.ensures in
    let sizes = sizes_are c.args.cat.now c.as_slice.result.now c.args.room c.in_ok-sizes_within.field-0 c.in-Some.sizes c.in-Some.is c.in_ok-sizes_within.ensures.sizes in
    record { lawful = subst (IsFunctor c.args.cat.now) (sym (presheaf_is c.in-Some.sizes (map length c.in_ok-numbers.least) c.in_ok-along-in-Some.along _ (sizes.0 ∙ counts) c.in_ok-along-in-Some.ensures)) co.functor }

pub from_rows-quotient-requires : goal.from_rows-quotient-requires
from_rows-quotient-requires c =
    let r = c.requires in
    let co = class_coequalizer c.args.cat.now c.sizes_within.ensures.lawful c.args.x.now c.args.y.now r.domain r.codomain c.args.m.now c.args.n.now c.in_ok-numbers.numbers c.in_ok-numbers.least r.first r.second c.in_ok-numbers.ensures in
    let counts : c.as_slice.result.now ≡ map length c.in_ok-numbers.least = c.as_slice.ensures ∙ c.in_ok-counts.ensures in
    let sizes = sizes_are c.args.cat.now c.as_slice.result.now c.args.room c.in_ok-sizes_within.field-0 c.in-Some.sizes c.in-Some.is c.in_ok-sizes_within.ensures.sizes in
    record { natural = subst (λ (Z : Presheaf). IsNatural c.args.cat.now c.args.y.now Z c.in_ok-numbers.numbers) (sym (c.from_rows-classes.ensures ∙ presheaf_is c.in-Some.sizes (map length c.in_ok-numbers.least) c.in_ok-along-in-Some.along _ (sizes.0 ∙ counts) c.in_ok-along-in-Some.ensures)) co.quotient }

pub returns-in-None-clause-over : goal.returns-in-None-clause-over
returns-in-None-clause-over c =
    let r = c.requires in
    let counts : c.as_slice.result.now ≡ map length c.in_ok-numbers.least = c.as_slice.ensures ∙ c.in_ok-counts.ensures in
    coequalizer_over c.args.cat.now c.sizes_within.ensures.lawful c.args.x.now c.args.y.now r.domain r.codomain c.args.m.now c.args.n.now c.in_ok-numbers.numbers c.in_ok-numbers.least r.first r.second c.in_ok-numbers.ensures c.args.room
    (subst (λ (s : List ℕ). c.args.room < sized_cells c.args.cat.now s) counts (sizes_over c.args.cat.now c.as_slice.result.now c.args.room c.in_ok-sizes_within.field-0 c.in-None.is c.in_ok-sizes_within.ensures.sizes))

pub returns-in_ok-along-in-Some-clause-coequalizer : goal.returns-in_ok-along-in-Some-clause-coequalizer
returns-in_ok-along-in-Some-clause-coequalizer c =
    let r = c.requires in
    let co = class_coequalizer c.args.cat.now c.sizes_within.ensures.lawful c.args.x.now c.args.y.now r.domain r.codomain c.args.m.now c.args.n.now c.in_ok-numbers.numbers c.in_ok-numbers.least r.first r.second c.in_ok-numbers.ensures in
    let counts : c.as_slice.result.now ≡ map length c.in_ok-numbers.least = c.as_slice.ensures ∙ c.in_ok-counts.ensures in
    let sizes = sizes_are c.args.cat.now c.as_slice.result.now c.args.room c.in_ok-sizes_within.field-0 c.in-Some.sizes c.in-Some.is c.in_ok-sizes_within.ensures.sizes in
    let is : c.from_rows-classes.result ≡ class_presheaf c.args.cat.now c.args.y.now c.in_ok-numbers.numbers c.in_ok-numbers.least =
    c.from_rows-classes.ensures ∙ presheaf_is c.in-Some.sizes (map length c.in_ok-numbers.least) c.in_ok-along-in-Some.along _ (sizes.0 ∙ counts) c.in_ok-along-in-Some.ensures in
    subst (IsCoequalizer c.args.cat.now c.args.x.now c.args.y.now c.args.m.now c.args.n.now c.from_rows-classes.result) (sym c.from_rows-quotient.ensures)
    (subst (λ (Z : Presheaf). IsCoequalizer c.args.cat.now c.args.x.now c.args.y.now c.args.m.now c.args.n.now Z c.in_ok-numbers.numbers) (sym is) co)

pub returns-in_ok-along-in-Some-clause-room : goal.returns-in_ok-along-in-Some-clause-room
returns-in_ok-along-in-Some-clause-room c =
    let sizes = sizes_are c.args.cat.now c.as_slice.result.now c.args.room c.in_ok-sizes_within.field-0 c.in-Some.sizes c.in-Some.is c.in_ok-sizes_within.ensures.sizes in
    subst (λ (n : ℕ). n ≤ c.args.room)
    (sym (cells_by_sizes c.args.cat.now c.from_rows-classes.result ∙ ap (λ (Z : Presheaf). sized_cells c.args.cat.now Z.sizes) c.from_rows-classes.ensures ∙ ap (sized_cells c.args.cat.now) sizes.0)) sizes.1

pub returns-in-None-clause-exists : goal.returns-in-None-clause-exists
returns-in-None-clause-exists c =
    let r = c.requires in (
      class_presheaf c.args.cat.now c.args.y.now c.in_ok-numbers.numbers c.in_ok-numbers.least,
      c.in_ok-numbers.numbers,
      class_coequalizer c.args.cat.now c.sizes_within.ensures.lawful c.args.x.now c.args.y.now r.domain r.codomain c.args.m.now c.args.n.now c.in_ok-numbers.numbers c.in_ok-numbers.least r.first r.second c.in_ok-numbers.ensures,
    )
