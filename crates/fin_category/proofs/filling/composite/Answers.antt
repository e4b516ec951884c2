use Rattle.std.proofs.Common.{ℕ, List, sym, subst, ◌∙◌}
use Rattle.finite_lists.specs.Members.{In}
use Rattle.topos_model.specs.categories.Listed.{all_ends}
use Rattle.topos_model.specs.categories.Filling.{codomain_of}
use Rattle.fin_category.proofs.Fillings.{determined-second, determined-first, determined-listed, determined-only, arrow_in, row_of, count_rows}
use Rattle.fin_category.proofs.filling.composite.Goals as goal

pub returns-then-g-raw : goal.returns-then-g-raw
returns-then-g-raw c = determined-second c.args.raw.now c.args.g c.args.f c.if-g-raw.true

pub returns-then-f-raw : goal.returns-then-f-raw
returns-then-f-raw c = determined-first c.args.raw.now c.args.g c.args.f c.if-g-raw.false c.if-f-raw.true

pub get-row-requires : goal.get-row-requires
get-row-requires c =
    let raw = c.args.raw.now in
    rw (c.as_slice-ends.ensures, c.requires.listing.ends, count_rows raw c.args.listing.now c.requires.listing) c.requires.objects

pub sole_from-requires : goal.sole_from-requires
sole_from-requires c = λ h i.
    let raw = c.args.raw.now in
    let are = c.as_slice-ends.ensures ∙ c.requires.listing.ends in
    let row = row_of raw c.args.listing.now c.requires.listing (codomain_of (all_ends raw) c.args.g) c.as_slice.result.now c.requires.objects (rw (are, ← c.as_slice.ensures) at c.get-row.ensures) in
    rw are (arrow_in (all_ends raw) (codomain_of (all_ends raw) c.args.g) h (subst (λ (xs : List ℕ). In xs h) row i)).0

pub returns-in-Some : goal.returns-in-Some
returns-in-Some c =
    let raw = c.args.raw.now in
    determined-listed raw c.args.g c.args.f c.in-Some.h.now c.if-g-raw.false c.if-f-raw.false
    (sym (c.requires.listing.composites c.args.g c.args.f) ∙ sym c.in-Some.ensures.value)

pub returns-in-None : goal.returns-in-None
returns-in-None c =
    let raw = c.args.raw.now in
    let are = c.as_slice-ends.ensures ∙ c.requires.listing.ends in
    let row = row_of raw c.args.listing.now c.requires.listing (codomain_of (all_ends raw) c.args.g) c.as_slice.result.now c.requires.objects (rw (are, ← c.as_slice.ensures) at c.get-row.ensures) in
    (rw (are, row) at c.sole_from.ensures)
    ∙ determined-only raw c.args.g c.args.f c.if-g-raw.false c.if-f-raw.false (sym (c.requires.listing.composites c.args.g c.args.f) ∙ sym c.in-None.ensures.value)
