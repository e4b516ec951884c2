use Rattle.std.proofs.Common.{◌≡◌, ◌++◌, ℕ, [], List, length, sym, ap, refl, ◌∙◌, arith}
use Rattle.std.specs.List.{flat_map, range_with_len}
use Rattle.topos_model.specs.categories.Category.{Category, into}
use Rattle.topos_model.specs.Laws.{size}
use Rattle.topos_model.specs.types.Types.{Presheaf}
use Rattle.sealed_functors.specs.declared.rows.ElementRows.{ElementRows}
use Rattle.type_rows.proofs.FlatRows.{rows_more}
use Rattle.named_functors.specs.NamedRows.{restriction_row, named_rows}
use Rattle.named_functors.proofs.rows.rows_over.Goals as goal

rows_are : (k : Category) (X : Presheaf) (c count arrows : ℕ) (rows restrictions : List ℕ) → count ≡ size X c → arrows ≡ length (into k c) → rows ≡ [] →
    restrictions ≡ flat_map (restriction_row k X c) (range_with_len 0 (size X c)) →
    ◌≡◌ {A = ElementRows} (record { count = count; width = 0; arrows = arrows; rows = rows; restrictions = restrictions }) (named_rows k X c)
unfolding named_rows
rows_are k X c count arrows rows restrictions e f g h = rw (e, f, g, h) refl

pub elements-preserved : goal.elements-preserved
elements-preserved c =
    let row = restriction_row c.args.cat.now c.args.functor.now c.args.c in
    c.in_ok-push_element.ensures.pushed ∙ ap (λ l. l ++ row c.elements.x) c.elements.invariant ∙ sym (rows_more row c.elements.x)

pub returns : goal.returns
returns c =
    let k = c.args.cat.now in
    let X = c.args.functor.now in
    let end : c.elements.x ≡ size X c.args.c = omega (arith, c.elements-test.false, c.elements.auto.x-end, c.size-count.ensures) in
    record {
      rows = rows_are k X c.args.c c.size-count.result (length c.arrows_into.result.now) c.new.result c.elements.restrictions c.size-count.ensures (ap length c.arrows_into.ensures.value) c.new.ensures
          (c.elements.invariant ∙ ap (λ n. flat_map (restriction_row k X c.args.c) (range_with_len 0 n)) end);
    }
