use Rattle.std.proofs.Common.{◌≡◌, ◌<◌, ℕ, List, length, sym, ap, subst, ◌∙◌}
use Rattle.std.proofs.lemmas.Result.{on_ok_weaker}
use Rattle.topos_model.specs.declared.ty.Ty.{One}
use Rattle.topos_model.specs.categories.Category.{Category, into}
use Rattle.topos_model.specs.topologies.Cover.{Site}
use Rattle.topos_model.specs.Laws.{IsCategory}
use Rattle.topos_model.specs.types.Types.{Presheaf}
use Rattle.sealed_functors.specs.declared.rows.ElementRows.{ElementRows}
use Rattle.sealed_functors.specs.Rows.{rows_at}
use Rattle.type_rows.specs.TypeRows.{AreTypeRows}
use Rattle.type_rows.proofs.Kept.{kept_faithful}
use Rattle.product_objects.proofs.OneElements.{one_row, one_rows_at, one_named}
use Rattle.product_objects.proofs.one.seal_one.Goals as goal

-- the rows of all objects
all_rows : (s : Site) (k : Category) (all at : List ElementRows) → k ≡ s.category → at ≡ all → length all ≡ k.objects → ((c : ℕ) → c < k.objects → rows_at all c ≡ one_row (length (into k c))) → (functors : List Presheaf) → AreTypeRows s functors One at
all_rows s k all at e is long rows functors = record {
  objects = ap length is ∙ long ∙ ap (λ (x : Category). x.objects) e;
  rows = λ c low.
      one_rows_at s functors c (rows_at at c)
      (ap (λ (l : List ElementRows). rows_at l c) is ∙ rows c (subst (λ (x : Category). c < x.objects) (sym e) low) ∙ ap (λ (x : Category). one_row (length (into x c))) e);
}

pub seal_type-requires-clause-rows : goal.seal_type-requires-clause-rows
seal_type-requires-clause-rows c =
    let s = c.args.site.now in (
      s,
      c.requires.faithful.0,
      subst IsCategory c.cat-cat.ensures c.laws.ensures.lawful,
      c.requires.faithful.1,
      all_rows s c.cat-cat.result.now c.in_ok-rows.rows c.as_slice.result.now c.cat-cat.ensures c.as_slice.ensures c.in_ok-rows.ensures.objects c.in_ok-rows.ensures.rows c.requires.faithful.0,
    )

pub returns-clause-faithful : goal.returns-clause-faithful
returns-clause-faithful c = λ functors h.
    let s = c.args.site.now in
    let store = c.args.store.now in
    let rows = all_rows s c.cat-cat.result.now c.in_ok-rows.rows c.as_slice.result.now c.cat-cat.ensures c.as_slice.ensures c.in_ok-rows.ensures.objects c.in_ok-rows.ensures.rows functors in
    kept_faithful c.seal_type.result s functors store c.seal_type.new.store
    (on_ok_weaker c.seal_type.result (λ f. f s functors (subst IsCategory c.cat-cat.ensures c.laws.ensures.lawful) h (one_named store) rows) c.seal_type.ensures.faithful) c.seal_type.ensures.err h

pub returns-clause-over : goal.returns-clause-over
returns-clause-over c = λ functors h.
    let s = c.args.site.now in
    let rows = all_rows s c.cat-cat.result.now c.in_ok-rows.rows c.as_slice.result.now c.cat-cat.ensures c.as_slice.ensures c.in_ok-rows.ensures.objects c.in_ok-rows.ensures.rows functors in
    c.seal_type.ensures.over s functors (subst IsCategory c.cat-cat.ensures c.laws.ensures.lawful) h rows
