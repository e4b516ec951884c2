use Rattle.std.proofs.Common.{◌≡◌, ◌+◌, ◌<◌, ◌++◌, ◌∷◌, ℕ, [], List, length, refl, sym, ap, subst, ◌∙◌}
use Rattle.std.proofs.lemmas.Result.{on_ok_weaker}
use Rattle.topos_model.specs.declared.ty.Ty.{Base}
use Rattle.topos_model.specs.categories.Category.{Category}
use Rattle.topos_model.specs.Laws.{IsCategory, IsFunctor}
use Rattle.topos_model.specs.types.Types.{Presheaf}
use Rattle.topos_model.specs.statements.Cells.{presheaf_cells}
use Rattle.functor_store.specs.Store.{Store, cells, cost, IsFreeKey}
use Rattle.functor_store.specs.Faithful.{IsFaithful}
use Rattle.sealed_functors.specs.declared.rows.ElementRows.{ElementRows}
use Rattle.sealed_functors.specs.Rows.{functor_from, rows_at, IsOverExactly}
use Rattle.type_rows.proofs.TypeRows.{rows_shaped}
use Rattle.named_functors.specs.NamedRows.{named_rows}
use Rattle.named_functors.proofs.NamedElements.{next_free, next_rows, next_cost, next_faithful}
use Rattle.named_functors.proofs.named.seal_functor.Goals as goal

pub all_rows-requires : goal.all_rows-requires
all_rows-requires c = record { functor = subst (λ k. IsFunctor k c.args.functor.now) (sym c.cat-cat.ensures) c.requires.functor }

-- the rows as they are given
given_rows : (k : Category) (X : Presheaf) (all at : List ElementRows) → at ≡ all → ((c : ℕ) → c < k.objects → rows_at all c ≡ named_rows k X c) → (c : ℕ) → c < k.objects → rows_at at c ≡ named_rows k X c
given_rows k X all at e rows = λ c low. ap (λ (l : List ElementRows). rows_at l c) e ∙ rows c low

pub seal_rows-requires-clause-free : goal.seal_rows-requires-clause-free
seal_rows-requires-clause-free c =
    let (functors, number, faithful) = c.requires.faithful in
    let laws = subst IsCategory c.cat-cat.ensures c.laws.ensures.lawful in
    subst (λ m. IsFreeKey c.args.store.now.sealed (Base m)) number (next_free c.args.site.now functors c.args.functor.now laws c.requires.functor c.args.store.now faithful)

pub seal_rows-requires-clause-shaped : goal.seal_rows-requires-clause-shaped
seal_rows-requires-clause-shaped c =
    let (functors, number, faithful) = c.requires.faithful in
    let s = c.args.site.now in
    let X = c.args.functor.now in
    let at = c.as_slice.result.now in
    let laws = subst IsCategory c.cat-cat.ensures c.laws.ensures.lawful in
    let rows = given_rows c.cat-cat.result.now X c.in_ok-rows.rows at c.as_slice.ensures c.in_ok-rows.ensures.rows in
    let long = ap length c.as_slice.ensures ∙ c.in_ok-rows.ensures.objects in
    rows_shaped s (functors ++ X ∷ []) laws (Base (length functors)) at (next_rows s functors X laws c.requires.functor at c.cat-cat.result.now c.cat-cat.ensures long rows) c.args.store.now.ends faithful.ends

pub returns-clause-ok : goal.returns-clause-ok
unfolding functor_from
returns-clause-ok c = on_ok_weaker c.seal_rows.result (λ e. (functor_from (Base c.args.number) c.as_slice.result.now, refl, e)) c.seal_rows.ensures.ok

pub returns-clause-faithful : goal.returns-clause-faithful
returns-clause-faithful c =
    let s = c.args.site.now in
    let X = c.args.functor.now in
    let old = c.args.store.now in
    let at = c.as_slice.result.now in
    let laws = subst IsCategory c.cat-cat.ensures c.laws.ensures.lawful in
    let rows = given_rows c.cat-cat.result.now X c.in_ok-rows.rows at c.as_slice.ensures c.in_ok-rows.ensures.rows in
    let long = ap length c.as_slice.ensures ∙ c.in_ok-rows.ensures.objects in
    on_ok_weaker c.seal_rows.result (λ e functors number faithful.
    subst (λ (t : Store). IsFaithful s (functors ++ X ∷ []) t) (sym (e ∙ ap (λ m. record old { sealed = old.sealed ++ functor_from (Base m) at ∷ [] }) (sym number)))
    (next_faithful s functors X laws c.requires.functor at c.cat-cat.result.now c.cat-cat.ensures long rows old faithful)) c.seal_rows.ensures.ok

pub returns-clause-over : goal.returns-clause-over
returns-clause-over c =
    let (functors, number, faithful) = c.requires.faithful in
    let s = c.args.site.now in
    let X = c.args.functor.now in
    let old = c.args.store.now in
    let at = c.as_slice.result.now in
    let laws = subst IsCategory c.cat-cat.ensures c.laws.ensures.lawful in
    let rows = given_rows c.cat-cat.result.now X c.in_ok-rows.rows at c.as_slice.ensures c.in_ok-rows.ensures.rows in
    let long = ap length c.as_slice.ensures ∙ c.in_ok-rows.ensures.objects in
    let cost_is : cost old.ends (functor_from (Base c.args.number) at) ≡ presheaf_cells s.category X =
    ap (λ m. cost old.ends (functor_from (Base m) at)) (sym number) ∙ next_cost s functors X laws c.requires.functor at c.cat-cat.result.now c.cat-cat.ensures long rows old.ends faithful.ends in
    subst (λ n. IsOverExactly c.seal_rows.result (old.budget < cells old + n)) cost_is c.seal_rows.ensures.over
