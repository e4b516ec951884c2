use Rattle.std.proofs.Common.{◌≡◌, ℕ, [], ◌∷◌, ◌++◌, Result, Ok, Err, sym, ap, subst, ◌∙◌, arith}
use Rattle.std.proofs.lemmas.Result.{on_ok_weaker}
use Rattle.topos_model.specs.declared.ty.Ty.{Ty}
use Rattle.topos_model.specs.statements.Cells.{cells_of}
use Rattle.functor_store.specs.declared.fault.StoreFault.{StoreFault}
use Rattle.functor_store.specs.declared.fault.StoreFault.TheVariants.{Over, NoMemory}
use Rattle.functor_store.specs.Store.{Store, cost}
use Rattle.functor_store.specs.Faithful.{IsFaithful}
use Rattle.sealed_functors.specs.Rows.{functor_from, IsOverExactly}
use Rattle.type_rows.proofs.TypeRows.{rows_shaped, rows_cost, rows_faithful}
use Rattle.type_rows.proofs.seal.seal_type.Goals as goal

pub seal_rows-requires-clause-shaped : goal.seal_rows-requires-clause-shaped
seal_rows-requires-clause-shaped c =
    let (s, functors, laws, faithful, rows) = c.requires.rows in
    rows_shaped s functors laws c.args.key.now c.args.at.now rows c.args.store.now.ends faithful.ends

pub returns-in-Ok-clause-ok : goal.returns-in-Ok-clause-ok
unfolding functor_from
returns-in-Ok-clause-ok c = on_ok_weaker c.seal_rows.result (λ e. (functor_from c.in-Ok.key c.args.at.now, c.in-Ok.ensures, e)) c.seal_rows.ensures.ok

-- the store with the functor of an equal type
sealed_as : (old new : Store) (T key : Ty) (at : _) → key ≡ T → new ≡ record old { sealed = old.sealed ++ functor_from key at ∷ [] } → new ≡ record old { sealed = old.sealed ++ functor_from T at ∷ [] }
sealed_as old new T key at e is = is ∙ ap (λ U. record old { sealed = old.sealed ++ functor_from U at ∷ [] }) e

pub returns-in-Ok-clause-faithful : goal.returns-in-Ok-clause-faithful
returns-in-Ok-clause-faithful c =
    let old = c.args.store.now in
    let T = c.args.key.now in
    let at = c.args.at.now in
    on_ok_weaker c.seal_rows.result (λ e s functors laws faithful named rows.
    subst (λ (t : Store). IsFaithful s functors t) (sym (sealed_as old c.seal_rows.new.store T c.in-Ok.key at c.in-Ok.ensures e))
    (rows_faithful s functors laws T at rows old faithful c.requires.free named)) c.seal_rows.ensures.ok

over_same : (r : Result ℕ StoreFault) (P Q : Type 0) → (P → Q) → (Q → P) → IsOverExactly r P → IsOverExactly r Q
over_same (Ok n) P Q f g h = λ q. h (g q)
over_same (Err Over) P Q f g h = f h
over_same (Err NoMemory) P Q f g h = tt

pub returns-in-Ok-clause-over : goal.returns-in-Ok-clause-over
returns-in-Ok-clause-over c = λ s functors laws faithful rows.
    let old = c.args.store.now in
    let at = c.args.at.now in
    let e : cost old.ends (functor_from c.in-Ok.key at) ≡ cells_of s functors c.args.key.now =
    ap (λ U. cost old.ends (functor_from U at)) c.in-Ok.ensures ∙ rows_cost s functors laws c.args.key.now at rows old.ends faithful.ends in
    over_same c.seal_rows.result _ _ (λ over. omega (arith, over, e)) (λ over. omega (arith, over, e)) c.seal_rows.ensures.over
