use Rattle.std.proofs.Common.{ℕ, List, ap, subst, refl, None}
use Rattle.functor_store.specs.declared.store.FunctorStore.TheInside.{Inside}
use Rattle.functor_store.specs.Fields.{IsTables}
use Rattle.functor_store.proofs.Steps.{new_step}
use Rattle.functor_store.proofs.store.FunctorStore.new.Goals as goal

pub invariant_of-result : goal.invariant_of-result
invariant_of-result c =
    let P : List (ℕ × ℕ) → Type 0 = λ x. IsTables c.args.objects x c.in_ok-tables.tables.into.items c.in_ok-tables.tables.places in
    let a : Inside = record { objects = c.args.objects; ends = c.args.ends; tables = c.in_ok-tables.tables; budget = c.args.budget; charges = 0; sealed_cells = 0; cells = 0; parts = c.new.result; key = None; base = 0; «open» = 0; open_ends = c.new-2.result; rows = c.new-3.result; restrictions = c.new-4.result; alloc = c.args.alloc } in
    let step = new_step a (subst P c.as_slice.ensures c.in_ok-tables.ensures.tables) c.requires.budget refl refl refl c.new.ensures.empty refl refl (ap (λ v. v.rows) c.new-3.ensures.value) (ap (λ v. v.rows) c.new-4.ensures.value) in
    step.0

pub returns : goal.returns
returns c =
    let P : List (ℕ × ℕ) → Type 0 = λ x. IsTables c.args.objects x c.in_ok-tables.tables.into.items c.in_ok-tables.tables.places in
    let a : Inside = record { objects = c.args.objects; ends = c.args.ends; tables = c.in_ok-tables.tables; budget = c.args.budget; charges = 0; sealed_cells = 0; cells = 0; parts = c.new.result; key = None; base = 0; «open» = 0; open_ends = c.new-2.result; rows = c.new-3.result; restrictions = c.new-4.result; alloc = c.args.alloc } in
    let step = new_step a (subst P c.as_slice.ensures c.in_ok-tables.ensures.tables) c.requires.budget refl refl refl c.new.ensures.empty refl refl (ap (λ v. v.rows) c.new-3.ensures.value) (ap (λ v. v.rows) c.new-4.ensures.value) in
    record { value = step.1 }
