use Rattle.std.proofs.Common.{◌≡◌, ◌+◌, ◌≤◌, ap, ◌∙◌, arith}
use Rattle.functor_store.specs.Store.{cells}
use Rattle.functor_store.proofs.Steps.{cells_are}
use Rattle.functor_store.proofs.store.FunctorStore.room.Goals as goal

pub overflow_sub-result : goal.overflow_sub-result
overflow_sub-result c = let w = c.self.invariant.within in omega arith

pub returns : goal.returns
returns c =
    let e : c.self.inside.cells ≡ cells c.args.self.now = cells_are c.self.inside c.self.invariant ∙ ap cells c.self.view_is in
    let b : c.self.inside.budget ≡ c.args.self.now.budget = ap (λ v. v.budget) c.self.view_is in
    let w = c.self.invariant.within in
    let m = c.self.invariant.bounded in
    record { room = omega arith; bounded = omega arith }
