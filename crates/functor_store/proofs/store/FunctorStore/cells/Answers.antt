use Rattle.std.proofs.Common.{ap, ◌∙◌}
use Rattle.functor_store.specs.Store.{cells}
use Rattle.functor_store.proofs.Steps.{cells_are}
use Rattle.functor_store.proofs.store.FunctorStore.cells.Goals as goal

pub returns : goal.returns
returns c = record { cells = cells_are c.self.inside c.self.invariant ∙ ap cells c.self.view_is }
