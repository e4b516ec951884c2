use Rattle.std.proofs.Common.{subst}
use Rattle.functor_store.specs.Store.{Store, IsDistinct}
use Rattle.functor_store.proofs.Reading.{found_by_key}
use Rattle.functor_store.proofs.store.FunctorStore.find.Goals as goal

pub returns-clause-distinct : goal.returns-clause-distinct
returns-clause-distinct c = let P : Store → Type 0 = λ v. IsDistinct v.sealed in subst P c.self.view_is c.self.invariant.distinct

pub returns-clause-place : goal.returns-clause-place
returns-clause-place c = found_by_key c.self.inside _ c.args.key.now c.get_index_of.result c.self.view_is c.get_index_of.ensures.index
