use Rattle.std.proofs.Common.{ap, ◌∙◌, arith, None}
use Rattle.functor_store.specs.Store.{Store}
use Rattle.functor_store.proofs.Steps.{abandon_step, base_in}
use Rattle.functor_store.proofs.store.FunctorStore.abandon.Goals as goal

pub cut-requires : goal.cut-requires
cut-requires c = let b = base_in c.self.inside c.self.invariant in record { rows = omega (arith, b) }

pub cut-requires-2 : goal.cut-requires-2
cut-requires-2 c = let b = base_in c.self.inside c.self.invariant in record { rows = b.0 }

pub invariant_of-self : goal.invariant_of-self
invariant_of-self c = (abandon_step c.self.inside c.cut.new.self c.cut-2.new.self c.self.invariant c.cut.ensures.rows c.cut-2.ensures.rows).0

pub returns : goal.returns
returns c =
    record {
      given_up = (abandon_step c.self.inside c.cut.new.self c.cut-2.new.self c.self.invariant c.cut.ensures.rows c.cut-2.ensures.rows).1
          ∙ ap (λ (v : Store). record v { building = None }) c.self.view_is;
    }
