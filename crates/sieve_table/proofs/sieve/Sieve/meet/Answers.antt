use Rattle.std.proofs.Common.{sym, subst}
use Rattle.finite_lists.specs.Members.{In}
use Rattle.topos_model.specs.categories.Category.{sieves}
use Rattle.fin_category.specs.ArrowSets.{arrows_in}
use Rattle.sieve_table.proofs.SieveMembers.{sieve_of, of_sieve, intersection-sieve}
use Rattle.sieve_table.proofs.sieve.Sieve.meet.Goals as goal

pub returns-clause-sieve : goal.returns-clause-sieve
returns-clause-sieve c = λ k i j.
    subst (λ S. In (sieves k c.args.self.now.at) S) (sym c.meet.ensures)
    (of_sieve k c.args.self.now.at _
    (intersection-sieve k c.args.self.now.at (arrows_in c.args.self.now.arrows) (arrows_in c.args.o.now.arrows) (sieve_of k _ _ i)
    (sieve_of k _ _ (subst (λ d. In (sieves k d) (arrows_in c.args.o.now.arrows)) (sym c.requires) j))))
