use Rattle.std.proofs.Common.{sym, subst, []}
use Rattle.finite_lists.specs.Members.{In}
use Rattle.topos_model.specs.categories.Category.{sieves}
use Rattle.sieve_table.proofs.SieveMembers.{of_sieve, empty-sieve}
use Rattle.sieve_table.proofs.sieve.Sieve.empty.Goals as goal

pub returns-clause-sieve : goal.returns-clause-sieve
returns-clause-sieve c = λ k. subst (λ S. In (sieves k c.args.c) S) (sym c.empty.ensures) (of_sieve k c.args.c [] (empty-sieve k c.args.c))
