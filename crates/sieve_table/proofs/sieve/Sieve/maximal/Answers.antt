use Rattle.std.proofs.Common.{sym, subst}
use Rattle.finite_lists.specs.Members.{In}
use Rattle.topos_model.specs.categories.Category.{sieves, into}
use Rattle.sieve_table.proofs.SieveMembers.{of_sieve, maximal-sieve}
use Rattle.sieve_table.proofs.sieve.Sieve.maximal.Goals as goal

pub returns-clause-sieve : goal.returns-clause-sieve
returns-clause-sieve c =
    subst (λ S. In (sieves c.args.cat.now c.args.c) S) (sym c.into.ensures)
    (of_sieve c.args.cat.now c.args.c (into c.args.cat.now c.args.c) (maximal-sieve c.args.cat.now c.laws.ensures.lawful c.args.c))
