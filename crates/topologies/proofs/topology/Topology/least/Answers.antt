use Rattle.std.proofs.Common.{sym, subst, ◌∙◌}
use Rattle.finite_lists.specs.Members.{In}
use Rattle.topos_model.specs.categories.Category.{sieves}
use Rattle.topos_model.specs.topologies.LeastCovers.{least}
use Rattle.sieve_table.specs.Sieves.{sieve_arrows}
use Rattle.sieve_table.proofs.SieveMembers.{of_sieve}
use Rattle.topologies.specs.Topologies.{site_of}
use Rattle.topologies.proofs.LeastCovers.{least-sieve}
use Rattle.topologies.proofs.topology.Topology.least.Goals as goal

pub returns-clause-sieve : goal.returns-clause-sieve
returns-clause-sieve c =
    let k = c.args.cat.now in
    let s = site_of c.args.cat.now c.args.self.now in
    subst (λ d. In (sieves k d) (sieve_arrows c.new.result)) (sym c.new.ensures.at)
    (subst (λ S. In (sieves k c.args.c) S) (sym (c.new.ensures.arrows ∙ c.least_arrows.ensures)) (of_sieve k c.args.c (least s c.args.c) (least-sieve s c.laws.ensures.lawful c.args.c)))
