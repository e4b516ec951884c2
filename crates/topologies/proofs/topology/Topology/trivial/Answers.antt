use Rattle.std.proofs.Common.{false, refl, sym, ◌∙◌}
use Rattle.topos_model.specs.categories.Category.{into}
use Rattle.topos_model.specs.topologies.LeastCovers.{least}
use Rattle.topologies.specs.Topologies.{site_of}
use Rattle.topologies.specs.declared.topology.Topology.{Topology}
use Rattle.topologies.proofs.KeptCovers.{same_covers}
use Rattle.topologies.proofs.Trivial.{trivial_topology, least-trivial}
use Rattle.topologies.proofs.topology.Topology.trivial.Goals as goal

pub returns-clause-topology : goal.returns-clause-topology
returns-clause-topology c =
    let k = c.args.cat.now in
    let t : Topology = record { dense = false; families = c.new.result; least = c.in_ok-least.least } in
    let laws = c.laws.ensures.lawful in
    record {
      topology = trivial_topology (site_of k t) laws refl c.new.ensures;
      least = c.in_ok-least.ensures ∙ same_covers (into k) (least (site_of k t)) k.objects (λ d low. sym (least-trivial (site_of k t) laws refl c.new.ensures d));
    }
