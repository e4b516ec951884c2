use Rattle.std.proofs.Common.{true, refl, sym, ◌∙◌}
use Rattle.topos_model.specs.topologies.LeastCovers.{least}
use Rattle.topologies.specs.DenseCovers.{dense_least}
use Rattle.topologies.specs.Topologies.{site_of}
use Rattle.topologies.specs.declared.topology.Topology.{Topology}
use Rattle.topologies.proofs.KeptCovers.{same_covers}
use Rattle.topologies.proofs.DenseTopology.{dense_topology, least-dense}
use Rattle.topologies.proofs.topology.Topology.dense.Goals as goal

pub returns-clause-topology : goal.returns-clause-topology
returns-clause-topology c =
    let k = c.args.cat.now in
    let t : Topology = record { dense = true; families = c.new.result; least = c.in_ok-least.least } in
    let laws = c.laws.ensures.lawful in
    record {
      topology = dense_topology (site_of k t) laws refl;
      least = c.in_ok-least.ensures ∙ same_covers (dense_least k) (least (site_of k t)) k.objects (λ d low. sym (least-dense (site_of k t) laws refl d low));
    }
