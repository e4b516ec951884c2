use Rattle.std.proofs.Common.{arith}
use Rattle.topos_model.specs.topologies.LeastCovers.{least}
use Rattle.topologies.specs.Topologies.{site_of}
use Rattle.topologies.proofs.KeptCovers.{kept-length, kept-at}
use Rattle.topologies.proofs.topology.Topology.least_arrows.Goals as goal

pub get-requires : goal.get-requires
get-requires c =
    let e = kept-length (least (site_of c.args.cat.now c.args.self.now)) c.args.self.now.least c.args.cat.now.objects c.requires.topology.least in
    omega (arith, e, c.requires.object)

pub returns : goal.returns
returns c = kept-at (least (site_of c.args.cat.now c.args.self.now)) c.args.self.now.least c.args.cat.now.objects c.args.c c.get.result.now c.requires.topology.least c.requires.object c.get.ensures
