use Rattle.std.proofs.Common.{◌∙◌, Bool, List, sym, ap₂, subst}
use Rattle.topos_model.specs.declared.raw.Family.{Family}
use Rattle.topos_model.specs.topologies.Cover.{Site}
use Rattle.topos_model.specs.Laws.{IsTopology}
use Rattle.topologies.proofs.FirstFaults.{none_of_topology}
use Rattle.topos_session.specs.Topologies.{declared_site}
use Rattle.topos_session.proofs.topology.declared_topology.Goals as goal

pub returns-then-top-clause-lawful : goal.returns-then-top-clause-lawful
returns-then-top-clause-lawful c =
    let d = c.in_ok-dense.ensures.dense in
    let same = ap₂ (λ (b : Bool) (l : List Family). record { category = c.args.cat.now; dense = b; families = l }) (d.0 ∙ sym c.if-top.true) (d.1 ∙ sym (c.requires.listing.dense c.if-top.true)) in
    none_of_topology (declared_site c.args.cat.now c.args.top.now) 0 c.laws.ensures.lawful c.requires.listing.listed (subst (λ (s : Site). IsTopology s) same c.in_ok-dense.ensures.topology.topology)
