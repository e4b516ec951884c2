use Rattle.std.proofs.Common.{ap, ◌∙◌}
use Rattle.finite_lists.proofs.Lists.{same_tests}
use Rattle.topos_model.specs.topologies.Cover.{contains}
use Rattle.topos_model.specs.topologies.LeastCovers.{least}
use Rattle.fin_category.specs.ArrowSets.{arrows_in}
use Rattle.fin_category.proofs.ArrowLists.{contains-each, each-contains}
use Rattle.sieve_table.specs.Sieves.{sieve_arrows}
use Rattle.sieve_table.proofs.SieveMembers.{sieve_of}
use Rattle.topologies.specs.Topologies.{site_of}
use Rattle.topologies.proofs.LeastCovers.{covers_among, among_covers, covers_above, least-below}
use Rattle.topologies.proofs.topology.Topology.is_cover.Goals as goal

pub returns : goal.returns
returns c =
    let k = c.args.cat.now in
    let s = site_of c.args.cat.now c.args.self.now in
    let S = sieve_arrows c.args.s.now in
    let d = c.args.s.now.at in
    let laws = c.laws.ensures.lawful in
    let top = c.requires.topology.topology in
    c.is_within.ensures ∙ ap (λ T. contains T (arrows_in c.arrows.result)) (c.least_arrows.ensures ∙ ap (least s) c.at.ensures) ∙ ap (contains (least s d)) c.arrows.ensures
    ∙ same_tests _ _
    (λ h. covers_among s d S (covers_above s laws top d S c.requires.object (sieve_of k d S c.requires.sieve) (contains-each (least s d) S h)))
    (λ h. each-contains (least s d) S (λ f i. least-below s d f S (among_covers s d S h) i))
