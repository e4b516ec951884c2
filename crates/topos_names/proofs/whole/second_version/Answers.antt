use Rattle.std.proofs.Common.{map, ◌∙◌, arith}
use Rattle.std.proofs.Math.ListN.{length-map}
use Rattle.std.proofs.lemmas.Result.{err_from_is_err_and}
use Rattle.topos_text.specs.Trees as tree
use Rattle.topos_text.specs.Resolving as spec
use Rattle.topos_text.specs.Views as view
use Rattle.topos_names.specs.Spaces.{space_of, limits}
use Rattle.topos_names.specs.DocumentParts.{second_behind}
use Rattle.topos_names.proofs.DocumentExits.{same_through, stops_through, second_site_fails, second_site_given}
use Rattle.topos_names.proofs.whole.second_version.Goals as goal

pub returns-in_err-space-clause-fault : goal.returns-in_err-space-clause-fault
returns-in_err-space-clause-fault c =
    let p = err_from_is_err_and c.from_residual.result c.from_residual.ensures.1 in
    rw (p.1, p.2) (λ fault e. second_site_fails (map view.site_of c.args.site.now) (map view.statement_of c.args.statements.now) (map view.topology_of c.args.topologies.now) fault (c.in_err-space.ensures.fault fault e))

pub returns-clause-ok : goal.returns-clause-ok
returns-clause-ok c =
    same_through (λ doc. doc.value) (second_behind c.in_ok-site_len.site_len (space_of c.in_ok-space.space) (map view.topology_of c.args.topologies.now) (map view.statement_of c.args.statements.now)) (spec.resolved limits (tree.SecondVersion (map view.site_of c.args.site.now) (map view.topology_of c.args.topologies.now) (map view.statement_of c.args.statements.now))) c.behind_second_site.result
    (second_site_given (map view.site_of c.args.site.now) (map view.statement_of c.args.statements.now) (map view.topology_of c.args.topologies.now) (space_of c.in_ok-space.space) c.in_ok-site_len.site_len c.in_ok-space.ensures.ok (omega (arith, c.in_ok-site_len.ensures, length-map c.args.site.now view.site_of))) c.behind_second_site.ensures.ok

pub returns-clause-fault : goal.returns-clause-fault
returns-clause-fault c =
    stops_through (second_behind c.in_ok-site_len.site_len (space_of c.in_ok-space.space) (map view.topology_of c.args.topologies.now) (map view.statement_of c.args.statements.now)) (spec.resolved limits (tree.SecondVersion (map view.site_of c.args.site.now) (map view.topology_of c.args.topologies.now) (map view.statement_of c.args.statements.now))) c.behind_second_site.result
    (second_site_given (map view.site_of c.args.site.now) (map view.statement_of c.args.statements.now) (map view.topology_of c.args.topologies.now) (space_of c.in_ok-space.space) c.in_ok-site_len.site_len c.in_ok-space.ensures.ok (omega (arith, c.in_ok-site_len.ensures, length-map c.args.site.now view.site_of))) c.behind_second_site.ensures.fault
