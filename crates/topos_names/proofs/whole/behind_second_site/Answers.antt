use Rattle.std.proofs.Common.{map, ◌∙◌, arith}
use Rattle.std.proofs.Math.ListN.{length-map}
use Rattle.std.proofs.lemmas.Result.{err_from_is_err_and}
use Rattle.topos_text.specs.Views as view
use Rattle.topos_names.specs.Spaces.{space_of}
use Rattle.topos_names.specs.DocumentParts.{behind, second_behind}
use Rattle.topos_names.proofs.DocumentExits.{same_through, stops_through, topologies_fail, topologies_given}
use Rattle.topos_names.proofs.whole.behind_second_site.Goals as goal

pub returns-in_err-names-clause-fault : goal.returns-in_err-names-clause-fault
returns-in_err-names-clause-fault c =
    let p = err_from_is_err_and c.from_residual.result c.from_residual.ensures.1 in
    rw (p.1, p.2) (λ fault e. topologies_fail c.args.site_len (space_of c.args.space) (map view.statement_of c.args.statements.now) (map view.topology_of c.args.topologies.now) fault (c.in_err-names.ensures.fault fault e))

pub returns-clause-ok : goal.returns-clause-ok
returns-clause-ok c =
    same_through (λ doc. doc.value) (behind 2 c.in_ok-before.before (space_of c.args.space) c.in_ok-names.names c.in_ok-names.tops (map view.statement_of c.args.statements.now)) (second_behind c.args.site_len (space_of c.args.space) (map view.topology_of c.args.topologies.now) (map view.statement_of c.args.statements.now)) c.with_statements.result
    (topologies_given c.args.site_len (space_of c.args.space) (map view.statement_of c.args.statements.now) (map view.topology_of c.args.topologies.now) c.in_ok-names.names c.in_ok-names.tops c.in_ok-before.before c.in_ok-names.ensures.ok (omega (arith, c.in_ok-before.ensures, length-map c.args.topologies.now view.topology_of))) c.with_statements.ensures.ok

pub returns-clause-fault : goal.returns-clause-fault
returns-clause-fault c =
    stops_through (behind 2 c.in_ok-before.before (space_of c.args.space) c.in_ok-names.names c.in_ok-names.tops (map view.statement_of c.args.statements.now)) (second_behind c.args.site_len (space_of c.args.space) (map view.topology_of c.args.topologies.now) (map view.statement_of c.args.statements.now)) c.with_statements.result
    (topologies_given c.args.site_len (space_of c.args.space) (map view.statement_of c.args.statements.now) (map view.topology_of c.args.topologies.now) c.in_ok-names.names c.in_ok-names.tops c.in_ok-before.before c.in_ok-names.ensures.ok (omega (arith, c.in_ok-before.ensures, length-map c.args.topologies.now view.topology_of))) c.with_statements.ensures.fault
