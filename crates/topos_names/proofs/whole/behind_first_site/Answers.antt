use Rattle.std.proofs.Common.{[], ◌∷◌, map, ap, sym, ◌∙◌}
use Rattle.std.proofs.lemmas.Result.{err_from_is_err_and}
use Rattle.topos_text.specs.Views as view
use Rattle.topos_names.specs.Spaces.{space_of}
use Rattle.topos_names.specs.DocumentParts.{behind, first_behind}
use Rattle.topos_names.proofs.DocumentExits.{same_through, stops_through, topology_fails, topology_given}
use Rattle.topos_names.proofs.whole.behind_first_site.Goals as goal

pub returns-in_err-top-clause-fault : goal.returns-in_err-top-clause-fault
returns-in_err-top-clause-fault c =
    let p = err_from_is_err_and c.from_residual.result c.from_residual.ensures.1 in
    rw (p.1, p.2) (λ fault e. topology_fails c.args.site_len (space_of c.args.space) (map view.statement_of c.args.statements.now) (view.covers_of c.args.covers.now) fault (c.in_err-top.ensures.fault fault e))

pub returns-clause-ok : goal.returns-clause-ok
returns-clause-ok c =
    same_through (λ doc. doc.value) (behind 1 c.in_ok-before.before (space_of c.args.space) c.new.result c.in_ok-tops.tops (map view.statement_of c.args.statements.now)) (first_behind c.args.site_len (space_of c.args.space) (view.covers_of c.args.covers.now) (map view.statement_of c.args.statements.now)) c.with_statements.result
    (topology_given c.args.site_len (space_of c.args.space) (map view.statement_of c.args.statements.now) (view.covers_of c.args.covers.now) c.in_ok-top.top c.in_ok-before.before c.in_ok-top.ensures.ok (rw c.covers_len.ensures at c.in_ok-before.ensures)
    ∙ ap (λ names. behind 1 c.in_ok-before.before (space_of c.args.space) names (c.in_ok-top.top ∷ []) (map view.statement_of c.args.statements.now)) (sym c.new.ensures)
    ∙ ap (λ tops. behind 1 c.in_ok-before.before (space_of c.args.space) c.new.result tops (map view.statement_of c.args.statements.now)) (sym c.in_ok-tops.ensures)) c.with_statements.ensures.ok

pub returns-clause-fault : goal.returns-clause-fault
returns-clause-fault c =
    stops_through (behind 1 c.in_ok-before.before (space_of c.args.space) c.new.result c.in_ok-tops.tops (map view.statement_of c.args.statements.now)) (first_behind c.args.site_len (space_of c.args.space) (view.covers_of c.args.covers.now) (map view.statement_of c.args.statements.now)) c.with_statements.result
    (topology_given c.args.site_len (space_of c.args.space) (map view.statement_of c.args.statements.now) (view.covers_of c.args.covers.now) c.in_ok-top.top c.in_ok-before.before c.in_ok-top.ensures.ok (rw c.covers_len.ensures at c.in_ok-before.ensures)
    ∙ ap (λ names. behind 1 c.in_ok-before.before (space_of c.args.space) names (c.in_ok-top.top ∷ []) (map view.statement_of c.args.statements.now)) (sym c.new.ensures)
    ∙ ap (λ tops. behind 1 c.in_ok-before.before (space_of c.args.space) c.new.result tops (map view.statement_of c.args.statements.now)) (sym c.in_ok-tops.ensures)) c.with_statements.ensures.fault
