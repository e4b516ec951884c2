use Rattle.std.proofs.Common.{map}
use Rattle.std.proofs.lemmas.Result.{err_from_is_err_and}
use Rattle.topos_text.specs.Tokens.{written}
use Rattle.topos_text.specs.Views as view
use Rattle.topos_names.proofs.StatementEquations.{presheaf_twice, presheaf_stops, presheaf_made}
use Rattle.topos_names.proofs.statements.presheaf.Goals as goal

pub returns-in_err-is_new-clause-fault : goal.returns-in_err-is_new-clause-fault
returns-in_err-is_new-clause-fault c =
    let p = err_from_is_err_and c.from_residual.result c.from_residual.ensures.1 in
    rw (p.1, p.2) (λ fault e. presheaf_twice c.args.scope.now (written c.args.name.now) (map view.section_of c.args.sections.now) fault (c.in_err-is_new.ensures.fault fault e))

pub returns-in_err-stages-clause-fault : goal.returns-in_err-stages-clause-fault
returns-in_err-stages-clause-fault c =
    let p = err_from_is_err_and c.from_residual-in_err-stages.result c.from_residual-in_err-stages.ensures.1 in
    rw (p.1, p.2) (λ fault e. presheaf_stops c.args.scope.now (written c.args.name.now) (map view.section_of c.args.sections.now) c.in_ok-is_new.ensures.ok fault (rw c.site.ensures at (c.in_err-stages.ensures.fault fault e)))

pub returns-clause-ok : goal.returns-clause-ok
returns-clause-ok c = rw (c.in_ok-functor.ensures.declared, c.in_ok-functor.ensures.number) (presheaf_made c.args.scope.now (written c.args.name.now) (map view.section_of c.args.sections.now) c.in_ok-is_new.ensures.ok c.in_ok-stages.stages c.in_ok-stages.raw (rw c.site.ensures at c.in_ok-stages.ensures.ok))
