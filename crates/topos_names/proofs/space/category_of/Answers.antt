use Rattle.std.proofs.Common.{◌∙◌, ap, sym}
use Rattle.std.proofs.lemmas.Result.{err_from_is_err_and}
use Rattle.topos_text.specs.SiteNames as names
use Rattle.topos_text.specs.Views.{site_of}
use Rattle.topos_names.specs.Spaces.{space_of, limits}
use Rattle.topos_names.proofs.Changes.{left, left-goes_on, left-stops, left-ends}
use Rattle.topos_names.proofs.space.category_of.Goals as goal

pub loop-statement-init : goal.loop-statement-init
loop-statement-init c = ap (λ s. left (names.site_statement limits) site_of s c.args.statements.now 0) (sym c.in_ok-space.ensures)

pub loop-statement-preserved : goal.loop-statement-preserved
loop-statement-preserved c = c.loop-statement.invariant ∙ left-goes_on (names.site_statement limits) site_of (space_of c.loop-statement.space) c.args.statements.now c.loop-statement.statement-index c.statement-item.result c.loop-statement-test.true (space_of c.take.new.self) (rw (← c.statement-item.is) c.in_ok-take.ensures.ok)

pub returns-in_err-take-clause-fault : goal.returns-in_err-take-clause-fault
returns-in_err-take-clause-fault c =
    let p = err_from_is_err_and c.from_residual-in_err-take.result c.from_residual-in_err-take.ensures.1 in
    rw (p.1, p.2) (λ fault e. c.loop-statement.invariant ∙ left-stops (names.site_statement limits) site_of (space_of c.loop-statement.space) c.args.statements.now c.loop-statement.statement-index c.statement-item.result c.loop-statement-test.true fault (rw (← c.statement-item.is) (c.in_err-take.ensures.fault fault e)))

pub returns-clause-ok : goal.returns-clause-ok
returns-clause-ok c = c.loop-statement.invariant ∙ left-ends (names.site_statement limits) site_of (space_of c.loop-statement.space) c.args.statements.now c.loop-statement.statement-index c.loop-statement-test.false
