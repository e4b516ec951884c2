use Rattle.std.proofs.Common.{◌∙◌, map, ap, sym, arith}
use Rattle.std.proofs.lemmas.Result.{err_from_is_err_and}
use Rattle.topos_text.specs.SiteNames.{site_statement, empty_space}
use Rattle.topos_text.specs.Views as view
use Rattle.topos_names.specs.Spaces.{space_of, limits}
use Rattle.topos_names.proofs.Turns.{turned, turned-begins, turned-goes_on, turned-stops, turned-over, turned-ends, few_statements}
use Rattle.topos_names.proofs.in_turn.site_of.Goals as goal

pub loop-statement-init : goal.loop-statement-init
loop-statement-init c = record {
  left = turned-begins (site_statement limits) view.site_of c.args.before (empty_space (map view.site_of c.args.statements.now)) c.args.statements.now ∙ ap (λ s. turned (site_statement limits) view.site_of c.args.before s c.args.statements.now 0) (sym c.in_ok-space.ensures);
  count = omega arith;
}

pub loop-statement-preserved : goal.loop-statement-preserved
loop-statement-preserved c =
    let few = few_statements c.loop-statement.count c.in_ok-one_more.ensures.ok in
    record {
      left = c.loop-statement.invariant.left ∙ turned-goes_on (site_statement limits) view.site_of c.args.before (space_of c.loop-statement.space) c.args.statements.now c.loop-statement.statement-index c.statement-item.result c.loop-statement-test.true c.statement-item.is (space_of c.take.new.self) (rw c.loop-statement.invariant.count at c.in_ok-one_more.ensures.ok) c.in_ok-take.ensures.ok;
      count = omega arith;
    }

pub returns-in_err-one_more-clause-fault : goal.returns-in_err-one_more-clause-fault
returns-in_err-one_more-clause-fault c =
    let p = err_from_is_err_and c.from_residual-in_err-one_more.result c.from_residual-in_err-one_more.ensures.1 in
    rw (p.1, p.2) (λ fault e. c.loop-statement.invariant.left ∙ turned-over (site_statement limits) view.site_of c.args.before (space_of c.loop-statement.space) c.args.statements.now c.loop-statement.statement-index c.statement-item.result c.loop-statement-test.true c.statement-item.is fault (rw c.loop-statement.invariant.count at (c.in_err-one_more.ensures.fault fault e)))

pub returns-in_err-take-clause-fault : goal.returns-in_err-take-clause-fault
returns-in_err-take-clause-fault c =
    let p = err_from_is_err_and c.from_residual-in_err-take.result c.from_residual-in_err-take.ensures.1 in
    rw (p.1, p.2) (λ fault e. c.loop-statement.invariant.left ∙ turned-stops (site_statement limits) view.site_of c.args.before (space_of c.loop-statement.space) c.args.statements.now c.loop-statement.statement-index c.statement-item.result c.loop-statement-test.true c.statement-item.is fault (rw c.loop-statement.invariant.count at c.in_ok-one_more.ensures.ok) (c.in_err-take.ensures.fault fault e))

pub returns-clause-ok : goal.returns-clause-ok
returns-clause-ok c = c.loop-statement.invariant.left ∙ turned-ends (site_statement limits) view.site_of c.args.before (space_of c.loop-statement.space) c.args.statements.now c.loop-statement.statement-index c.loop-statement-test.false
