use Rattle.std.proofs.Common.{map}
use Rattle.std.specs.Option.{option_map}
use Rattle.topos_text.specs.Tokens.{written}
use Rattle.topos_text.specs.Views as view
use Rattle.topos_names.proofs.StatementEquations.{ask_made}
use Rattle.topos_names.proofs.statements.ask.Goals as goal

pub returns-clause-ok : goal.returns-clause-ok
returns-clause-ok c = ask_made c.args.scope.now (view.question_of c.args.question) (option_map written c.args.under.now) (map view.binding_of c.args.context.now) (view.term_of c.args.formula.now) c.in_ok-under.under c.in_ok-types.types c.in_ok-phi.phi c.asked.result c.in_ok-under.ensures.ok c.in_ok-types.ensures.ok (rw c.in_ok-types.ensures.variables at c.in_ok-phi.ensures.ok) (rw c.into_inner.ensures at (c.asked.ensures c.args.scope.now))
