use Rattle.std.proofs.Common.{map}
use Rattle.std.specs.Option.{option_map}
use Rattle.std.proofs.lemmas.Result.{err_from_is_err_and}
use Rattle.topos_text.specs.Tokens.{token_of, written}
use Rattle.topos_text.specs.Trees as tree
use Rattle.topos_grammar.specs.Kinds.{OfStatement, Under}
use Rattle.topos_grammar.specs.Codes.{give, code, valid}
use Rattle.topos_grammar.specs.Reading.{gives, calls, calls_not}
use Rattle.topos_statements.specs.Passages.{sequent_of}
use Rattle.topos_statements.specs.Views.{version_of}
use Rattle.topos_statements.proofs.Exits.{stop_in, stop_in_code}
use Rattle.topos_statements.proofs.formulas.valid.Goals as goal

pub returns-in_err-under : goal.returns-in_err-under
returns-in_err-under c =
    let p = err_from_is_err_and c.from_residual.result c.from_residual.ensures.1 in
    rw (p.1, p.2) (stop_in_code c.in_err-under.field-0.0 (code (Under (version_of c.args.version))) (valid (version_of c.args.version)) (map token_of c.args.tokens.now) (map token_of c.args.tokens.now) (λ r d. calls_not d) c.in_err-under.ensures)

pub returns-in_err-context : goal.returns-in_err-context
returns-in_err-context c =
    let p = err_from_is_err_and c.from_residual-in_err-context.result c.from_residual-in_err-context.ensures.1 in
    rw (p.1, p.2) (stop_in c.in_err-context.field-0.0 sequent_of (valid (version_of c.args.version)) (map token_of c.in_ok-under.after_under.now) (map token_of c.args.tokens.now) (λ p. give (tree.Ask tree.Valid (option_map written c.in_ok-under.under) p.0 p.1)) (λ r d. calls c.in_ok-under.ensures (d)) c.in_err-context.ensures)

pub returns : goal.returns
returns c = rw c.in_ok-new.ensures.ok (calls c.in_ok-under.ensures (c.in_ok-context.ensures.read OfStatement (λ p. give (tree.Ask tree.Valid (option_map written c.in_ok-under.under) p.0 p.1)) _ (gives)))
