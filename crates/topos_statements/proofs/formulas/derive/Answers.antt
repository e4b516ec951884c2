use Rattle.std.proofs.Common.{map}
use Rattle.std.specs.Option.{option_map}
use Rattle.std.proofs.lemmas.Result.{err_from_is_err_and}
use Rattle.topos_text.specs.Tokens.{token_of, written}
use Rattle.topos_text.specs.Trees as tree
use Rattle.topos_grammar.specs.Kinds.{OfStep, OfStatement, Under, Step}
use Rattle.topos_grammar.specs.Codes.{AnyName, give, call, code, derive}
use Rattle.topos_grammar.specs.Reading.{gives, calls, calls_not}
use Rattle.topos_statements.specs.Passages.{braced}
use Rattle.topos_statements.specs.Views.{version_of}
use Rattle.topos_statements.proofs.Exits.{stop_in, stop_in_code}
use Rattle.topos_statements.proofs.formulas.derive.Goals as goal

pub returns-in_err-under : goal.returns-in_err-under
returns-in_err-under c =
    let p = err_from_is_err_and c.from_residual.result c.from_residual.ensures.1 in
    rw (p.1, p.2) (stop_in_code c.in_err-under.field-0.0 (code (Under (version_of c.args.version))) (derive (version_of c.args.version)) (map token_of c.args.tokens.now) (map token_of c.args.tokens.now) (λ r d. calls_not d) c.in_err-under.ensures)

pub returns-in_err-steps : goal.returns-in_err-steps
returns-in_err-steps c =
    let p = err_from_is_err_and c.from_residual-in_err-steps.result c.from_residual-in_err-steps.ensures.1 in
    rw (p.1, p.2) (stop_in c.in_err-steps.field-0.0 (braced OfStep AnyName (λ s k. call Step k)) (derive (version_of c.args.version)) (map token_of c.in_ok-under.after_under.now) (map token_of c.args.tokens.now) (λ ss. give (tree.Derive (option_map written c.in_ok-under.under) ss)) (λ r d. calls c.in_ok-under.ensures (d)) c.in_err-steps.ensures)

pub returns : goal.returns
returns c = rw c.in_ok-new.ensures.ok (calls c.in_ok-under.ensures (c.in_ok-steps.ensures.read OfStatement (λ ss. give (tree.Derive (option_map written c.in_ok-under.under) ss)) _ (gives)))
