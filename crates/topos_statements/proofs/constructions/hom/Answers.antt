use Rattle.std.proofs.Common.{map}
use Rattle.std.proofs.lemmas.Result.{err_from_is_err_and}
use Rattle.topos_text.specs.Tokens.{token_of}
use Rattle.topos_grammar.specs.Codes.{AnyName, hom}
use Rattle.topos_grammar.specs.Reading.{gives, names_not}
use Rattle.topos_grammar.proofs.Steps.{names_at}
use Rattle.topos_statements.proofs.Exits.{stop_at}
use Rattle.topos_statements.proofs.constructions.hom.Goals as goal

pub returns-in_err-dom : goal.returns-in_err-dom
returns-in_err-dom c =
    let p = err_from_is_err_and c.from_residual.result c.from_residual.ensures.1 in
    rw (p.1, p.2) (stop_at c.in_err-dom.field-0.0 AnyName hom (map token_of c.args.tokens.now) (map token_of c.args.tokens.now) (λ other. names_not other) c.in_err-dom.ensures)

pub returns-in_err-cod : goal.returns-in_err-cod
returns-in_err-cod c =
    let p = err_from_is_err_and c.from_residual-in_err-cod.result c.from_residual-in_err-cod.ensures.1 in
    rw (p.1, p.2) (stop_at c.in_err-cod.field-0.0 AnyName hom (map token_of c.in_ok-dom.after_dom.now) (map token_of c.args.tokens.now) (λ other. names_at c.in_ok-dom.ensures (names_not other)) c.in_err-cod.ensures)

pub returns : goal.returns
returns c = rw c.in_ok-new.ensures.ok (names_at c.in_ok-dom.ensures (names_at c.in_ok-cod.ensures (gives)))
