use Rattle.std.proofs.Common.{map}
use Rattle.std.proofs.lemmas.Result.{err_from_is_err_and}
use Rattle.topos_text.specs.Tokens.{token_of}
use Rattle.topos_grammar.specs.Kinds.{ArrowName}
use Rattle.topos_grammar.specs.Codes.{AnyName, code}
use Rattle.topos_grammar.specs.Reading.{gives, names_not, peeks, peeks_not}
use Rattle.topos_grammar.proofs.Steps.{eats_at, names_at}
use Rattle.topos_statements.proofs.Exits.{stop_at}
use Rattle.topos_statements.proofs.site.arrow_name.Goals as goal

pub returns-in_err-object : goal.returns-in_err-object
unfolding code
returns-in_err-object c =
    let p = err_from_is_err_and c.from_residual.result c.from_residual.ensures.1 in
    rw (p.1, p.2) (stop_at c.in_err-object.field-0.0 AnyName (code ArrowName) (map token_of c.in-Some.behind.now) (map token_of c.args.tokens.now) (λ other. peeks (map token_of c.in-Some.behind.now, c.in-Some.ensures) (eats_at c.in-Some.ensures (names_not other))) c.in_err-object.ensures)

pub returns-in-Some : goal.returns-in-Some
unfolding code
returns-in-Some c = peeks (map token_of c.in-Some.behind.now, c.in-Some.ensures) (eats_at c.in-Some.ensures (names_at c.in_ok-object.ensures (gives)))

pub returns-in_err-arrow : goal.returns-in_err-arrow
unfolding code
returns-in_err-arrow c =
    let p = err_from_is_err_and c.from_residual-in_err-arrow.result c.from_residual-in_err-arrow.ensures.1 in
    rw (p.1, p.2) (stop_at c.in_err-arrow.field-0.0 AnyName (code ArrowName) (map token_of c.args.tokens.now) (map token_of c.args.tokens.now) (λ other. peeks_not c.in_default.ensures (names_not other)) c.in_err-arrow.ensures)

pub returns : goal.returns
unfolding code
returns c = peeks_not c.in_default.ensures (names_at c.in_ok-arrow.ensures (gives))
