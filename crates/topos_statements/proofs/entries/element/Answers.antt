use Rattle.std.proofs.Common.{map}
use Rattle.std.proofs.lemmas.Result.{err_from_is_err_and}
use Rattle.topos_text.specs.Tokens.{token_of, written}
use Rattle.topos_grammar.specs.Kinds.{Element}
use Rattle.topos_grammar.specs.Codes.{AnyPlace, code}
use Rattle.topos_grammar.specs.Reading.{gives, places_not, peeks, peeks_not}
use Rattle.topos_grammar.proofs.Steps.{names_at}
use Rattle.topos_statements.proofs.Exits.{stop_at, places_at}
use Rattle.topos_statements.proofs.entries.element.Goals as goal

pub returns-in-Some : goal.returns-in-Some
unfolding code
returns-in-Some c = peeks (written c.in-Some.found, map token_of c.in-Some.rest.now, c.in-Some.ensures) (names_at c.in-Some.ensures (gives))

pub returns-in_err-found : goal.returns-in_err-found
unfolding code
returns-in_err-found c =
    let p = err_from_is_err_and c.from_residual.result c.from_residual.ensures.1 in
    rw (p.1, p.2) (stop_at c.in_err-found.field-0.0 AnyPlace (code Element) (map token_of c.args.tokens.now) (map token_of c.args.tokens.now) (λ other. peeks_not c.in_default.ensures (places_not other)) c.in_err-found.ensures)

pub returns : goal.returns
unfolding code
returns c = peeks_not c.in_default.ensures (places_at c.in_ok-found.ensures (gives))
