use Rattle.std.proofs.Common.{map}
use Rattle.std.proofs.lemmas.Result.{err_from_is_err_and}
use Rattle.topos_text.specs.Tokens.{token_of}
use Rattle.topos_grammar.specs.Kinds.{AnyTerm}
use Rattle.topos_grammar.specs.Codes.{with_term}
use Rattle.topos_grammar.specs.Reading.{calls, calls_not, peeks, peeks_not}
use Rattle.topos_grammar.proofs.Steps.{eats_at}
use Rattle.topos_statements.proofs.Exits.{halts_in_kind}
use Rattle.topos_statements.proofs.step.with_term.Goals as goal

pub returns-in_err-term : goal.returns-in_err-term
returns-in_err-term c =
    let p = err_from_is_err_and c.from_residual.result c.from_residual.ensures.1 in
    rw (p.1, p.2) (halts_in_kind c.in_err-term.field-0.0 AnyTerm (λ s k. with_term k) (map token_of c.in-Some.behind.now) (map token_of c.args.tokens.now) (λ s k r d. peeks (map token_of c.in-Some.behind.now, c.in-Some.ensures) (eats_at c.in-Some.ensures (calls_not d))) c.in_err-term.ensures)

pub returns-in-Some : goal.returns-in-Some
returns-in-Some c = record { read = λ s k x d. peeks (map token_of c.in-Some.behind.now, c.in-Some.ensures) (eats_at c.in-Some.ensures (calls c.in_ok-term.ensures.0 (d))) }

pub returns : goal.returns
returns c = record { read = λ s k x d. peeks_not c.in_default.ensures (d) }
