use Rattle.std.proofs.Common.{map}
use Rattle.std.proofs.lemmas.Result.{err_from_is_err_and}
use Rattle.topos_text.specs.declared.symbol.Symbol.TheVariants as symbol
use Rattle.topos_text.specs.Tokens.{token_of}
use Rattle.topos_grammar.specs.Kinds.{Element}
use Rattle.topos_grammar.specs.Codes.{sign, code, mapping}
use Rattle.topos_grammar.specs.Reading.{eats_not, calls, calls_not}
use Rattle.topos_grammar.proofs.Steps.{eats_at}
use Rattle.topos_statements.proofs.Lists.{halts_at}
use Rattle.topos_statements.proofs.Exits.{halts_in_code}
use Rattle.topos_statements.proofs.entries.mapping.Goals as goal

pub returns-in_err-from : goal.returns-in_err-from
returns-in_err-from c =
    let p = err_from_is_err_and c.from_residual.result c.from_residual.ensures.1 in
    rw (p.1, p.2) (halts_in_code c.in_err-from.field-0.0 (code Element) (λ s k. mapping k) (map token_of c.args.tokens.now) (map token_of c.args.tokens.now) (λ s k r d. calls_not d) c.in_err-from.ensures)

pub returns-in_err-sent : goal.returns-in_err-sent
returns-in_err-sent c =
    let p = err_from_is_err_and c.from_residual-in_err-sent.result c.from_residual-in_err-sent.ensures.1 in
    rw (p.1, p.2) (halts_at c.in_err-sent.field-0.0 (sign symbol.Arrow) (λ s k. mapping k) (map token_of c.in_ok-from.after_from.now) (map token_of c.args.tokens.now) (λ s k other. calls c.in_ok-from.ensures (eats_not other)) c.in_err-sent.ensures)

pub returns-in_err-to : goal.returns-in_err-to
returns-in_err-to c =
    let p = err_from_is_err_and c.from_residual-in_err-to.result c.from_residual-in_err-to.ensures.1 in
    rw (p.1, p.2) (halts_in_code c.in_err-to.field-0.0 (code Element) (λ s k. mapping k) (map token_of c.in_ok-sent.sent.now) (map token_of c.args.tokens.now) (λ s k r d. calls c.in_ok-from.ensures (eats_at c.in_ok-sent.ensures (calls_not d))) c.in_err-to.ensures)

pub returns : goal.returns
returns c = record { read = λ s k x d. calls c.in_ok-from.ensures (eats_at c.in_ok-sent.ensures (calls c.in_ok-to.ensures (d))) }
