use Rattle.std.proofs.Common.{map}
use Rattle.std.proofs.lemmas.Result.{err_from_is_err_and}
use Rattle.topos_text.specs.Tokens.{token_of}
use Rattle.topos_grammar.specs.Kinds.{OfTerm, AnyTerm}
use Rattle.topos_grammar.specs.Codes.{call, terms}
use Rattle.topos_grammar.specs.Reading.{peeks, peeks_not}
use Rattle.topos_statements.specs.Passages.{several}
use Rattle.topos_statements.proofs.Lists.{halts_from}
use Rattle.topos_statements.proofs.step.terms.Goals as goal

pub returns-then-stands_symbol : goal.returns-then-stands_symbol
returns-then-stands_symbol c = rw c.new.ensures.items (record { read = λ s k x d. peeks c.if-stands_symbol.ensures (d) })

pub returns-in_err-terms : goal.returns-in_err-terms
returns-in_err-terms c =
    let p = err_from_is_err_and c.from_residual.result c.from_residual.ensures.1 in
    rw (p.1, p.2) (halts_from c.in_err-terms.field-0.0 (several OfTerm (λ s k. call AnyTerm k)) (λ s k. terms k) (map token_of c.args.tokens.now) (map token_of c.args.tokens.now) (λ s k. (k, λ r d. peeks_not c.if-stands_symbol.ensures (d))) c.in_err-terms.ensures.passes)

pub returns : goal.returns
returns c = record { read = λ s k x d. peeks_not c.if-stands_symbol.ensures (c.in_ok-terms.ensures.passes.read s k _ (d)) }
