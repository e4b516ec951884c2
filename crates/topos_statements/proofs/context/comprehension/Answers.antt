use Rattle.std.proofs.Common.{map}
use Rattle.std.proofs.lemmas.Result.{err_from_is_err_and}
use Rattle.topos_text.specs.declared.symbol.Symbol.TheVariants as symbol
use Rattle.topos_text.specs.Tokens.{token_of}
use Rattle.topos_grammar.specs.Codes.{sign, eat_sign}
use Rattle.topos_grammar.specs.Reading.{eats_not}
use Rattle.topos_grammar.proofs.Steps.{eats_at}
use Rattle.topos_statements.specs.Passages.{sequent_of, comprehension_of}
use Rattle.topos_statements.proofs.Lists.{halts_from, halts_at}
use Rattle.topos_statements.proofs.context.comprehension.Goals as goal

pub returns-in_err-inside : goal.returns-in_err-inside
returns-in_err-inside c =
    let p = err_from_is_err_and c.from_residual.result c.from_residual.ensures.1 in
    rw (p.1, p.2) (halts_at c.in_err-inside.field-0.0 (sign symbol.OpenBrace) comprehension_of (map token_of c.args.tokens.now) (map token_of c.args.tokens.now) (λ s k other. eats_not other) c.in_err-inside.ensures)

pub returns-in_err-variables : goal.returns-in_err-variables
returns-in_err-variables c =
    let p = err_from_is_err_and c.from_residual-in_err-variables.result c.from_residual-in_err-variables.ensures.1 in
    rw (p.1, p.2) (halts_from c.in_err-variables.field-0.0 sequent_of comprehension_of (map token_of c.in_ok-inside.inside.now) (map token_of c.args.tokens.now) (λ s k. ((λ p. eat_sign symbol.CloseBrace (k p)), λ r d. eats_at c.in_ok-inside.ensures (d))) c.in_err-variables.ensures)

pub returns-in_err-rest : goal.returns-in_err-rest
returns-in_err-rest c =
    let p = err_from_is_err_and c.from_residual-in_err-rest.result c.from_residual-in_err-rest.ensures.1 in
    rw (p.1, p.2) (halts_at c.in_err-rest.field-0.0 (sign symbol.CloseBrace) comprehension_of (map token_of c.in_ok-variables.after_term.now) (map token_of c.args.tokens.now) (λ s k other. eats_at c.in_ok-inside.ensures (c.in_ok-variables.ensures.read s (λ p. eat_sign symbol.CloseBrace (k p)) _ (eats_not other))) c.in_err-rest.ensures)

pub returns : goal.returns
returns c = record { read = λ s k x d. eats_at c.in_ok-inside.ensures (c.in_ok-variables.ensures.read s (λ p. eat_sign symbol.CloseBrace (k p)) _ (eats_at c.in_ok-rest.ensures (d))) }
