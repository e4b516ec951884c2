use Rattle.std.proofs.Common.{map}
use Rattle.std.proofs.lemmas.Result.{err_from_is_err_and}
use Rattle.topos_text.specs.declared.symbol.Symbol.TheVariants as symbol
use Rattle.topos_text.specs.Tokens.{token_of}
use Rattle.topos_grammar.specs.Kinds.{AnyTerm, Context}
use Rattle.topos_grammar.specs.Codes.{sign, code}
use Rattle.topos_grammar.specs.Reading.{eats_not, calls, calls_not}
use Rattle.topos_grammar.proofs.Steps.{eats_at}
use Rattle.topos_statements.specs.Passages.{sequent_of}
use Rattle.topos_statements.proofs.Lists.{halts_at}
use Rattle.topos_statements.proofs.Exits.{halts_in_kind, halts_in_code}
use Rattle.topos_statements.proofs.context.sequent.Goals as goal

pub returns-in_err-variables : goal.returns-in_err-variables
returns-in_err-variables c =
    let p = err_from_is_err_and c.from_residual.result c.from_residual.ensures.1 in
    rw (p.1, p.2) (halts_in_code c.in_err-variables.field-0.0 (code Context) sequent_of (map token_of c.args.tokens.now) (map token_of c.args.tokens.now) (λ s k r d. calls_not d) c.in_err-variables.ensures)

pub returns-in_err-inner : goal.returns-in_err-inner
returns-in_err-inner c =
    let p = err_from_is_err_and c.from_residual-in_err-inner.result c.from_residual-in_err-inner.ensures.1 in
    rw (p.1, p.2) (halts_at c.in_err-inner.field-0.0 (sign symbol.Bar) sequent_of (map token_of c.in_ok-variables.after_variables.now) (map token_of c.args.tokens.now) (λ s k other. calls c.in_ok-variables.ensures (eats_not other)) c.in_err-inner.ensures)

pub returns-in_err-term : goal.returns-in_err-term
returns-in_err-term c =
    let p = err_from_is_err_and c.from_residual-in_err-term.result c.from_residual-in_err-term.ensures.1 in
    rw (p.1, p.2) (halts_in_kind c.in_err-term.field-0.0 AnyTerm sequent_of (map token_of c.in_ok-inner.inner.now) (map token_of c.args.tokens.now) (λ s k r d. calls c.in_ok-variables.ensures (eats_at c.in_ok-inner.ensures (calls_not d))) c.in_err-term.ensures)

pub returns : goal.returns
returns c = record { read = λ s k x d. calls c.in_ok-variables.ensures (eats_at c.in_ok-inner.ensures (calls c.in_ok-term.ensures.0 (d))) }
