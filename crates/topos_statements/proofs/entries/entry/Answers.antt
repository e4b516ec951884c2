use Rattle.std.proofs.Common.{map}
use Rattle.std.proofs.lemmas.Result.{err_from_is_err_and}
use Rattle.topos_text.specs.declared.symbol.Symbol.TheVariants as symbol
use Rattle.topos_text.specs.Tokens.{token_of, Sign}
use Rattle.topos_grammar.specs.Codes.{AnyName, eat, name, entry}
use Rattle.topos_grammar.specs.Reading.{names_not}
use Rattle.topos_grammar.proofs.Steps.{names_at}
use Rattle.topos_statements.proofs.Lists.{halts_from, halts_at}
use Rattle.topos_statements.proofs.entries.entry.Goals as goal

pub returns-in_err-from : goal.returns-in_err-from
returns-in_err-from c =
    let p = err_from_is_err_and c.from_residual.result c.from_residual.ensures.1 in
    rw (p.1, p.2) (halts_at c.in_err-from.field-0.0 AnyName (λ s k. entry k) (map token_of c.args.tokens.now) (map token_of c.args.tokens.now) (λ s k other. names_not other) c.in_err-from.ensures)

pub returns-in_err-to : goal.returns-in_err-to
returns-in_err-to c =
    let p = err_from_is_err_and c.from_residual-in_err-to.result c.from_residual-in_err-to.ensures.1 in
    rw (p.1, p.2) (halts_from c.in_err-to.field-0.0 (λ s k. eat (Sign symbol.Arrow) (name k)) (λ s k. entry k) (map token_of c.in_ok-from.after_from.now) (map token_of c.args.tokens.now) (λ s k. (_, λ r d. names_at c.in_ok-from.ensures (d))) c.in_err-to.ensures)

pub returns : goal.returns
returns c = record { read = λ s k x d. names_at c.in_ok-from.ensures (c.in_ok-to.ensures.read s _ _ (d)) }
