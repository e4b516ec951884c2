use Rattle.std.proofs.Common.{map}
use Rattle.std.proofs.lemmas.Result.{err_from_is_err_and}
use Rattle.topos_text.specs.declared.symbol.Symbol.TheVariants as symbol
use Rattle.topos_text.specs.Tokens.{token_of}
use Rattle.topos_grammar.specs.Codes.{sign, eat_sign}
use Rattle.topos_grammar.specs.Reading.{eats_not}
use Rattle.topos_grammar.proofs.Steps.{eats_at}
use Rattle.topos_statements.specs.Passages.{each, braced}
use Rattle.topos_statements.proofs.Lists.{halts_from, halts_at}
use Rattle.topos_statements.proofs.item.braced.Goals as goal

pub returns-in_err-inside : goal.returns-in_err-inside
returns-in_err-inside g c =
    let p = err_from_is_err_and c.from_residual.result c.from_residual.ensures.1 in
    rw (p.1, p.2) (halts_at c.in_err-inside.field-0.0 (sign symbol.OpenBrace) (braced g.T.Item.sort g.T.Listed.class g.T.Item.passage) (map token_of c.args.tokens.now) (map token_of c.args.tokens.now) (λ s k other. eats_not other) c.in_err-inside.ensures)

pub returns-in_err-items : goal.returns-in_err-items
returns-in_err-items g c =
    let p = err_from_is_err_and c.from_residual-in_err-items.result c.from_residual-in_err-items.ensures.1 in
    rw (p.1, p.2) (halts_from c.in_err-items.field-0.0 (each g.T.Item.sort g.T.Listed.class g.T.Item.passage) (braced g.T.Item.sort g.T.Listed.class g.T.Item.passage) (map token_of c.in_ok-inside.inside.now) (map token_of c.args.tokens.now) (λ s k. ((λ vs. eat_sign symbol.CloseBrace (k vs)), λ rest d. eats_at c.in_ok-inside.ensures d)) c.in_err-items.ensures)

pub returns-in_err-end : goal.returns-in_err-end
returns-in_err-end g c =
    let p = err_from_is_err_and c.from_residual-in_err-end.result c.from_residual-in_err-end.ensures.1 in
    rw (p.1, p.2) (halts_at c.in_err-end.field-0.0 (sign symbol.CloseBrace) (braced g.T.Item.sort g.T.Listed.class g.T.Item.passage) (map token_of c.in_ok-items.rest.now) (map token_of c.args.tokens.now) (λ s k other. eats_at c.in_ok-inside.ensures (c.in_ok-items.ensures.read s (λ vs. eat_sign symbol.CloseBrace (k vs)) _ (eats_not other))) c.in_err-end.ensures)

pub returns : goal.returns
returns g c = record { read = λ s k x d. eats_at c.in_ok-inside.ensures (c.in_ok-items.ensures.read s (λ vs. eat_sign symbol.CloseBrace (k vs)) x (eats_at c.in_ok-end.ensures d)) }
