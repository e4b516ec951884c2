use Rattle.std.proofs.Common.{map}
use Rattle.std.proofs.lemmas.Result.{err_from_is_err_and}
use Rattle.topos_text.specs.declared.word.Word.TheVariants as word
use Rattle.topos_text.specs.declared.symbol.Symbol.TheVariants as symbol
use Rattle.topos_text.specs.Tokens.{token_of, written, Sign}
use Rattle.topos_text.specs.Trees as tree
use Rattle.topos_grammar.specs.Kinds.{OfMapAt, OfStatement, MapAt}
use Rattle.topos_grammar.specs.Codes.{AnyName, the, give, eat, name, call, map_of}
use Rattle.topos_grammar.specs.Reading.{gives, names_not}
use Rattle.topos_grammar.proofs.Steps.{names_at}
use Rattle.topos_statements.specs.Passages.{braced}
use Rattle.topos_statements.proofs.Exits.{stop_at, stop_in}
use Rattle.topos_statements.proofs.declarations.map_of.Goals as goal

pub returns-in_err-name : goal.returns-in_err-name
returns-in_err-name c =
    let p = err_from_is_err_and c.from_residual.result c.from_residual.ensures.1 in
    rw (p.1, p.2) (stop_at c.in_err-name.field-0.0 AnyName map_of (map token_of c.args.tokens.now) (map token_of c.args.tokens.now) (λ other. names_not other) c.in_err-name.ensures)

pub returns-in_err-dom : goal.returns-in_err-dom
returns-in_err-dom c =
    let p = err_from_is_err_and c.from_residual-in_err-dom.result c.from_residual-in_err-dom.ensures.1 in
    rw (p.1, p.2) (stop_in c.in_err-dom.field-0.0 (λ s k. eat (Sign symbol.Colon) (name k)) map_of (map token_of c.in_ok-name.after_name.now) (map token_of c.args.tokens.now) _ (λ r d. names_at c.in_ok-name.ensures (d)) c.in_err-dom.ensures)

pub returns-in_err-cod : goal.returns-in_err-cod
returns-in_err-cod c =
    let p = err_from_is_err_and c.from_residual-in_err-cod.result c.from_residual-in_err-cod.ensures.1 in
    rw (p.1, p.2) (stop_in c.in_err-cod.field-0.0 (λ s k. eat (Sign symbol.Arrow) (name k)) map_of (map token_of c.in_ok-dom.after_dom.now) (map token_of c.args.tokens.now) _ (λ r d. names_at c.in_ok-name.ensures (c.in_ok-dom.ensures.read OfStatement _ _ (d))) c.in_err-cod.ensures)

pub returns-in_err-parts : goal.returns-in_err-parts
returns-in_err-parts c =
    let p = err_from_is_err_and c.from_residual-in_err-parts.result c.from_residual-in_err-parts.ensures.1 in
    rw (p.1, p.2) (stop_in c.in_err-parts.field-0.0 (braced OfMapAt (the word.At) (λ s k. call MapAt k)) map_of (map token_of c.in_ok-cod.after_cod.now) (map token_of c.args.tokens.now) (λ ps. give (tree.Map (written c.in_ok-name.name) (written c.in_ok-dom.dom) (written c.in_ok-cod.cod) ps)) (λ r d. names_at c.in_ok-name.ensures (c.in_ok-dom.ensures.read OfStatement _ _ (c.in_ok-cod.ensures.read OfStatement _ _ (d)))) c.in_err-parts.ensures)

pub returns : goal.returns
returns c = rw c.in_ok-new.ensures.ok (names_at c.in_ok-name.ensures (c.in_ok-dom.ensures.read OfStatement _ _ (c.in_ok-cod.ensures.read OfStatement _ _ (c.in_ok-parts.ensures.read OfStatement (λ ps. give (tree.Map (written c.in_ok-name.name) (written c.in_ok-dom.dom) (written c.in_ok-cod.cod) ps)) _ (gives)))))
