use Rattle.std.proofs.Common.{map}
use Rattle.std.proofs.lemmas.Result.{err_from_is_err_and}
use Rattle.topos_text.specs.declared.word.Word.TheVariants as word
use Rattle.topos_text.specs.declared.symbol.Symbol.TheVariants as symbol
use Rattle.topos_text.specs.Tokens.{token_of, written, Reserved}
use Rattle.topos_grammar.specs.Kinds.{OfMapping, OfMapAt, MapAt}
use Rattle.topos_grammar.specs.Codes.{sign, give, eat, name, code, mapping}
use Rattle.topos_grammar.specs.Reading.{gives, eats_not}
use Rattle.topos_grammar.proofs.Steps.{eats_at}
use Rattle.topos_statements.specs.Passages.{several}
use Rattle.topos_statements.proofs.Exits.{stop_at, stop_in}
use Rattle.topos_statements.proofs.entries.map_at.Goals as goal

pub returns-in_err-object : goal.returns-in_err-object
unfolding code
returns-in_err-object c =
    let p = err_from_is_err_and c.from_residual.result c.from_residual.ensures.1 in
    rw (p.1, p.2) (stop_in c.in_err-object.field-0.0 (λ s k. eat (Reserved word.At) (name k)) (code MapAt) (map token_of c.args.tokens.now) (map token_of c.args.tokens.now) _ (λ r d. d) c.in_err-object.ensures)

pub returns-in_err-at : goal.returns-in_err-at
unfolding code
returns-in_err-at c =
    let p = err_from_is_err_and c.from_residual-in_err-at.result c.from_residual-in_err-at.ensures.1 in
    rw (p.1, p.2) (stop_at c.in_err-at.field-0.0 (sign symbol.Colon) (code MapAt) (map token_of c.in_ok-object.after_object.now) (map token_of c.args.tokens.now) (λ other. c.in_ok-object.ensures.read OfMapAt _ _ (eats_not other)) c.in_err-at.ensures)

pub returns-in_err-entries : goal.returns-in_err-entries
unfolding code
returns-in_err-entries c =
    let p = err_from_is_err_and c.from_residual-in_err-entries.result c.from_residual-in_err-entries.ensures.1 in
    rw (p.1, p.2) (stop_in c.in_err-entries.field-0.0 (several OfMapping (λ s k. mapping k)) (code MapAt) (map token_of c.in_ok-at.at.now) (map token_of c.args.tokens.now) (λ es. give (record { object = written c.in_ok-object.object; entries = es })) (λ r d. c.in_ok-object.ensures.read OfMapAt _ _ (eats_at c.in_ok-at.ensures (d))) c.in_err-entries.ensures.passes)

pub returns : goal.returns
unfolding code
returns c = c.in_ok-object.ensures.read OfMapAt _ _ (eats_at c.in_ok-at.ensures (c.in_ok-entries.ensures.passes.read OfMapAt (λ es. give (record { object = written c.in_ok-object.object; entries = es })) _ (gives)))
