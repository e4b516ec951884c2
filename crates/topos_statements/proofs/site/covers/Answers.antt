use Rattle.std.proofs.Common.{map}
use Rattle.std.proofs.lemmas.Result.{err_from_is_err_and}
use Rattle.topos_text.specs.declared.word.Word.TheVariants as word
use Rattle.topos_text.specs.declared.symbol.Symbol.TheVariants as symbol
use Rattle.topos_text.specs.Tokens.{token_of}
use Rattle.topos_text.specs.Trees as tree
use Rattle.topos_grammar.specs.Kinds.{OfCover, OfCovers, Cover, Covers}
use Rattle.topos_grammar.specs.Codes.{the, sign, give, call, code}
use Rattle.topos_grammar.specs.Reading.{gives, eats_not, peeks, peeks_not}
use Rattle.topos_grammar.proofs.Steps.{eats_at}
use Rattle.topos_statements.specs.Passages.{each}
use Rattle.topos_statements.proofs.Exits.{stop_at, stop_in}
use Rattle.topos_statements.proofs.site.covers.Goals as goal

pub returns-in_err-dense : goal.returns-in_err-dense
unfolding code
returns-in_err-dense c =
    let p = err_from_is_err_and c.from_residual.result c.from_residual.ensures.1 in
    rw (p.1, p.2) (stop_at c.in_err-dense.field-0.0 (the word.Dense) (code Covers) (map token_of c.in-Some.behind.now) (map token_of c.args.tokens.now) (λ other. peeks (map token_of c.in-Some.behind.now, c.in-Some.ensures) (eats_at c.in-Some.ensures (eats_not other))) c.in_err-dense.ensures)

pub returns-in_err-rest : goal.returns-in_err-rest
unfolding code
returns-in_err-rest c =
    let p = err_from_is_err_and c.from_residual-in_err-rest.result c.from_residual-in_err-rest.ensures.1 in
    rw (p.1, p.2) (stop_at c.in_err-rest.field-0.0 (sign symbol.Semicolon) (code Covers) (map token_of c.in_ok-dense.dense.now) (map token_of c.args.tokens.now) (λ other. peeks (map token_of c.in-Some.behind.now, c.in-Some.ensures) (eats_at c.in-Some.ensures (eats_at c.in_ok-dense.ensures (eats_not other)))) c.in_err-rest.ensures)

pub returns-in-Some : goal.returns-in-Some
unfolding code
returns-in-Some c = peeks (map token_of c.in-Some.behind.now, c.in-Some.ensures) (eats_at c.in-Some.ensures (eats_at c.in_ok-dense.ensures (eats_at c.in_ok-rest.ensures (gives))))

pub returns-in_err-covers : goal.returns-in_err-covers
unfolding code
returns-in_err-covers c =
    let p = err_from_is_err_and c.from_residual-in_err-covers.result c.from_residual-in_err-covers.ensures.1 in
    rw (p.1, p.2) (stop_in c.in_err-covers.field-0.0 (each OfCover (the word.Cover) (λ s k. call Cover k)) (code Covers) (map token_of c.args.tokens.now) (map token_of c.args.tokens.now) (λ cs. give (tree.Listed cs)) (λ r d. peeks_not c.in_default.ensures (d)) c.in_err-covers.ensures)

pub returns : goal.returns
unfolding code
returns c = peeks_not c.in_default.ensures (c.in_ok-covers.ensures.read OfCovers (λ cs. give (tree.Listed cs)) _ (gives))
