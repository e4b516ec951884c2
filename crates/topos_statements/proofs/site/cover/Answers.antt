use Rattle.std.proofs.Common.{map}
use Rattle.std.proofs.lemmas.Result.{err_from_is_err_and}
use Rattle.topos_text.specs.declared.word.Word.TheVariants as word
use Rattle.topos_text.specs.Tokens.{token_of, written, Reserved}
use Rattle.topos_grammar.specs.Kinds.{OfArrow, OfCover, ArrowName, Cover}
use Rattle.topos_grammar.specs.Codes.{the, give, eat, name, call, code}
use Rattle.topos_grammar.specs.Reading.{gives, eats_not, peeks, peeks_not}
use Rattle.topos_grammar.proofs.Steps.{eats_at}
use Rattle.topos_statements.specs.Passages.{several}
use Rattle.topos_statements.proofs.Exits.{stop_at, stop_in}
use Rattle.topos_statements.proofs.site.cover.Goals as goal

pub returns-in_err-object : goal.returns-in_err-object
unfolding code
returns-in_err-object c =
    let p = err_from_is_err_and c.from_residual.result c.from_residual.ensures.1 in
    rw (p.1, p.2) (stop_in c.in_err-object.field-0.0 (λ s k. eat (Reserved word.Cover) (name k)) (code Cover) (map token_of c.args.tokens.now) (map token_of c.args.tokens.now) _ (λ r d. d) c.in_err-object.ensures)

pub returns-in_err-by : goal.returns-in_err-by
unfolding code
returns-in_err-by c =
    let p = err_from_is_err_and c.from_residual-in_err-by.result c.from_residual-in_err-by.ensures.1 in
    rw (p.1, p.2) (stop_at c.in_err-by.field-0.0 (the word.By) (code Cover) (map token_of c.in_ok-object.after_object.now) (map token_of c.args.tokens.now) (λ other. c.in_ok-object.ensures.read OfCover _ _ (eats_not other)) c.in_err-by.ensures)

pub returns-in-Some : goal.returns-in-Some
unfolding code
returns-in-Some c = rw c.new.ensures.items (c.in_ok-object.ensures.read OfCover _ _ (eats_at c.in_ok-by.ensures (peeks (map token_of c.in-Some.rest.now, c.in-Some.ensures) (eats_at c.in-Some.ensures (gives)))))

pub returns-in_err-arrows : goal.returns-in_err-arrows
unfolding code
returns-in_err-arrows c =
    let p = err_from_is_err_and c.from_residual-in_err-arrows.result c.from_residual-in_err-arrows.ensures.1 in
    rw (p.1, p.2) (stop_in c.in_err-arrows.field-0.0 (several OfArrow (λ s k. call ArrowName k)) (code Cover) (map token_of c.in_ok-by.by.now) (map token_of c.args.tokens.now) (λ fs. give (record { object = written c.in_ok-object.object; arrows = fs })) (λ r d. c.in_ok-object.ensures.read OfCover _ _ (eats_at c.in_ok-by.ensures (peeks_not c.in_default.ensures (d)))) c.in_err-arrows.ensures.passes)

pub returns : goal.returns
unfolding code
returns c = c.in_ok-object.ensures.read OfCover _ _ (eats_at c.in_ok-by.ensures (peeks_not c.in_default.ensures (c.in_ok-arrows.ensures.passes.read OfCover (λ fs. give (record { object = written c.in_ok-object.object; arrows = fs })) _ (gives))))
