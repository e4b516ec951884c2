use Rattle.std.proofs.Common.{map}
use Rattle.std.proofs.lemmas.Result.{err_from_is_err_and}
use Rattle.topos_text.specs.declared.word.Word.TheVariants as word
use Rattle.topos_text.specs.declared.symbol.Symbol.TheVariants as symbol
use Rattle.topos_text.specs.Tokens.{token_of, Reserved, Sign}
use Rattle.topos_grammar.specs.Kinds.{OfSent, ArrowName, Sent}
use Rattle.topos_grammar.specs.Codes.{AnyName, sign, eat, name, code}
use Rattle.topos_grammar.specs.Reading.{gives, eats_not, names_not, calls, calls_not, peeks, peeks_not}
use Rattle.topos_grammar.proofs.Steps.{eats_at, names_at}
use Rattle.topos_statements.proofs.Exits.{stop_at, stop_in, stop_in_code}
use Rattle.topos_statements.proofs.entries.sent.Goals as goal

pub returns-in_err-object : goal.returns-in_err-object
unfolding code
returns-in_err-object c =
    let p = err_from_is_err_and c.from_residual.result c.from_residual.ensures.1 in
    rw (p.1, p.2) (stop_at c.in_err-object.field-0.0 AnyName (code Sent) (map token_of c.in-Some.behind.now) (map token_of c.args.tokens.now) (λ other. peeks (map token_of c.in-Some.behind.now, c.in-Some.ensures) (eats_at c.in-Some.ensures (names_not other))) c.in_err-object.ensures)

pub returns-in_err-to : goal.returns-in_err-to
unfolding code
returns-in_err-to c =
    let p = err_from_is_err_and c.from_residual-in_err-to.result c.from_residual-in_err-to.ensures.1 in
    rw (p.1, p.2) (stop_in c.in_err-to.field-0.0 (λ s k. eat (Sign symbol.Colon) (name k)) (code Sent) (map token_of c.in_ok-object.after_object.now) (map token_of c.args.tokens.now) _ (λ r d. peeks (map token_of c.in-Some.behind.now, c.in-Some.ensures) (eats_at c.in-Some.ensures (names_at c.in_ok-object.ensures (d)))) c.in_err-to.ensures)

pub returns-in-Some : goal.returns-in-Some
unfolding code
returns-in-Some c = peeks (map token_of c.in-Some.behind.now, c.in-Some.ensures) (eats_at c.in-Some.ensures (names_at c.in_ok-object.ensures (c.in_ok-to.ensures.read OfSent _ _ (gives))))

pub returns-in_err-arrow : goal.returns-in_err-arrow
unfolding code
returns-in_err-arrow c =
    let p = err_from_is_err_and c.from_residual-in_err-arrow.result c.from_residual-in_err-arrow.ensures.1 in
    rw (p.1, p.2) (stop_in c.in_err-arrow.field-0.0 (λ s k. eat (Reserved word.Along) (name k)) (code Sent) (map token_of c.args.tokens.now) (map token_of c.args.tokens.now) _ (λ r d. peeks_not c.in_default.ensures (d)) c.in_err-arrow.ensures)

pub returns-in_err-along : goal.returns-in_err-along
unfolding code
returns-in_err-along c =
    let p = err_from_is_err_and c.from_residual-in_err-along.result c.from_residual-in_err-along.ensures.1 in
    rw (p.1, p.2) (stop_at c.in_err-along.field-0.0 (sign symbol.Colon) (code Sent) (map token_of c.in_ok-arrow.after_arrow.now) (map token_of c.args.tokens.now) (λ other. peeks_not c.in_default.ensures (c.in_ok-arrow.ensures.read OfSent _ _ (eats_not other))) c.in_err-along.ensures)

pub returns-in_err-image : goal.returns-in_err-image
unfolding code
returns-in_err-image c =
    let p = err_from_is_err_and c.from_residual-in_err-image.result c.from_residual-in_err-image.ensures.1 in
    rw (p.1, p.2) (stop_in_code c.in_err-image.field-0.0 (code ArrowName) (code Sent) (map token_of c.in_ok-along.along.now) (map token_of c.args.tokens.now) (λ r d. peeks_not c.in_default.ensures (c.in_ok-arrow.ensures.read OfSent _ _ (eats_at c.in_ok-along.ensures (calls_not d)))) c.in_err-image.ensures)

pub returns : goal.returns
unfolding code
returns c = peeks_not c.in_default.ensures (c.in_ok-arrow.ensures.read OfSent _ _ (eats_at c.in_ok-along.ensures (calls c.in_ok-image.ensures (gives))))
