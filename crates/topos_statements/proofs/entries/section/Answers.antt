use Rattle.std.proofs.Common.{map}
use Rattle.std.proofs.lemmas.Result.{err_from_is_err_and}
use Rattle.topos_text.specs.declared.word.Word.TheVariants as word
use Rattle.topos_text.specs.declared.symbol.Symbol.TheVariants as symbol
use Rattle.topos_text.specs.Tokens.{token_of, written, Reserved}
use Rattle.topos_text.specs.Trees as tree
use Rattle.topos_grammar.specs.Kinds.{OfName, OfEntry, OfSection, Section}
use Rattle.topos_grammar.specs.Codes.{AnyName, sign, give, eat, name, code, entry}
use Rattle.topos_grammar.specs.Reading.{gives, eats_not, names_not, peeks, peeks_not}
use Rattle.topos_grammar.proofs.Steps.{eats_at, names_at}
use Rattle.topos_statements.specs.Passages.{several}
use Rattle.topos_statements.proofs.Exits.{stop_at, stop_in}
use Rattle.topos_statements.proofs.entries.section.Goals as goal

pub returns-in_err-object : goal.returns-in_err-object
unfolding code
returns-in_err-object c =
    let p = err_from_is_err_and c.from_residual.result c.from_residual.ensures.1 in
    rw (p.1, p.2) (stop_at c.in_err-object.field-0.0 AnyName (code Section) (map token_of c.in-Some.behind.now) (map token_of c.args.tokens.now) (λ other. peeks (map token_of c.in-Some.behind.now, c.in-Some.ensures) (eats_at c.in-Some.ensures (names_not other))) c.in_err-object.ensures)

pub returns-in_err-at : goal.returns-in_err-at
unfolding code
returns-in_err-at c =
    let p = err_from_is_err_and c.from_residual-in_err-at.result c.from_residual-in_err-at.ensures.1 in
    rw (p.1, p.2) (stop_at c.in_err-at.field-0.0 (sign symbol.Colon) (code Section) (map token_of c.in_ok-object.after_object.now) (map token_of c.args.tokens.now) (λ other. peeks (map token_of c.in-Some.behind.now, c.in-Some.ensures) (eats_at c.in-Some.ensures (names_at c.in_ok-object.ensures (eats_not other)))) c.in_err-at.ensures)

pub returns-in_err-elements : goal.returns-in_err-elements
unfolding code
returns-in_err-elements c =
    let p = err_from_is_err_and c.from_residual-in_err-elements.result c.from_residual-in_err-elements.ensures.1 in
    rw (p.1, p.2) (stop_in c.in_err-elements.field-0.0 (several OfName (λ s k. name k)) (code Section) (map token_of c.in_ok-at.at.now) (map token_of c.args.tokens.now) (λ xs. give (tree.At (written c.in_ok-object.object) xs)) (λ r d. peeks (map token_of c.in-Some.behind.now, c.in-Some.ensures) (eats_at c.in-Some.ensures (names_at c.in_ok-object.ensures (eats_at c.in_ok-at.ensures (d))))) c.in_err-elements.ensures.passes)

pub returns-in-Some : goal.returns-in-Some
unfolding code
returns-in-Some c = peeks (map token_of c.in-Some.behind.now, c.in-Some.ensures) (eats_at c.in-Some.ensures (names_at c.in_ok-object.ensures (eats_at c.in_ok-at.ensures (c.in_ok-elements.ensures.passes.read OfSection (λ xs. give (tree.At (written c.in_ok-object.object) xs)) _ (gives)))))

pub returns-in_err-arrow : goal.returns-in_err-arrow
unfolding code
returns-in_err-arrow c =
    let p = err_from_is_err_and c.from_residual-in_err-arrow.result c.from_residual-in_err-arrow.ensures.1 in
    rw (p.1, p.2) (stop_in c.in_err-arrow.field-0.0 (λ s k. eat (Reserved word.Along) (name k)) (code Section) (map token_of c.args.tokens.now) (map token_of c.args.tokens.now) _ (λ r d. peeks_not c.in_default.ensures (d)) c.in_err-arrow.ensures)

pub returns-in_err-along : goal.returns-in_err-along
unfolding code
returns-in_err-along c =
    let p = err_from_is_err_and c.from_residual-in_err-along.result c.from_residual-in_err-along.ensures.1 in
    rw (p.1, p.2) (stop_at c.in_err-along.field-0.0 (sign symbol.Colon) (code Section) (map token_of c.in_ok-arrow.after_arrow.now) (map token_of c.args.tokens.now) (λ other. peeks_not c.in_default.ensures (c.in_ok-arrow.ensures.read OfSection _ _ (eats_not other))) c.in_err-along.ensures)

pub returns-in_err-entries : goal.returns-in_err-entries
unfolding code
returns-in_err-entries c =
    let p = err_from_is_err_and c.from_residual-in_err-entries.result c.from_residual-in_err-entries.ensures.1 in
    rw (p.1, p.2) (stop_in c.in_err-entries.field-0.0 (several OfEntry (λ s k. entry k)) (code Section) (map token_of c.in_ok-along.along.now) (map token_of c.args.tokens.now) (λ es. give (tree.Along (written c.in_ok-arrow.arrow) es)) (λ r d. peeks_not c.in_default.ensures (c.in_ok-arrow.ensures.read OfSection _ _ (eats_at c.in_ok-along.ensures (d)))) c.in_err-entries.ensures.passes)

pub returns : goal.returns
unfolding code
returns c = peeks_not c.in_default.ensures (c.in_ok-arrow.ensures.read OfSection _ _ (eats_at c.in_ok-along.ensures (c.in_ok-entries.ensures.passes.read OfSection (λ es. give (tree.Along (written c.in_ok-arrow.arrow) es)) _ (gives))))
