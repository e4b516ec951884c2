use Rattle.std.proofs.Common.{map}
use Rattle.std.proofs.lemmas.Result.{err_from_is_err_and}
use Rattle.topos_text.specs.Tokens.{token_of, written}
use Rattle.topos_text.specs.Trees as tree
use Rattle.topos_grammar.specs.Kinds.{OfSection, OfStatement, Section}
use Rattle.topos_grammar.specs.Codes.{AnyName, section_words, give, call, presheaf}
use Rattle.topos_grammar.specs.Reading.{gives, names_not, peeks, peeks_not}
use Rattle.topos_grammar.proofs.Steps.{eats_at, names_at}
use Rattle.topos_statements.specs.Passages.{braced}
use Rattle.topos_statements.proofs.Exits.{stop_at, stop_in}
use Rattle.topos_statements.proofs.declarations.presheaf.Goals as goal

pub returns-in_err-name : goal.returns-in_err-name
returns-in_err-name c =
    let p = err_from_is_err_and c.from_residual.result c.from_residual.ensures.1 in
    rw (p.1, p.2) (stop_at c.in_err-name.field-0.0 AnyName presheaf (map token_of c.args.tokens.now) (map token_of c.args.tokens.now) (λ other. names_not other) c.in_err-name.ensures)

pub returns-in_err-category : goal.returns-in_err-category
returns-in_err-category c =
    let p = err_from_is_err_and c.from_residual-in_err-category.result c.from_residual-in_err-category.ensures.1 in
    rw (p.1, p.2) (stop_at c.in_err-category.field-0.0 AnyName presheaf (map token_of c.in-Some.of.now) (map token_of c.args.tokens.now) (λ other. names_at c.in_ok-name.ensures (peeks (map token_of c.in-Some.of.now, c.in-Some.ensures) (eats_at c.in-Some.ensures (names_not other)))) c.in_err-category.ensures)

pub returns-in_err-sections : goal.returns-in_err-sections
returns-in_err-sections c =
    let p = err_from_is_err_and c.from_residual-in_err-sections.result c.from_residual-in_err-sections.ensures.1 in
    rw (p.1, p.2) (stop_in c.in_err-sections.field-0.0 (braced OfSection section_words (λ s k. call Section k)) presheaf (map token_of c.in_ok-category.after_category.now) (map token_of c.args.tokens.now) (λ ss. give (tree.PresheafOn (written c.in_ok-name.name) (written c.in_ok-category.category) ss)) (λ r d. names_at c.in_ok-name.ensures (peeks (map token_of c.in-Some.of.now, c.in-Some.ensures) (eats_at c.in-Some.ensures (names_at c.in_ok-category.ensures (d))))) c.in_err-sections.ensures)

pub returns-in-Some : goal.returns-in-Some
returns-in-Some c = rw c.in_ok-new.ensures.ok (names_at c.in_ok-name.ensures (peeks (map token_of c.in-Some.of.now, c.in-Some.ensures) (eats_at c.in-Some.ensures (names_at c.in_ok-category.ensures (c.in_ok-sections.ensures.read OfStatement (λ ss. give (tree.PresheafOn (written c.in_ok-name.name) (written c.in_ok-category.category) ss)) _ (gives))))))

pub returns-in_err-entries : goal.returns-in_err-entries
returns-in_err-entries c =
    let p = err_from_is_err_and c.from_residual-in_err-entries.result c.from_residual-in_err-entries.ensures.1 in
    rw (p.1, p.2) (stop_in c.in_err-entries.field-0.0 (braced OfSection section_words (λ s k. call Section k)) presheaf (map token_of c.in_ok-name.after_name.now) (map token_of c.args.tokens.now) (λ ss. give (tree.Presheaf (written c.in_ok-name.name) ss)) (λ r d. names_at c.in_ok-name.ensures (peeks_not c.in_default.ensures (d))) c.in_err-entries.ensures)

pub returns : goal.returns
returns c = rw c.in_ok-new-2.ensures.ok (names_at c.in_ok-name.ensures (peeks_not c.in_default.ensures (c.in_ok-entries.ensures.read OfStatement (λ ss. give (tree.Presheaf (written c.in_ok-name.name) ss)) _ (gives))))
