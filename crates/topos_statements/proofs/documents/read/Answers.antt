use Rattle.std.proofs.Common.{map}
use Rattle.std.proofs.lemmas.Result.{err_from_is_err_and}
use Rattle.topos_text.specs.declared.word.Word.TheVariants as word
use Rattle.topos_text.specs.declared.symbol.Symbol.TheVariants as symbol
use Rattle.topos_text.specs.Tokens.{token_of}
use Rattle.topos_text.specs.Trees as tree
use Rattle.topos_text.specs.Views.{site_of, covers_of, topology_of}
use Rattle.topos_grammar.specs.Kinds.{OfSite, OfTopology, OfStatement, SiteStatement, Covers, Topology, Statement}
use Rattle.topos_grammar.specs.Codes.{Class, AnyName, AnyPlace, the, sign, section_words, site_words, give, eat, name, place, call, loop, code, bind, entry, mapping, a_place, places, terms, with_term, as_name, with_name, with_names, sequent, comprehension, eat_word, eat_sign, presheaf, map_of, construct, forked, image, empty, sheafify, sheaf, hom, build, subobject, let_be, asked, valid, why, derive, local, category, category_functor, extended}
use Rattle.topos_grammar.specs.Reading.{gives, eats_not, numbers_not, calls, calls_not, peeks, peeks_not}
use Rattle.topos_grammar.proofs.Steps.{eats_at}
use Rattle.topos_statements.specs.Passages.{each}
use Rattle.topos_statements.proofs.Exits.{stop_at, stop_in, stop_in_code}
use Rattle.topos_grammar.specs.Kinds.{OfDocument, First, Second}
use Rattle.topos_grammar.specs.Codes.{Any, Numbered, document}
use Rattle.topos_grammar.specs.Codes as codes
use Rattle.topos_statements.proofs.Exits.{numbered_at}
use Rattle.topos_statements.proofs.DocumentEnds.{second_read}
use Rattle.topos_statements.proofs.documents.read.Goals as goal

pub returns-in_err-numbered : goal.returns-in_err-numbered
unfolding document
returns-in_err-numbered c =
    let p = err_from_is_err_and c.from_residual.result c.from_residual.ensures.1 in
    rw (p.1, p.2) (stop_at c.in_err-numbered.field-0.0 (Numbered 2) document (map token_of c.in-Some.behind.now) (map token_of c.args.tokens.now) (λ other. peeks (map token_of c.in-Some.behind.now, c.in-Some.ensures) (eats_at c.in-Some.ensures (numbers_not other))) c.in_err-numbered.ensures)

pub returns-in_err-declared : goal.returns-in_err-declared
unfolding document
returns-in_err-declared c =
    let p = err_from_is_err_and c.from_residual-in_err-declared.result c.from_residual-in_err-declared.ensures.1 in
    rw (p.1, p.2) (stop_at c.in_err-declared.field-0.0 (sign symbol.Semicolon) document (map token_of c.in_ok-numbered.numbered.now) (map token_of c.args.tokens.now) (λ other. peeks (map token_of c.in-Some.behind.now, c.in-Some.ensures) (eats_at c.in-Some.ensures (numbered_at c.in_ok-numbered.ensures (eats_not other)))) c.in_err-declared.ensures)

pub returns-in_err-site : goal.returns-in_err-site
unfolding document
returns-in_err-site c =
    let p = err_from_is_err_and c.from_residual-in_err-site.result c.from_residual-in_err-site.ensures.1 in
    rw (p.1, p.2) (stop_in c.in_err-site.field-0.0 (each OfSite site_words (λ s k. call SiteStatement k)) document (map token_of c.in_ok-declared.declared.now) (map token_of c.args.tokens.now) (λ ss. codes.each (the word.Topology) Topology (λ ts. codes.statements Second (λ rest. give (tree.SecondVersion ss ts rest)))) (λ r d. peeks (map token_of c.in-Some.behind.now, c.in-Some.ensures) (eats_at c.in-Some.ensures (numbered_at c.in_ok-numbered.ensures (eats_at c.in_ok-declared.ensures (d))))) c.in_err-site.ensures)

pub returns-in_err-topologies : goal.returns-in_err-topologies
unfolding document
returns-in_err-topologies c =
    let p = err_from_is_err_and c.from_residual-in_err-topologies.result c.from_residual-in_err-topologies.ensures.1 in
    rw (p.1, p.2) (stop_in c.in_err-topologies.field-0.0 (each OfTopology (the word.Topology) (λ s k. call Topology k)) document (map token_of c.in_ok-site.after_site.now) (map token_of c.args.tokens.now) (λ ts. codes.statements Second (λ rest. give (tree.SecondVersion (map site_of c.in_ok-site.site.items) ts rest))) (λ r d. peeks (map token_of c.in-Some.behind.now, c.in-Some.ensures) (eats_at c.in-Some.ensures (numbered_at c.in_ok-numbered.ensures (eats_at c.in_ok-declared.ensures (c.in_ok-site.ensures.read OfDocument (λ ss. codes.each (the word.Topology) Topology (λ ts. codes.statements Second (λ rest. give (tree.SecondVersion ss ts rest)))) _ (d)))))) c.in_err-topologies.ensures)

pub returns-in_err-later : goal.returns-in_err-later
unfolding document
returns-in_err-later c =
    let p = err_from_is_err_and c.from_residual-in_err-later.result c.from_residual-in_err-later.ensures.1 in
    rw (p.1, p.2) (stop_in c.in_err-later.field-0.0 (each OfStatement Any (λ s k. call (Statement Second) k)) document (map token_of c.in_ok-topologies.after_topologies.now) (map token_of c.args.tokens.now) (λ rest. give (tree.SecondVersion (map site_of c.in_ok-site.site.items) (map topology_of c.in_ok-topologies.topologies.items) rest)) (λ r d. peeks (map token_of c.in-Some.behind.now, c.in-Some.ensures) (eats_at c.in-Some.ensures (numbered_at c.in_ok-numbered.ensures (eats_at c.in_ok-declared.ensures (c.in_ok-site.ensures.read OfDocument (λ ss. codes.each (the word.Topology) Topology (λ ts. codes.statements Second (λ rest. give (tree.SecondVersion ss ts rest)))) _ (c.in_ok-topologies.ensures.read OfDocument (λ ts. codes.statements Second (λ rest. give (tree.SecondVersion (map site_of c.in_ok-site.site.items) ts rest))) _ (d))))))) c.in_err-later.ensures)

pub returns-in-Some : goal.returns-in-Some
unfolding document
returns-in-Some c = rw c.in_ok-new.ensures.ok (second_read (map token_of c.args.tokens.now) (map token_of c.in-Some.behind.now) _ c.in-Some.ensures ((numbered_at c.in_ok-numbered.ensures (eats_at c.in_ok-declared.ensures (c.in_ok-site.ensures.read OfDocument (λ ss. codes.each (the word.Topology) Topology (λ ts. codes.statements Second (λ rest. give (tree.SecondVersion ss ts rest)))) _ (c.in_ok-topologies.ensures.read OfDocument (λ ts. codes.statements Second (λ rest. give (tree.SecondVersion (map site_of c.in_ok-site.site.items) ts rest))) _ (c.in_ok-later.ensures.read OfDocument (λ rest. give (tree.SecondVersion (map site_of c.in_ok-site.site.items) (map topology_of c.in_ok-topologies.topologies.items) rest)) _ (gives))))))))

pub returns-in_err-objects : goal.returns-in_err-objects
unfolding document
returns-in_err-objects c =
    let p = err_from_is_err_and c.from_residual-in_err-objects.result c.from_residual-in_err-objects.ensures.1 in
    rw (p.1, p.2) (stop_in c.in_err-objects.field-0.0 (each OfSite site_words (λ s k. call SiteStatement k)) document (map token_of c.args.tokens.now) (map token_of c.args.tokens.now) (λ ss. call Covers (λ d. codes.statements First (λ rest. give (tree.FirstVersion ss d rest)))) (λ r d. peeks_not c.in_default.ensures (d)) c.in_err-objects.ensures)

pub returns-in_err-covers : goal.returns-in_err-covers
unfolding document
returns-in_err-covers c =
    let p = err_from_is_err_and c.from_residual-in_err-covers.result c.from_residual-in_err-covers.ensures.1 in
    rw (p.1, p.2) (stop_in_code c.in_err-covers.field-0.0 (code Covers) document (map token_of c.in_ok-objects.after_objects.now) (map token_of c.args.tokens.now) (λ r d. peeks_not c.in_default.ensures (c.in_ok-objects.ensures.read OfDocument (λ ss. call Covers (λ d. codes.statements First (λ rest. give (tree.FirstVersion ss d rest)))) _ (calls_not d))) c.in_err-covers.ensures)

pub returns-in_err-rest : goal.returns-in_err-rest
unfolding document
returns-in_err-rest c =
    let p = err_from_is_err_and c.from_residual-in_err-rest.result c.from_residual-in_err-rest.ensures.1 in
    rw (p.1, p.2) (stop_in c.in_err-rest.field-0.0 (each OfStatement Any (λ s k. call (Statement First) k)) document (map token_of c.in_ok-covers.after_covers.now) (map token_of c.args.tokens.now) (λ rest. give (tree.FirstVersion (map site_of c.in_ok-objects.objects.items) (covers_of c.in_ok-covers.covers) rest)) (λ r d. peeks_not c.in_default.ensures (c.in_ok-objects.ensures.read OfDocument (λ ss. call Covers (λ d. codes.statements First (λ rest. give (tree.FirstVersion ss d rest)))) _ (calls c.in_ok-covers.ensures (d)))) c.in_err-rest.ensures)

pub returns : goal.returns
unfolding document
returns c = rw c.in_ok-new-2.ensures.ok (peeks_not c.in_default.ensures (c.in_ok-objects.ensures.read OfDocument (λ ss. call Covers (λ d. codes.statements First (λ rest. give (tree.FirstVersion ss d rest)))) _ (calls c.in_ok-covers.ensures (c.in_ok-rest.ensures.read OfDocument (λ rest. give (tree.FirstVersion (map site_of c.in_ok-objects.objects.items) (covers_of c.in_ok-covers.covers) rest)) _ (gives)))))
