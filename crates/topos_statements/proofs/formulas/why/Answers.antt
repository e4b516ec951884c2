use Rattle.std.proofs.Common.{map}
use Rattle.std.specs.Option.{option_map}
use Rattle.std.proofs.lemmas.Result.{err_from_is_err_and}
use Rattle.topos_text.specs.declared.word.Word.TheVariants as word
use Rattle.topos_text.specs.Tokens.{token_of, written}
use Rattle.topos_text.specs.Trees as tree
use Rattle.topos_text.specs.Views.{place_of}
use Rattle.topos_grammar.specs.Kinds.{OfStatement, Under}
use Rattle.topos_grammar.specs.Codes.{AnyName, AnyPlace, the, give, code, why}
use Rattle.topos_grammar.specs.Reading.{gives, eats_not, names_not, places_not, calls, calls_not}
use Rattle.topos_grammar.proofs.Steps.{eats_at, names_at}
use Rattle.topos_statements.specs.Passages.{comprehension_of}
use Rattle.topos_statements.specs.Views.{version_of}
use Rattle.topos_statements.proofs.Exits.{stop_at, stop_in, stop_in_code, places_at}
use Rattle.topos_statements.proofs.formulas.why.Goals as goal

pub returns-in_err-under : goal.returns-in_err-under
returns-in_err-under c =
    let p = err_from_is_err_and c.from_residual.result c.from_residual.ensures.1 in
    rw (p.1, p.2) (stop_in_code c.in_err-under.field-0.0 (code (Under (version_of c.args.version))) (why (version_of c.args.version)) (map token_of c.args.tokens.now) (map token_of c.args.tokens.now) (λ r d. calls_not d) c.in_err-under.ensures)

pub returns-in_err-object : goal.returns-in_err-object
returns-in_err-object c =
    let p = err_from_is_err_and c.from_residual-in_err-object.result c.from_residual-in_err-object.ensures.1 in
    rw (p.1, p.2) (stop_at c.in_err-object.field-0.0 AnyName (why (version_of c.args.version)) (map token_of c.in_ok-under.after_under.now) (map token_of c.args.tokens.now) (λ other. calls c.in_ok-under.ensures (names_not other)) c.in_err-object.ensures)

pub returns-in_err-tuple : goal.returns-in_err-tuple
returns-in_err-tuple c =
    let p = err_from_is_err_and c.from_residual-in_err-tuple.result c.from_residual-in_err-tuple.ensures.1 in
    rw (p.1, p.2) (stop_at c.in_err-tuple.field-0.0 AnyPlace (why (version_of c.args.version)) (map token_of c.in_ok-object.after_object.now) (map token_of c.args.tokens.now) (λ other. calls c.in_ok-under.ensures (names_at c.in_ok-object.ensures (places_not other))) c.in_err-tuple.ensures)

pub returns-in_err-of : goal.returns-in_err-of
returns-in_err-of c =
    let p = err_from_is_err_and c.from_residual-in_err-of.result c.from_residual-in_err-of.ensures.1 in
    rw (p.1, p.2) (stop_at c.in_err-of.field-0.0 (the word.Of) (why (version_of c.args.version)) (map token_of c.in_ok-tuple.after_tuple.now) (map token_of c.args.tokens.now) (λ other. calls c.in_ok-under.ensures (names_at c.in_ok-object.ensures (places_at c.in_ok-tuple.ensures (eats_not other)))) c.in_err-of.ensures)

pub returns-in_err-context : goal.returns-in_err-context
returns-in_err-context c =
    let p = err_from_is_err_and c.from_residual-in_err-context.result c.from_residual-in_err-context.ensures.1 in
    rw (p.1, p.2) (stop_in c.in_err-context.field-0.0 comprehension_of (why (version_of c.args.version)) (map token_of c.in_ok-of.of.now) (map token_of c.args.tokens.now) (λ p. give (tree.Why (option_map written c.in_ok-under.under) (written c.in_ok-object.object) (place_of c.in_ok-tuple.tuple) p.0 p.1)) (λ r d. calls c.in_ok-under.ensures (names_at c.in_ok-object.ensures (places_at c.in_ok-tuple.ensures (eats_at c.in_ok-of.ensures (d))))) c.in_err-context.ensures)

pub returns : goal.returns
returns c = rw c.in_ok-new.ensures.ok (calls c.in_ok-under.ensures (names_at c.in_ok-object.ensures (places_at c.in_ok-tuple.ensures (eats_at c.in_ok-of.ensures (c.in_ok-context.ensures.read OfStatement (λ p. give (tree.Why (option_map written c.in_ok-under.under) (written c.in_ok-object.object) (place_of c.in_ok-tuple.tuple) p.0 p.1)) _ (gives))))))
