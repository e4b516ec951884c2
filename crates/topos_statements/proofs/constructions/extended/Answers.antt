use Rattle.std.proofs.Common.{map}
use Rattle.std.proofs.lemmas.Result.{err_from_is_err_and}
use Rattle.topos_text.specs.declared.word.Word.TheVariants as word
use Rattle.topos_text.specs.Tokens.{token_of, Reserved}
use Rattle.topos_text.specs.Views.{extension_of}
use Rattle.topos_grammar.specs.Kinds.{OfStatement}
use Rattle.topos_grammar.specs.Codes.{AnyName, eat, name, extended}
use Rattle.topos_grammar.specs.Reading.{gives, names_not}
use Rattle.topos_grammar.proofs.Steps.{names_at}
use Rattle.topos_statements.proofs.Exits.{stop_at, stop_in}
use Rattle.topos_statements.proofs.constructions.extended.Goals as goal

pub returns-in_err-along : goal.returns-in_err-along
returns-in_err-along c =
    let p = err_from_is_err_and c.from_residual.result c.from_residual.ensures.1 in
    rw (p.1, p.2) (stop_at c.in_err-along.field-0.0 AnyName (extended (extension_of c.args.of)) (map token_of c.args.tokens.now) (map token_of c.args.tokens.now) (λ other. names_not other) c.in_err-along.ensures)

pub returns-in_err-presheaf : goal.returns-in_err-presheaf
returns-in_err-presheaf c =
    let p = err_from_is_err_and c.from_residual-in_err-presheaf.result c.from_residual-in_err-presheaf.ensures.1 in
    rw (p.1, p.2) (stop_at c.in_err-presheaf.field-0.0 AnyName (extended (extension_of c.args.of)) (map token_of c.in_ok-along.after_along.now) (map token_of c.args.tokens.now) (λ other. names_at c.in_ok-along.ensures (names_not other)) c.in_err-presheaf.ensures)

pub returns-in_err-functor : goal.returns-in_err-functor
returns-in_err-functor c =
    let p = err_from_is_err_and c.from_residual-in_err-functor.result c.from_residual-in_err-functor.ensures.1 in
    rw (p.1, p.2) (stop_in c.in_err-functor.field-0.0 (λ s k. eat (Reserved word.As) (name k)) (extended (extension_of c.args.of)) (map token_of c.in_ok-presheaf.after_presheaf.now) (map token_of c.args.tokens.now) _ (λ r d. names_at c.in_ok-along.ensures (names_at c.in_ok-presheaf.ensures (d))) c.in_err-functor.ensures)

pub returns-in_err-map : goal.returns-in_err-map
returns-in_err-map c =
    let p = err_from_is_err_and c.from_residual-in_err-map.result c.from_residual-in_err-map.ensures.1 in
    rw (p.1, p.2) (stop_in c.in_err-map.field-0.0 (λ s k. eat (Reserved word.With) (name k)) (extended (extension_of c.args.of)) (map token_of c.in_ok-functor.after_functor.now) (map token_of c.args.tokens.now) _ (λ r d. names_at c.in_ok-along.ensures (names_at c.in_ok-presheaf.ensures (c.in_ok-functor.ensures.read OfStatement _ _ (d)))) c.in_err-map.ensures)

pub returns : goal.returns
returns c = rw c.in_ok-new.ensures.ok (names_at c.in_ok-along.ensures (names_at c.in_ok-presheaf.ensures (c.in_ok-functor.ensures.read OfStatement _ _ (c.in_ok-map.ensures.read OfStatement _ _ (gives)))))
