use Rattle.std.proofs.Common.{map}
use Rattle.std.proofs.lemmas.Result.{err_from_is_err_and}
use Rattle.topos_text.specs.declared.word.Word.TheVariants as word
use Rattle.topos_text.specs.declared.symbol.Symbol.TheVariants as symbol
use Rattle.topos_text.specs.Tokens.{token_of, Reserved, Sign}
use Rattle.topos_grammar.specs.Kinds.{OfStatement, AnyType, Under}
use Rattle.topos_grammar.specs.Codes.{AnyName, the, eat, name, code, build}
use Rattle.topos_grammar.specs.Reading.{gives, eats_not, names_not, calls, calls_not}
use Rattle.topos_grammar.proofs.Steps.{eats_at, names_at}
use Rattle.topos_statements.specs.Views.{version_of}
use Rattle.topos_statements.proofs.Exits.{stop_at, stop_in, stop_in_kind, stop_in_code}
use Rattle.topos_statements.proofs.formulas.build.Goals as goal

pub returns-in_err-under : goal.returns-in_err-under
returns-in_err-under c =
    let p = err_from_is_err_and c.from_residual.result c.from_residual.ensures.1 in
    rw (p.1, p.2) (stop_in_code c.in_err-under.field-0.0 (code (Under (version_of c.args.version))) (build (version_of c.args.version)) (map token_of c.args.tokens.now) (map token_of c.args.tokens.now) (λ r d. calls_not d) c.in_err-under.ensures)

pub returns-in_err-functor : goal.returns-in_err-functor
returns-in_err-functor c =
    let p = err_from_is_err_and c.from_residual-in_err-functor.result c.from_residual-in_err-functor.ensures.1 in
    rw (p.1, p.2) (stop_at c.in_err-functor.field-0.0 AnyName (build (version_of c.args.version)) (map token_of c.in_ok-under.after_under.now) (map token_of c.args.tokens.now) (λ other. calls c.in_ok-under.ensures (names_not other)) c.in_err-functor.ensures)

pub returns-in_err-of : goal.returns-in_err-of
returns-in_err-of c =
    let p = err_from_is_err_and c.from_residual-in_err-of.result c.from_residual-in_err-of.ensures.1 in
    rw (p.1, p.2) (stop_at c.in_err-of.field-0.0 (the word.Of) (build (version_of c.args.version)) (map token_of c.in_ok-functor.after_functor.now) (map token_of c.args.tokens.now) (λ other. calls c.in_ok-under.ensures (names_at c.in_ok-functor.ensures (eats_not other))) c.in_err-of.ensures)

pub returns-in_err-ty : goal.returns-in_err-ty
returns-in_err-ty c =
    let p = err_from_is_err_and c.from_residual-in_err-ty.result c.from_residual-in_err-ty.ensures.1 in
    rw (p.1, p.2) (stop_in_kind c.in_err-ty.field-0.0 AnyType (build (version_of c.args.version)) (map token_of c.in_ok-of.of.now) (map token_of c.args.tokens.now) (λ r d. calls c.in_ok-under.ensures (names_at c.in_ok-functor.ensures (eats_at c.in_ok-of.ensures (calls_not d)))) c.in_err-ty.ensures)

pub returns-in_err-into : goal.returns-in_err-into
returns-in_err-into c =
    let p = err_from_is_err_and c.from_residual-in_err-into.result c.from_residual-in_err-into.ensures.1 in
    rw (p.1, p.2) (stop_in c.in_err-into.field-0.0 (λ s k. eat (Reserved word.With) (name k)) (build (version_of c.args.version)) (map token_of c.in_ok-ty.after_ty.now) (map token_of c.args.tokens.now) _ (λ r d. calls c.in_ok-under.ensures (names_at c.in_ok-functor.ensures (eats_at c.in_ok-of.ensures (calls c.in_ok-ty.ensures.0 (d))))) c.in_err-into.ensures)

pub returns-in_err-out_of : goal.returns-in_err-out_of
returns-in_err-out_of c =
    let p = err_from_is_err_and c.from_residual-in_err-out_of.result c.from_residual-in_err-out_of.ensures.1 in
    rw (p.1, p.2) (stop_in c.in_err-out_of.field-0.0 (λ s k. eat (Sign symbol.Comma) (name k)) (build (version_of c.args.version)) (map token_of c.in_ok-into.after_into.now) (map token_of c.args.tokens.now) _ (λ r d. calls c.in_ok-under.ensures (names_at c.in_ok-functor.ensures (eats_at c.in_ok-of.ensures (calls c.in_ok-ty.ensures.0 (c.in_ok-into.ensures.read OfStatement _ _ (d)))))) c.in_err-out_of.ensures)

pub returns : goal.returns
returns c = rw c.in_ok-new.ensures.ok (calls c.in_ok-under.ensures (names_at c.in_ok-functor.ensures (eats_at c.in_ok-of.ensures (calls c.in_ok-ty.ensures.0 (c.in_ok-into.ensures.read OfStatement _ _ (c.in_ok-out_of.ensures.read OfStatement _ _ (gives)))))))
