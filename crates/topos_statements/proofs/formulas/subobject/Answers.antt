use Rattle.std.proofs.Common.{map}
use Rattle.std.specs.Option.{option_map}
use Rattle.std.proofs.lemmas.Result.{err_from_is_err_and}
use Rattle.topos_text.specs.declared.word.Word.TheVariants as word
use Rattle.topos_text.specs.declared.symbol.Symbol.TheVariants as symbol
use Rattle.topos_text.specs.Tokens.{token_of, written, Reserved}
use Rattle.topos_text.specs.Trees as tree
use Rattle.topos_grammar.specs.Kinds.{OfStatement, AnyTerm, Under}
use Rattle.topos_grammar.specs.Codes.{AnyName, the, sign, give, eat, name, call, code, bind, with_name, eat_sign, subobject}
use Rattle.topos_grammar.specs.Reading.{gives, eats_not, names_not, calls, calls_not}
use Rattle.topos_grammar.proofs.Steps.{eats_at, names_at}
use Rattle.topos_statements.specs.Views.{version_of}
use Rattle.topos_statements.proofs.Exits.{stop_at, stop_in, stop_in_kind, stop_in_code}
use Rattle.topos_statements.proofs.formulas.subobject.Goals as goal

pub returns-in_err-under : goal.returns-in_err-under
returns-in_err-under c =
    let p = err_from_is_err_and c.from_residual.result c.from_residual.ensures.1 in
    rw (p.1, p.2) (stop_in_code c.in_err-under.field-0.0 (code (Under (version_of c.args.version))) (subobject (version_of c.args.version)) (map token_of c.args.tokens.now) (map token_of c.args.tokens.now) (λ r d. calls_not d) c.in_err-under.ensures)

pub returns-in_err-functor : goal.returns-in_err-functor
returns-in_err-functor c =
    let p = err_from_is_err_and c.from_residual-in_err-functor.result c.from_residual-in_err-functor.ensures.1 in
    rw (p.1, p.2) (stop_at c.in_err-functor.field-0.0 AnyName (subobject (version_of c.args.version)) (map token_of c.in_ok-under.after_under.now) (map token_of c.args.tokens.now) (λ other. calls c.in_ok-under.ensures (names_not other)) c.in_err-functor.ensures)

pub returns-in_err-of : goal.returns-in_err-of
returns-in_err-of c =
    let p = err_from_is_err_and c.from_residual-in_err-of.result c.from_residual-in_err-of.ensures.1 in
    rw (p.1, p.2) (stop_at c.in_err-of.field-0.0 (the word.Of) (subobject (version_of c.args.version)) (map token_of c.in_ok-functor.after_functor.now) (map token_of c.args.tokens.now) (λ other. calls c.in_ok-under.ensures (names_at c.in_ok-functor.ensures (eats_not other))) c.in_err-of.ensures)

pub returns-in_err-inside : goal.returns-in_err-inside
returns-in_err-inside c =
    let p = err_from_is_err_and c.from_residual-in_err-inside.result c.from_residual-in_err-inside.ensures.1 in
    rw (p.1, p.2) (stop_at c.in_err-inside.field-0.0 (sign symbol.OpenBrace) (subobject (version_of c.args.version)) (map token_of c.in_ok-of.of.now) (map token_of c.args.tokens.now) (λ other. calls c.in_ok-under.ensures (names_at c.in_ok-functor.ensures (eats_at c.in_ok-of.ensures (eats_not other)))) c.in_err-inside.ensures)

pub returns-in_err-binding : goal.returns-in_err-binding
returns-in_err-binding c =
    let p = err_from_is_err_and c.from_residual-in_err-binding.result c.from_residual-in_err-binding.ensures.1 in
    rw (p.1, p.2) (stop_in c.in_err-binding.field-0.0 (λ s k. bind k) (subobject (version_of c.args.version)) (map token_of c.in_ok-inside.inside.now) (map token_of c.args.tokens.now) (λ b. eat_sign symbol.Bar (call AnyTerm (λ t. eat_sign symbol.CloseBrace (with_name (λ i. give (tree.Sub (option_map written c.in_ok-under.under) (written c.in_ok-functor.functor) b t i)))))) (λ r d. calls c.in_ok-under.ensures (names_at c.in_ok-functor.ensures (eats_at c.in_ok-of.ensures (eats_at c.in_ok-inside.ensures (d))))) c.in_err-binding.ensures.passes)

pub returns-in_err-body : goal.returns-in_err-body
returns-in_err-body c =
    let p = err_from_is_err_and c.from_residual-in_err-body.result c.from_residual-in_err-body.ensures.1 in
    rw (p.1, p.2) (stop_at c.in_err-body.field-0.0 (sign symbol.Bar) (subobject (version_of c.args.version)) (map token_of c.in_ok-binding.after_binding.now) (map token_of c.args.tokens.now) (λ other. calls c.in_ok-under.ensures (names_at c.in_ok-functor.ensures (eats_at c.in_ok-of.ensures (eats_at c.in_ok-inside.ensures (c.in_ok-binding.ensures.passes.read OfStatement (λ b. eat_sign symbol.Bar (call AnyTerm (λ t. eat_sign symbol.CloseBrace (with_name (λ i. give (tree.Sub (option_map written c.in_ok-under.under) (written c.in_ok-functor.functor) b t i)))))) _ (eats_not other)))))) c.in_err-body.ensures)

pub returns-in_err-formula : goal.returns-in_err-formula
returns-in_err-formula c =
    let p = err_from_is_err_and c.from_residual-in_err-formula.result c.from_residual-in_err-formula.ensures.1 in
    rw (p.1, p.2) (stop_in_kind c.in_err-formula.field-0.0 AnyTerm (subobject (version_of c.args.version)) (map token_of c.in_ok-body.body.now) (map token_of c.args.tokens.now) (λ r d. calls c.in_ok-under.ensures (names_at c.in_ok-functor.ensures (eats_at c.in_ok-of.ensures (eats_at c.in_ok-inside.ensures (c.in_ok-binding.ensures.passes.read OfStatement (λ b. eat_sign symbol.Bar (call AnyTerm (λ t. eat_sign symbol.CloseBrace (with_name (λ i. give (tree.Sub (option_map written c.in_ok-under.under) (written c.in_ok-functor.functor) b t i)))))) _ (eats_at c.in_ok-body.ensures (calls_not d))))))) c.in_err-formula.ensures)

pub returns-in_err-closed : goal.returns-in_err-closed
returns-in_err-closed c =
    let p = err_from_is_err_and c.from_residual-in_err-closed.result c.from_residual-in_err-closed.ensures.1 in
    rw (p.1, p.2) (stop_at c.in_err-closed.field-0.0 (sign symbol.CloseBrace) (subobject (version_of c.args.version)) (map token_of c.in_ok-formula.after_formula.now) (map token_of c.args.tokens.now) (λ other. calls c.in_ok-under.ensures (names_at c.in_ok-functor.ensures (eats_at c.in_ok-of.ensures (eats_at c.in_ok-inside.ensures (c.in_ok-binding.ensures.passes.read OfStatement (λ b. eat_sign symbol.Bar (call AnyTerm (λ t. eat_sign symbol.CloseBrace (with_name (λ i. give (tree.Sub (option_map written c.in_ok-under.under) (written c.in_ok-functor.functor) b t i)))))) _ (eats_at c.in_ok-body.ensures (calls c.in_ok-formula.ensures.0 (eats_not other)))))))) c.in_err-closed.ensures)

pub returns-in_err-inclusion : goal.returns-in_err-inclusion
returns-in_err-inclusion c =
    let p = err_from_is_err_and c.from_residual-in_err-inclusion.result c.from_residual-in_err-inclusion.ensures.1 in
    rw (p.1, p.2) (stop_in c.in_err-inclusion.field-0.0 (λ s k. eat (Reserved word.With) (name k)) (subobject (version_of c.args.version)) (map token_of c.in_ok-closed.closed.now) (map token_of c.args.tokens.now) _ (λ r d. calls c.in_ok-under.ensures (names_at c.in_ok-functor.ensures (eats_at c.in_ok-of.ensures (eats_at c.in_ok-inside.ensures (c.in_ok-binding.ensures.passes.read OfStatement (λ b. eat_sign symbol.Bar (call AnyTerm (λ t. eat_sign symbol.CloseBrace (with_name (λ i. give (tree.Sub (option_map written c.in_ok-under.under) (written c.in_ok-functor.functor) b t i)))))) _ (eats_at c.in_ok-body.ensures (calls c.in_ok-formula.ensures.0 (eats_at c.in_ok-closed.ensures (d))))))))) c.in_err-inclusion.ensures)

pub returns : goal.returns
returns c = rw c.in_ok-new.ensures.ok (calls c.in_ok-under.ensures (names_at c.in_ok-functor.ensures (eats_at c.in_ok-of.ensures (eats_at c.in_ok-inside.ensures (c.in_ok-binding.ensures.passes.read OfStatement (λ b. eat_sign symbol.Bar (call AnyTerm (λ t. eat_sign symbol.CloseBrace (with_name (λ i. give (tree.Sub (option_map written c.in_ok-under.under) (written c.in_ok-functor.functor) b t i)))))) _ (eats_at c.in_ok-body.ensures (calls c.in_ok-formula.ensures.0 (eats_at c.in_ok-closed.ensures (c.in_ok-inclusion.ensures.read OfStatement _ _ (gives))))))))))
