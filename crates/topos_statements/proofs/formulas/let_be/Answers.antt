use Rattle.std.proofs.Common.{map}
use Rattle.std.specs.Option.{option_map}
use Rattle.std.proofs.lemmas.Result.{err_from_is_err_and}
use Rattle.topos_text.specs.declared.symbol.Symbol.TheVariants as symbol
use Rattle.topos_text.specs.Tokens.{token_of, written}
use Rattle.topos_text.specs.Trees as tree
use Rattle.topos_grammar.specs.Kinds.{OfStatement, AnyTerm, Under}
use Rattle.topos_grammar.specs.Codes.{AnyName, sign, give, call, code, bind, eat_sign, let_be}
use Rattle.topos_grammar.specs.Reading.{gives, eats_not, names_not, calls, calls_not}
use Rattle.topos_grammar.proofs.Steps.{eats_at, names_at}
use Rattle.topos_statements.specs.Views.{version_of}
use Rattle.topos_statements.proofs.Exits.{stop_at, stop_in, stop_in_kind, stop_in_code}
use Rattle.topos_statements.proofs.formulas.let_be.Goals as goal

pub returns-in_err-under : goal.returns-in_err-under
returns-in_err-under c =
    let p = err_from_is_err_and c.from_residual.result c.from_residual.ensures.1 in
    rw (p.1, p.2) (stop_in_code c.in_err-under.field-0.0 (code (Under (version_of c.args.version))) (let_be (version_of c.args.version)) (map token_of c.args.tokens.now) (map token_of c.args.tokens.now) (λ r d. calls_not d) c.in_err-under.ensures)

pub returns-in_err-map : goal.returns-in_err-map
returns-in_err-map c =
    let p = err_from_is_err_and c.from_residual-in_err-map.result c.from_residual-in_err-map.ensures.1 in
    rw (p.1, p.2) (stop_at c.in_err-map.field-0.0 AnyName (let_be (version_of c.args.version)) (map token_of c.in_ok-under.after_under.now) (map token_of c.args.tokens.now) (λ other. calls c.in_ok-under.ensures (names_not other)) c.in_err-map.ensures)

pub returns-in_err-equated : goal.returns-in_err-equated
returns-in_err-equated c =
    let p = err_from_is_err_and c.from_residual-in_err-equated.result c.from_residual-in_err-equated.ensures.1 in
    rw (p.1, p.2) (stop_at c.in_err-equated.field-0.0 (sign symbol.Equals) (let_be (version_of c.args.version)) (map token_of c.in_ok-map.after_map.now) (map token_of c.args.tokens.now) (λ other. calls c.in_ok-under.ensures (names_at c.in_ok-map.ensures (eats_not other))) c.in_err-equated.ensures)

pub returns-in_err-binding : goal.returns-in_err-binding
returns-in_err-binding c =
    let p = err_from_is_err_and c.from_residual-in_err-binding.result c.from_residual-in_err-binding.ensures.1 in
    rw (p.1, p.2) (stop_in c.in_err-binding.field-0.0 (λ s k. bind k) (let_be (version_of c.args.version)) (map token_of c.in_ok-equated.equated.now) (map token_of c.args.tokens.now) (λ b. eat_sign symbol.Dot (call AnyTerm (λ t. give (tree.Let (option_map written c.in_ok-under.under) (written c.in_ok-map.map) b t)))) (λ r d. calls c.in_ok-under.ensures (names_at c.in_ok-map.ensures (eats_at c.in_ok-equated.ensures (d)))) c.in_err-binding.ensures.passes)

pub returns-in_err-body : goal.returns-in_err-body
returns-in_err-body c =
    let p = err_from_is_err_and c.from_residual-in_err-body.result c.from_residual-in_err-body.ensures.1 in
    rw (p.1, p.2) (stop_at c.in_err-body.field-0.0 (sign symbol.Dot) (let_be (version_of c.args.version)) (map token_of c.in_ok-binding.after_binding.now) (map token_of c.args.tokens.now) (λ other. calls c.in_ok-under.ensures (names_at c.in_ok-map.ensures (eats_at c.in_ok-equated.ensures (c.in_ok-binding.ensures.passes.read OfStatement (λ b. eat_sign symbol.Dot (call AnyTerm (λ t. give (tree.Let (option_map written c.in_ok-under.under) (written c.in_ok-map.map) b t)))) _ (eats_not other))))) c.in_err-body.ensures)

pub returns-in_err-term : goal.returns-in_err-term
returns-in_err-term c =
    let p = err_from_is_err_and c.from_residual-in_err-term.result c.from_residual-in_err-term.ensures.1 in
    rw (p.1, p.2) (stop_in_kind c.in_err-term.field-0.0 AnyTerm (let_be (version_of c.args.version)) (map token_of c.in_ok-body.body.now) (map token_of c.args.tokens.now) (λ r d. calls c.in_ok-under.ensures (names_at c.in_ok-map.ensures (eats_at c.in_ok-equated.ensures (c.in_ok-binding.ensures.passes.read OfStatement (λ b. eat_sign symbol.Dot (call AnyTerm (λ t. give (tree.Let (option_map written c.in_ok-under.under) (written c.in_ok-map.map) b t)))) _ (eats_at c.in_ok-body.ensures (calls_not d)))))) c.in_err-term.ensures)

pub returns : goal.returns
returns c = rw c.in_ok-new.ensures.ok (calls c.in_ok-under.ensures (names_at c.in_ok-map.ensures (eats_at c.in_ok-equated.ensures (c.in_ok-binding.ensures.passes.read OfStatement (λ b. eat_sign symbol.Dot (call AnyTerm (λ t. give (tree.Let (option_map written c.in_ok-under.under) (written c.in_ok-map.map) b t)))) _ (eats_at c.in_ok-body.ensures (calls c.in_ok-term.ensures.0 (gives)))))))
