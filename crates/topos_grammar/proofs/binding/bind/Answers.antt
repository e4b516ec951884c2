use Rattle.std.proofs.Common.{map}
use Rattle.std.proofs.lemmas.Result.{err_from_is_err_and}
use Rattle.topos_text.specs.Tokens.{token_of, written}
use Rattle.topos_grammar.proofs.TermSteps.{unnamed_fails, uncoloned_fails, untyped_fails}
use Rattle.topos_grammar.proofs.binding.bind.Goals as goal

pub returns-in_err-variable : goal.returns-in_err-variable
returns-in_err-variable c =
    let p = err_from_is_err_and c.from_residual.result c.from_residual.ensures.1 in
    rw (p.1, p.2) (unnamed_fails c.in_err-variable.field-0.0 (map token_of c.args.tokens.now) c.in_err-variable.ensures)

pub returns-in_err-behind : goal.returns-in_err-behind
returns-in_err-behind c =
    let p = err_from_is_err_and c.from_residual-in_err-behind.result c.from_residual-in_err-behind.ensures.1 in
    rw (p.1, p.2) (uncoloned_fails c.in_err-behind.field-0.0 (map token_of c.args.tokens.now) (map token_of c.in_ok-variable.rest.now) (written c.in_ok-variable.variable) c.in_ok-variable.ensures c.in_err-behind.ensures)

pub returns-in_err-ty : goal.returns-in_err-ty
returns-in_err-ty c =
    let p = err_from_is_err_and c.from_residual-in_err-ty.result c.from_residual-in_err-ty.ensures.1 in
    rw (p.1, p.2) (untyped_fails c.in_err-ty.field-0.0 (map token_of c.args.tokens.now) (map token_of c.in_ok-variable.rest.now) (map token_of c.in_ok-behind.behind.now) (written c.in_ok-variable.variable) c.in_ok-variable.ensures c.in_ok-behind.ensures c.in_err-ty.ensures)
