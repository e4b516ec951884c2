use Rattle.std.proofs.Common.{map, length, ap, arith}
use Rattle.std.proofs.lemmas.Result.{err_from_is_err_and}
use Rattle.topos_text.specs.declared.symbol.Symbol.TheVariants as symbol
use Rattle.topos_text.specs.Tokens.{token_of, written}
use Rattle.topos_text.specs.Trees as tree
use Rattle.topos_grammar.specs.Kinds.{AnyType, ProductType, MoreFactors, PrefixType}
use Rattle.topos_grammar.specs.Codes.{sign}
use Rattle.topos_text.specs.Views.{type_of}
use Rattle.topos_grammar.proofs.Steps.{fails_from, gives_from, fails_at, any_type_stops, any_type_alone, function_stops, function_read, product_type_stops, product_type_read, factors_end, factors_stop, factors_more, power_stops, power_read, functor_read, one_read, omega_read, unopened_type, grouped_type_stops, unclosed_type, grouped_type_read}
use Rattle.topos_grammar.proofs.types.+types.Goals as goal

pub any_type-returns-in_err-left : goal.any_type-returns-in_err-left
any_type-returns-in_err-left t c =
    let p = err_from_is_err_and c.from_residual.result c.from_residual.ensures.1 in
    rw (p.1, p.2) (fails_from c.in_err-left.field-0.0 ProductType AnyType (map token_of c.args.tokens.now) (map token_of c.args.tokens.now) (λ r d. any_type_stops (map token_of c.args.tokens.now) r d) c.in_err-left.ensures)

pub any_type-returns-in-None : goal.any_type-returns-in-None
any_type-returns-in-None t c = (any_type_alone (map token_of c.args.tokens.now) (map token_of c.in_ok-left.rest.now) (type_of c.in_ok-left.left) c.in_ok-left.ensures.0 c.in-None.ensures, omega (arith, c.in_ok-left.ensures.1))

pub any_type-returns-in_err-right-in-Some : goal.any_type-returns-in_err-right-in-Some
any_type-returns-in_err-right-in-Some t c =
    let p = err_from_is_err_and c.from_residual-in_err-right-in-Some.result c.from_residual-in_err-right-in-Some.ensures.1 in
    rw (p.1, p.2) (fails_from c.in_err-right-in-Some.field-0.0 AnyType AnyType (map token_of c.in-Some.behind.now) (map token_of c.args.tokens.now) (λ r d. function_stops (map token_of c.args.tokens.now) (map token_of c.in_ok-left.rest.now) (map token_of c.in-Some.behind.now) r (type_of c.in_ok-left.left) c.in_ok-left.ensures.0 c.in-Some.ensures d) c.in_err-right-in-Some.ensures)

pub any_type-returns-in_ok-function-in-Some : goal.any_type-returns-in_ok-function-in-Some
any_type-returns-in_ok-function-in-Some t c =
    rw c.in_ok-function-in-Some.ensures (
      function_read (map token_of c.args.tokens.now) (map token_of c.in_ok-left.rest.now) (map token_of c.in-Some.behind.now) (map token_of c.in_ok-right-in-Some.end.now) (type_of c.in_ok-left.left) (type_of c.in_ok-right-in-Some.right) c.in_ok-left.ensures.0 c.in-Some.ensures c.in_ok-right-in-Some.ensures.0,
      omega (arith, c.in_ok-left.ensures.1, ap length c.in-Some.ensures, c.in_ok-right-in-Some.ensures.1),
    )

pub product_type-returns-in_err-first : goal.product_type-returns-in_err-first
product_type-returns-in_err-first t c =
    let p = err_from_is_err_and c.from_residual.result c.from_residual.ensures.1 in
    rw (p.1, p.2) (fails_from c.in_err-first.field-0.0 PrefixType ProductType (map token_of c.args.tokens.now) (map token_of c.args.tokens.now) (λ r d. product_type_stops (map token_of c.args.tokens.now) r d) c.in_err-first.ensures)

pub product_type-returns : goal.product_type-returns
product_type-returns t c = gives_from (λ x. type_of x.0) (λ x. map token_of x.1.now) (MoreFactors (type_of c.in_ok-first.first)) ProductType (map token_of c.in_ok-first.rest.now) (map token_of c.args.tokens.now) c.more_factors.result (λ x d. product_type_read (map token_of c.args.tokens.now) (map token_of c.in_ok-first.rest.now) (type_of c.in_ok-first.first) x c.in_ok-first.ensures.0 d) (omega (arith, c.in_ok-first.ensures.1)) c.more_factors.ensures

pub more_factors-returns-in-None : goal.more_factors-returns-in-None
more_factors-returns-in-None t c = (factors_end (map token_of c.args.tokens.now) (type_of c.args.so_far) c.in-None.ensures, omega arith)

pub more_factors-returns-in_err-next-in-Some : goal.more_factors-returns-in_err-next-in-Some
more_factors-returns-in_err-next-in-Some t c =
    let p = err_from_is_err_and c.from_residual.result c.from_residual.ensures.1 in
    rw (p.1, p.2) (fails_from c.in_err-next-in-Some.field-0.0 PrefixType (MoreFactors (type_of c.args.so_far)) (map token_of c.in-Some.behind.now) (map token_of c.args.tokens.now) (λ r d. factors_stop (map token_of c.args.tokens.now) (map token_of c.in-Some.behind.now) r (type_of c.args.so_far) c.in-Some.ensures d) c.in_err-next-in-Some.ensures)

pub more_factors-returns-in_ok-both-in-Some : goal.more_factors-returns-in_ok-both-in-Some
more_factors-returns-in_ok-both-in-Some t c =
    gives_from (λ x. type_of x.0) (λ x. map token_of x.1.now) (MoreFactors (tree.Product (type_of c.args.so_far) (type_of c.in_ok-next-in-Some.next))) (MoreFactors (type_of c.args.so_far)) (map token_of c.in_ok-next-in-Some.rest.now) (map token_of c.args.tokens.now) c.more_factors.result (λ x d. factors_more (map token_of c.args.tokens.now) (map token_of c.in-Some.behind.now) (map token_of c.in_ok-next-in-Some.rest.now) (type_of c.args.so_far) (type_of c.in_ok-next-in-Some.next) x c.in-Some.ensures c.in_ok-next-in-Some.ensures.0 d)
    (omega (arith, ap length c.in-Some.ensures, c.in_ok-next-in-Some.ensures.1)) (rw c.in_ok-both-in-Some.ensures at c.more_factors.ensures)

pub prefix_type-returns-in_err-inner : goal.prefix_type-returns-in_err-inner
prefix_type-returns-in_err-inner t c =
    let p = err_from_is_err_and c.from_residual.result c.from_residual.ensures.1 in
    rw (p.1, p.2) (fails_from c.in_err-inner.field-0.0 PrefixType PrefixType (map token_of c.in-Some.behind.now) (map token_of c.args.tokens.now) (λ r d. power_stops (map token_of c.args.tokens.now) (map token_of c.in-Some.behind.now) r c.in-Some.ensures d) c.in_err-inner.ensures)

pub prefix_type-returns-in-Some : goal.prefix_type-returns-in-Some
prefix_type-returns-in-Some t c = rw c.in_ok-power.ensures (power_read (map token_of c.args.tokens.now) (map token_of c.in-Some.behind.now) (map token_of c.in_ok-inner.rest.now) (type_of c.in_ok-inner.inner) c.in-Some.ensures c.in_ok-inner.ensures.0, omega (arith, ap length c.in-Some.ensures, c.in_ok-inner.ensures.1))

pub prefix_type-returns-in-Some-name : goal.prefix_type-returns-in-Some-name
prefix_type-returns-in-Some-name t c = (functor_read (map token_of c.args.tokens.now) (map token_of c.in-Some-name.rest.now) (written c.in-Some-name.functor) c.in_default.ensures c.in-Some-name.ensures, omega (arith, ap length c.in-Some-name.ensures))

pub prefix_type-returns-in-Some-after_word : goal.prefix_type-returns-in-Some-after_word
prefix_type-returns-in-Some-after_word t c = (one_read (map token_of c.args.tokens.now) (map token_of c.in-Some-after_word.rest.now) c.in_default.ensures c.in_default-name.ensures c.in-Some-after_word.ensures, omega (arith, ap length c.in-Some-after_word.ensures))

pub prefix_type-returns-in-Some-after_word-2 : goal.prefix_type-returns-in-Some-after_word-2
prefix_type-returns-in-Some-after_word-2 t c =
    (omega_read (map token_of c.args.tokens.now) (map token_of c.in-Some-after_word-2.rest.now) c.in_default.ensures c.in_default-name.ensures c.in_default-after_word.ensures c.in-Some-after_word-2.ensures, omega (arith, ap length c.in-Some-after_word-2.ensures))

pub prefix_type-returns-in_err-inside : goal.prefix_type-returns-in_err-inside
prefix_type-returns-in_err-inside t c =
    let p = err_from_is_err_and c.from_residual-in_err-inside.result c.from_residual-in_err-inside.ensures.1 in
    rw (p.1, p.2) (fails_at c.in_err-inside.field-0.0 (sign symbol.OpenParenthesis) PrefixType (map token_of c.args.tokens.now) (map token_of c.args.tokens.now) (λ other. unopened_type (map token_of c.args.tokens.now) (record { no_pow = c.in_default.ensures; no_name = c.in_default-name.ensures; no_one = c.in_default-after_word.ensures; no_omega = c.in_default-after_word-2.ensures }) other) c.in_err-inside.ensures)

pub prefix_type-returns-in_err-inner-2 : goal.prefix_type-returns-in_err-inner-2
prefix_type-returns-in_err-inner-2 t c =
    let p = err_from_is_err_and c.from_residual-in_err-inner-2.result c.from_residual-in_err-inner-2.ensures.1 in
    rw (p.1, p.2) (fails_from c.in_err-inner-2.field-0.0 AnyType PrefixType (map token_of c.in_ok-inside.inside.now) (map token_of c.args.tokens.now) (λ r d. grouped_type_stops (map token_of c.args.tokens.now) (map token_of c.in_ok-inside.inside.now) r (record { no_pow = c.in_default.ensures; no_name = c.in_default-name.ensures; no_one = c.in_default-after_word.ensures; no_omega = c.in_default-after_word-2.ensures }) c.in_ok-inside.ensures d) c.in_err-inner-2.ensures)

pub prefix_type-returns-in_err-end : goal.prefix_type-returns-in_err-end
prefix_type-returns-in_err-end t c =
    let p = err_from_is_err_and c.from_residual-in_err-end.result c.from_residual-in_err-end.ensures.1 in
    rw (p.1, p.2) (fails_at c.in_err-end.field-0.0 (sign symbol.CloseParenthesis) PrefixType (map token_of c.in_ok-inner-2.rest.now) (map token_of c.args.tokens.now) (λ other. unclosed_type (map token_of c.args.tokens.now) (map token_of c.in_ok-inside.inside.now) (map token_of c.in_ok-inner-2.rest.now) (type_of c.in_ok-inner-2.inner) (record { no_pow = c.in_default.ensures; no_name = c.in_default-name.ensures; no_one = c.in_default-after_word.ensures; no_omega = c.in_default-after_word-2.ensures }) c.in_ok-inside.ensures c.in_ok-inner-2.ensures.0 other) c.in_err-end.ensures)

pub prefix_type-returns : goal.prefix_type-returns
prefix_type-returns t c = (
  grouped_type_read (map token_of c.args.tokens.now) (map token_of c.in_ok-inside.inside.now) (map token_of c.in_ok-inner-2.rest.now) (map token_of c.in_ok-end.end.now) (type_of c.in_ok-inner-2.inner) (record { no_pow = c.in_default.ensures; no_name = c.in_default-name.ensures; no_one = c.in_default-after_word.ensures; no_omega = c.in_default-after_word-2.ensures }) c.in_ok-inside.ensures c.in_ok-inner-2.ensures.0 c.in_ok-end.ensures,
  omega (arith, ap length c.in_ok-inside.ensures, c.in_ok-inner-2.ensures.1, ap length c.in_ok-end.ensures),
)
