use Rattle.std.proofs.Common.{◌+◌, ◌*◌, ◌≤◌, length, ap, ◌∙◌, arith}
use Rattle.std.proofs.Math.Nat.{mul-le-mul}
use Rattle.topos_model.specs.Laws.{size}
use Rattle.presheaf_core.proofs.functor.Functor.cells_at.Goals as goal

pub overflow_mul-result : goal.overflow_mul-result
overflow_mul-result c =
    let a : c.size-size.result ≤ 4294967295 = omega (arith, c.size-size.type_inv) in
    let b : 1 + length c.arrows_into.result.now ≤ 513 = omega (arith, c.arrows_into.ensures.few) in
    omega (arith, mul-le-mul a b)

pub returns-clause-value : goal.returns-clause-value
returns-clause-value c =
    ap (λ n. n * (1 + length c.arrows_into.result.now)) c.size-size.ensures ∙ ap (λ n. size c.args.self.now c.args.c * (1 + n)) (ap length c.arrows_into.ensures.value)

pub returns-clause-few : goal.returns-clause-few
returns-clause-few c =
    let a : c.size-size.result ≤ 4294967295 = omega (arith, c.size-size.type_inv) in
    let b : 1 + length c.arrows_into.result.now ≤ 513 = omega (arith, c.arrows_into.ensures.few) in
    omega (arith, mul-le-mul a b)
