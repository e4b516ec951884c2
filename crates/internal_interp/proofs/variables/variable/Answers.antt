use Rattle.std.proofs.Common.{◌≤◌, length, sym, ap, ◌∙◌, arith}
use Rattle.internal_interp.proofs.Unbound.{unbound_type, unbound_stands}
use Rattle.internal_interp.proofs.variables.variable.Goals as goal

pub returns : goal.returns
returns c = λ w maps Γ scope.
    let far : length Γ ≤ c.args.k = omega (arith, c.if-k-len.false, c.len.ensures, ap length scope.sizes.types) in
    record { type_is = sym (unbound_type Γ c.args.k far); stands = unbound_stands w Γ c.args.k _ far (c.in_ok-numbers-2.ensures.stands w Γ (c.tuples.ensures ∙ scope.known.counted)) }
