use Rattle.std.proofs.Common.{◌≡◌, take, reverse, sym, ap, subst, arith}
use Rattle.std.proofs.lemmas.List.{take_all}
use Rattle.std.proofs.lemmas.Result.{IfOk-weaker}
use Rattle.functor_store.specs.Faithful.{Holds}
use Rattle.internal_interp.specs.Known.{IsScope}
use Rattle.internal_interp.proofs.SealedContexts.{no_types, one_held, first_type, type_to, types_to, binding_to}
use Rattle.internal_interp.proofs.scopes.scope.Goals as goal

pub no_variables-requires-clause-held : goal.no_variables-requires-clause-held
no_variables-requires-clause-held c = one_held c.args.types.now (Holds c.args.interpreter.now.store.now) (no_types c.args.types.now (omega (arith, c.if-types-eq0.true))) c.requires.held

pub one_variable-requires-clause-held : goal.one_variable-requires-clause-held
one_variable-requires-clause-held c =
    c.requires.held c.index-types-0.result (type_to c.args.types.now 0 c.index-types-0.result (omega (arith, c.if-types-eq0.false)) (sym c.index-types-0.is))

pub returns-then-types-eq0 : goal.returns-then-types-eq0
returns-then-types-eq0 c =
    let none = no_types c.args.types.now (omega (arith, c.if-types-eq0.true)) in
    record {
      scope = IfOk-weaker c.no_variables.result _ _ (λ context is w maps knows. subst (λ l. IsScope w maps c.args.interpreter.now l context) (sym (ap reverse none)) (is w maps knows)) c.no_variables.ensures;
    }

pub loop-k-init : goal.loop-k-init
loop-k-init c = λ w maps knows.
    let T = c.index-types-0.result in
    subst (λ l. IsScope w maps c.args.interpreter.now l c.in_ok-context.context) (sym (first_type c.args.types.now T (omega (arith, c.if-types-eq0.false)) (sym c.index-types-0.is)))
    (c.in_ok-context.ensures w maps knows)

pub bind-requires : goal.bind-requires
bind-requires c =
    let (w, maps, knows) = c.requires.known in
    let types = c.args.types.now in
    let k = c.loop-k.k in
    record {
      known = (w, maps, reverse (take k types), binding_to types k c.index-types-k.result c.loop-k-test.true (sym c.index-types-k.is) w maps c.args.interpreter.now c.loop-k.context knows (c.loop-k.invariant w maps knows) c.requires.held);
    }

pub loop-k-preserved : goal.loop-k-preserved
loop-k-preserved c = λ w maps knows.
    let types = c.args.types.now in
    let k = c.loop-k.k in
    let T = c.index-types-k.result in
    subst (λ l. IsScope w maps c.args.interpreter.now l c.in_ok-context-2.context) (sym (types_to types k T c.loop-k-test.true (sym c.index-types-k.is)))
    (c.in_ok-context-2.ensures w maps (reverse (take k types)) (binding_to types k T c.loop-k-test.true (sym c.index-types-k.is) w maps c.args.interpreter.now c.loop-k.context knows (c.loop-k.invariant w maps knows) c.requires.held))

pub returns : goal.returns
returns c = record {
  scope = λ w maps knows.
      let all : take c.loop-k.k c.args.types.now ≡ c.args.types.now = take_all c.loop-k.k c.args.types.now (omega (arith, c.loop-k-test.false)) in
      subst (λ l. IsScope w maps c.args.interpreter.now (reverse l) c.loop-k.context) all (c.loop-k.invariant w maps knows);
}
