use Rattle.std.proofs.Common.{◌∙◌, [], ap, sym}
use Rattle.std.proofs.lemmas.Result.{err_from_is_err_and}
use Rattle.topos_text.specs.Tokens.{written}
use Rattle.topos_text.specs.Names.{known, twice_fault}
use Rattle.topos_names.proofs.MadeNames.{not_declared, map_not_declared, map_declared}
use Rattle.topos_names.proofs.categories.declare_with_on_map.Goals as goal

pub returns-in_err-functor-clause-fault : goal.returns-in_err-functor-clause-fault
returns-in_err-functor-clause-fault c =
    let p = err_from_is_err_and c.from_residual.result c.from_residual.ensures.1 in
    rw (p.1, p.2) (λ fault e. not_declared c.args.scope.now (written c.args.z.now) _ fault (c.in_err-functor.ensures.fault fault e))

pub returns-in_err-map-clause-fault : goal.returns-in_err-map-clause-fault
returns-in_err-map-clause-fault c =
    let p = err_from_is_err_and c.from_residual-in_err-map.result c.from_residual-in_err-map.ensures.1 in
    rw (p.1, p.2) (λ fault e. map_not_declared c.args.scope.now (written c.args.z.now) (written c.args.e.now) c.in_ok-functor.ensures.ok [] fault (ap (λ s. twice_fault (known s) (written c.args.e.now)) (sym c.in_ok-functor.ensures.declared) ∙ c.in_err-map.ensures.fault fault e))

pub returns-clause-ok : goal.returns-clause-ok
returns-clause-ok c = map_declared c.args.scope.now (written c.args.z.now) (written c.args.e.now) c.in_ok-functor.ensures.ok (ap (λ s. twice_fault (known s) (written c.args.e.now)) (sym c.in_ok-functor.ensures.declared) ∙ c.in_ok-map.ensures.ok)
