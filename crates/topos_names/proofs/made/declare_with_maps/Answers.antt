use Rattle.std.proofs.Common.{◌∙◌, [], ◌∷◌, ap, sym}
use Rattle.std.proofs.lemmas.Result.{err_from_is_err_and}
use Rattle.topos_text.specs.Tokens.{written}
use Rattle.topos_text.specs.Names.{known, twice_fault, with_maps}
use Rattle.topos_names.proofs.MadeNames.{not_declared, map_not_declared, maps_not_declared, maps_declared, made_two}
use Rattle.topos_names.proofs.made.declare_with_maps.Goals as goal

pub returns-in_err-functor-clause-fault : goal.returns-in_err-functor-clause-fault
returns-in_err-functor-clause-fault c =
    let p = err_from_is_err_and c.from_residual.result c.from_residual.ensures.1 in
    rw (p.1, p.2) (λ fault e. not_declared c.args.scope.now (written c.args.z.now) _ fault (c.in_err-functor.ensures.fault fault e))

pub returns-in_err-first-clause-fault : goal.returns-in_err-first-clause-fault
returns-in_err-first-clause-fault c =
    let p = err_from_is_err_and c.from_residual-in_err-first.result c.from_residual-in_err-first.ensures.1 in
    rw (p.1, p.2) (λ fault e. map_not_declared c.args.scope.now (written c.args.z.now) (written c.args.p.now) c.in_ok-functor.ensures.ok _ fault (ap (λ s. twice_fault (known s) (written c.args.p.now)) (sym c.in_ok-functor.ensures.declared) ∙ c.in_err-first.ensures.fault fault e))

pub returns-in_err-second-clause-fault : goal.returns-in_err-second-clause-fault
returns-in_err-second-clause-fault c =
    let p = err_from_is_err_and c.from_residual-in_err-second.result c.from_residual-in_err-second.ensures.1 in
    let scope = c.in_ok-first.ensures.declared ∙ ap (λ s. with_maps s (written c.args.p.now ∷ [])) c.in_ok-functor.ensures.declared in
    rw (p.1, p.2) (λ fault e. maps_not_declared c.args.scope.now (written c.args.z.now) (written c.args.p.now) c.in_ok-functor.ensures.ok (written c.args.q.now) (ap (λ s. twice_fault (known s) (written c.args.p.now)) (sym c.in_ok-functor.ensures.declared) ∙ c.in_ok-first.ensures.ok) fault (ap (λ s. twice_fault (known s) (written c.args.q.now)) (sym scope) ∙ c.in_err-second.ensures.fault fault e))

pub returns-clause-ok : goal.returns-clause-ok
returns-clause-ok c =
    let scope = c.in_ok-first.ensures.declared ∙ ap (λ s. with_maps s (written c.args.p.now ∷ [])) c.in_ok-functor.ensures.declared in
    maps_declared c.args.scope.now (written c.args.z.now) (written c.args.p.now) c.in_ok-functor.ensures.ok (written c.args.q.now) (ap (λ s. twice_fault (known s) (written c.args.p.now)) (sym c.in_ok-functor.ensures.declared) ∙ c.in_ok-first.ensures.ok) (ap (λ s. twice_fault (known s) (written c.args.q.now)) (sym scope) ∙ c.in_ok-second.ensures.ok)

pub returns-clause-made : goal.returns-clause-made
returns-clause-made c =
    let scope = c.in_ok-first.ensures.declared ∙ ap (λ s. with_maps s (written c.args.p.now ∷ [])) c.in_ok-functor.ensures.declared in
    c.in_ok-second.ensures.declared ∙ ap (λ s. with_maps s (written c.args.q.now ∷ [])) scope ∙ made_two c.args.scope.now (written c.args.z.now) (written c.args.p.now) c.in_ok-functor.ensures.ok (written c.args.q.now) (ap (λ s. twice_fault (known s) (written c.args.p.now)) (sym c.in_ok-functor.ensures.declared) ∙ c.in_ok-first.ensures.ok)
