use Rattle.std.proofs.Common.{ap, sym, subst, ◌∙◌, Some}
use Rattle.functor_store.specs.Store.{Store, IsFreeKey, bare}
use Rattle.functor_store.proofs.Steps.{begin_step, kept_parts}
use Rattle.functor_store.proofs.store.FunctorStore.begin.Goals as goal

pub invariant_of-self : goal.invariant_of-self
invariant_of-self c = (kept_parts c.self.inside c.reserve.new.self c.self.invariant c.reserve.ensures.entries c.reserve.ensures.room.0).0

pub invariant_of-self-2 : goal.invariant_of-self-2
invariant_of-self-2 c =
    let P : Store → Type 0 = λ v. IsFreeKey v.sealed c.args.key in
    (begin_step c.self.inside c.args.key c.reserve.new.self c.in_ok-ends.ends c.self.invariant (ap (λ v. v.building) c.self.view_is ∙ c.requires.idle) (subst P (sym c.self.view_is) c.requires.free) c.reserve.ensures.entries c.in_ok-reserve.ensures.ok c.in_ok-ends.ensures.items).0

pub returns-clause-ok : goal.returns-clause-ok
returns-clause-ok c =
    let P : Store → Type 0 = λ v. IsFreeKey v.sealed c.args.key in
    (begin_step c.self.inside c.args.key c.reserve.new.self c.in_ok-ends.ends c.self.invariant (ap (λ v. v.building) c.self.view_is ∙ c.requires.idle) (subst P (sym c.self.view_is) c.requires.free) c.reserve.ensures.entries c.in_ok-reserve.ensures.ok c.in_ok-ends.ensures.items).1
    ∙ ap (λ (v : Store). record v { building = Some (bare c.args.key v.objects) }) c.self.view_is
