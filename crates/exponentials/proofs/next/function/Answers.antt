use Rattle.std.proofs.Common.{◌≡◌, ◌<◌, ℕ, Option, length, subst}
use Rattle.std.specs.Prelude.{MatchOption}
use Rattle.functor_store.specs.Store.{functor_at, IsFreeKey}
use Rattle.exponentials.proofs.Outcomes.{held_outcome, sealed_outcome}
use Rattle.exponentials.proofs.next.function.Goals as goal

pub returns-in-Some : goal.returns-in-Some
returns-in-Some c =
    let store = c.args.store.now in
    let T = c.args.ty.now in
    let there = subst (λ (o : Option ℕ). MatchOption o (IsFreeKey store.sealed T) (λ id. (id < length store.sealed) × ((functor_at store.sealed id).key ≡ T))) c.in-Some.is c.find.ensures.place in
    record { outcome = held_outcome c.args.site.now T store c.in-Some.id there }

pub returns-in-None : goal.returns-in-None
returns-in-None c =
    let store = c.args.store.now in
    let T = c.args.ty.now in
    let free = subst (λ (o : Option ℕ). MatchOption o (IsFreeKey store.sealed T) (λ id. (id < length store.sealed) × ((functor_at store.sealed id).key ≡ T))) c.in-None.is c.find.ensures.place in
    let e = c.seal_function.ensures in
    record { outcome = sealed_outcome c.args.site.now T store c.seal_function.new.store c.seal_function.result free e.ok e.place e.err e.faithful e.over }
