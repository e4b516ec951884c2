use Rattle.std.proofs.Common.{◌≡◌, ◌<◌, ◌∷◌, [], ℕ, Option, length, sym, subst}
use Rattle.std.specs.Prelude.{MatchOption}
use Rattle.topos_model.specs.declared.ty.Ty.{One}
use Rattle.functor_store.specs.Store.{functor_at, IsFreeKey}
use Rattle.exponentials.specs.Needed.{IsOutcome}
use Rattle.exponentials.proofs.Outcomes.{held_outcome, sealed_outcome}
use Rattle.exponentials.proofs.next.one.Goals as goal

pub seal_one-requires-clause-free : goal.seal_one-requires-clause-free
seal_one-requires-clause-free c =
    let store = c.args.store.now in
    let T = c.args.ty.now in
    let free = subst (λ (o : Option ℕ). MatchOption o (IsFreeKey store.sealed T) (λ id. (id < length store.sealed) × ((functor_at store.sealed id).key ≡ T))) c.in-None.is c.find.ensures.place in
    subst (λ U. IsFreeKey store.sealed U) c.requires.key free

pub returns-in-Some : goal.returns-in-Some
returns-in-Some c =
    let store = c.args.store.now in
    let T = c.args.ty.now in
    let there = subst (λ (o : Option ℕ). MatchOption o (IsFreeKey store.sealed T) (λ id. (id < length store.sealed) × ((functor_at store.sealed id).key ≡ T))) c.in-Some.is c.find.ensures.place in
    record { outcome = held_outcome c.args.site.now T store c.in-Some.id there }

pub returns-in-None : goal.returns-in-None
returns-in-None c =
    let store = c.args.store.now in
    let T = c.args.ty.now in
    let free = subst (λ (o : Option ℕ). MatchOption o (IsFreeKey store.sealed T) (λ id. (id < length store.sealed) × ((functor_at store.sealed id).key ≡ T))) c.in-None.is c.find.ensures.place in
    let e = c.seal_one.ensures in
    let made = sealed_outcome c.args.site.now One store c.seal_one.new.store c.seal_one.result (subst (λ U. IsFreeKey store.sealed U) c.requires.key free) e.ok e.place e.err e.faithful e.over in
    record { outcome = subst (λ U. IsOutcome c.args.site.now (U ∷ []) U store c.seal_one.new.store c.seal_one.result) (sym c.requires.key) made }
