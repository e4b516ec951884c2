use Rattle.std.proofs.Common.{◌≡◌, ◌<◌, ap, ◌∙◌, arith, get_or}
use Rattle.functor_store.specs.Store.{functor_at, size_at, restrictions_at, place}
use Rattle.functor_store.proofs.Reading.{arrow_is, got}
use Rattle.functor_store.proofs.store.FunctorStore.restrict.Goals as goal

pub restrictions-requires : goal.restrictions-requires
restrictions-requires c =
    let d = arrow_is c.self.inside _ c.args.f c.get.result.now c.self.invariant c.self.view_is c.requires.arrow c.get.ensures in
    let k : c.args.k < size_at (functor_at c.args.self.now.sealed c.args.id) c.get.result.now.1 = rw d.is c.requires.element in
    record { sealed = c.requires.sealed; object = d.object; element = k }

pub bounds-restrictions-get : goal.bounds-restrictions-get
bounds-restrictions-get c =
    let d = arrow_is c.self.inside _ c.args.f c.get.result.now c.self.invariant c.self.view_is c.requires.arrow c.get.ensures in
    let p : c.get-2.result.now ≡ place c.args.self.now.ends c.args.f = got c.self.inside.tables.places c.args.f c.get-2.result.now 0 c.get-2.ensures ∙ d.place_is in
    omega (arith, p, c.restrictions.ensures.arrows, d.within)

pub returns : goal.returns
returns c =
    let d = arrow_is c.self.inside _ c.args.f c.get.result.now c.self.invariant c.self.view_is c.requires.arrow c.get.ensures in
    let p : c.get-2.result.now ≡ place c.args.self.now.ends c.args.f = got c.self.inside.tables.places c.args.f c.get-2.result.now 0 c.get-2.ensures ∙ d.place_is in
    record {
      number = ap (λ x. get_or x c.get-2.result.now 0) c.restrictions.ensures.numbers
          ∙ ap (λ x. get_or (restrictions_at (functor_at c.args.self.now.sealed c.args.id) c.get.result.now.1 c.args.k) x 0) p
          ∙ ap (λ x. get_or (restrictions_at (functor_at c.args.self.now.sealed c.args.id) (x.1) c.args.k) (place c.args.self.now.ends c.args.f) 0) d.is;
    }
