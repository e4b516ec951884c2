use Rattle.std.proofs.Common.{◌≡◌, ◌-◌, ap, ◌∙◌, arith, get_or}
use Rattle.std.proofs.lemmas.List.{get_or_read}
use Rattle.functor_store.specs.Groups.{start}
use Rattle.functor_store.proofs.Reading.{sealed_count, found, count_is}
use Rattle.functor_store.proofs.store.FunctorStore.count.Goals as goal

pub index-part-requires : goal.index-part-requires
index-part-requires c = let n = sealed_count c.self.inside _ c.self.view_is in omega (arith, n, c.requires.sealed)

pub index-requires : goal.index-requires
index-requires c =
    let f = found c.self.inside _ c.args.id c.index-part.result.now c.self.invariant c.self.view_is c.requires.sealed c.index-part.ensures in
    let n = count_is c.self.inside _ c.args.id c.args.c c.index-part.result.now f c.requires.object in
    omega (arith, n, c.index-part.result.now.ends.ok)

pub start_of-requires : goal.start_of-requires
start_of-requires c =
    let f = found c.self.inside _ c.args.id c.index-part.result.now c.self.invariant c.self.view_is c.requires.sealed c.index-part.ensures in
    let n = count_is c.self.inside _ c.args.id c.args.c c.index-part.result.now f c.requires.object in
    record { within = rw c.deref.ensures.value (omega (arith, n)) }

pub overflow_sub-result : goal.overflow_sub-result
overflow_sub-result c =
    let f = found c.self.inside _ c.args.id c.index-part.result.now c.self.invariant c.self.view_is c.requires.sealed c.index-part.ensures in
    let n = count_is c.self.inside _ c.args.id c.args.c c.index-part.result.now f c.requires.object in
    let e : c.index.result.now ≡ get_or c.index-part.result.now.ends.items c.args.c 0 = get_or_read _ c.args.c _ n.0 c.index.ensures 0 in
    let s : c.start_of.result ≡ start c.index-part.result.now.base c.index-part.result.now.ends.items c.args.c = c.start_of.ensures.start ∙ ap (λ x. start c.index-part.result.now.base x c.args.c) c.deref.ensures.value in
    omega (arith, n, e, s)

pub returns-clause-elements : goal.returns-clause-elements
returns-clause-elements c =
    let f = found c.self.inside _ c.args.id c.index-part.result.now c.self.invariant c.self.view_is c.requires.sealed c.index-part.ensures in
    let n = count_is c.self.inside _ c.args.id c.args.c c.index-part.result.now f c.requires.object in
    let e : c.index.result.now ≡ get_or c.index-part.result.now.ends.items c.args.c 0 = get_or_read _ c.args.c _ n.0 c.index.ensures 0 in
    let s : c.start_of.result ≡ start c.index-part.result.now.base c.index-part.result.now.ends.items c.args.c = c.start_of.ensures.start ∙ ap (λ x. start c.index-part.result.now.base x c.args.c) c.deref.ensures.value in
    ap (λ x. x - c.start_of.result) e ∙ ap (λ x. get_or c.index-part.result.now.ends.items c.args.c 0 - x) s ∙ n.2

pub returns-clause-whole : goal.returns-clause-whole
returns-clause-whole c =
    let f = found c.self.inside _ c.args.id c.index-part.result.now c.self.invariant c.self.view_is c.requires.sealed c.index-part.ensures in
    f.sealed.whole
