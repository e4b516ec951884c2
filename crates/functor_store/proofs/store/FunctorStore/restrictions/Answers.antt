use Rattle.std.proofs.Common.{◌≡◌, ◌+◌, ap, ◌∙◌, arith, length, get_or, []}
use Rattle.functor_store.specs.Groups.{start}
use Rattle.functor_store.specs.Store.{functor_at, restrictions_at}
use Rattle.functor_store.proofs.Steps.{few_rows, base_in}
use Rattle.functor_store.proofs.Reading.{sealed_count, found, count_is, restriction_is}
use Rattle.functor_store.proofs.store.FunctorStore.restrictions.Goals as goal

pub index-part-requires : goal.index-part-requires
index-part-requires c = let n = sealed_count c.self.inside _ c.self.view_is in omega (arith, n, c.requires.sealed)

pub start_of-requires : goal.start_of-requires
start_of-requires c =
    let f = found c.self.inside _ c.args.id c.index-part.result.now c.self.invariant c.self.view_is c.requires.sealed c.index-part.ensures in
    let n = count_is c.self.inside _ c.args.id c.args.c c.index-part.result.now f c.requires.object in
    record { within = rw c.deref.ensures.value (omega (arith, n)) }

pub overflow_add-start_of : goal.overflow_add-start_of
overflow_add-start_of c =
    let f = found c.self.inside _ c.args.id c.index-part.result.now c.self.invariant c.self.view_is c.requires.sealed c.index-part.ensures in
    let n = restriction_is c.self.inside _ c.args.id c.args.c c.args.k c.index-part.result.now f c.requires.object c.requires.element in
    let s : c.start_of.result ≡ start c.index-part.result.now.base c.index-part.result.now.ends.items c.args.c = c.start_of.ensures.start ∙ ap (λ x. start c.index-part.result.now.base x c.args.c) c.deref.ensures.value in
    let few = few_rows c.self.inside c.self.invariant in
    let b = base_in c.self.inside c.self.invariant in
    omega (arith, n.0, s, few, b)

pub row-requires : goal.row-requires
row-requires c =
    let f = found c.self.inside _ c.args.id c.index-part.result.now c.self.invariant c.self.view_is c.requires.sealed c.index-part.ensures in
    let n = restriction_is c.self.inside _ c.args.id c.args.c c.args.k c.index-part.result.now f c.requires.object c.requires.element in
    let s : c.start_of.result ≡ start c.index-part.result.now.base c.index-part.result.now.ends.items c.args.c = c.start_of.ensures.start ∙ ap (λ x. start c.index-part.result.now.base x c.args.c) c.deref.ensures.value in
    record { place = omega (arith, n.0, s) }

pub returns : goal.returns
returns c =
    let f = found c.self.inside _ c.args.id c.index-part.result.now c.self.invariant c.self.view_is c.requires.sealed c.index-part.ensures in
    let n = restriction_is c.self.inside _ c.args.id c.args.c c.args.k c.index-part.result.now f c.requires.object c.requires.element in
    let s : c.start_of.result ≡ start c.index-part.result.now.base c.index-part.result.now.ends.items c.args.c = c.start_of.ensures.start ∙ ap (λ x. start c.index-part.result.now.base x c.args.c) c.deref.ensures.value in
    let r : c.row.result.now ≡ restrictions_at (functor_at c.args.self.now.sealed c.args.id) c.args.c c.args.k =
    c.row.ensures.row ∙ ap (λ x. get_or c.self.inside.restrictions.rows (x + c.args.k) []) s ∙ n.1 in
    record { numbers = r; arrows = ap length r ∙ n.2 }
