use Rattle.std.proofs.Common.{[], get_or, reverse, sym, subst, ◌∙◌, arith}
use Rattle.topos_model.specs.declared.ty.Ty.{Omega}
use Rattle.topos_model.specs.formulas.Forcing.{tuples}
use Rattle.functor_store.specs.Faithful.{Stands}
use Rattle.element_values.specs.Known.{IsElement}
use Rattle.formula_answers.proofs.KeptTuples.{arrows_none, arrows_more, arrows_all}
use Rattle.formula_answers.proofs.ReadTuples.{tuples_counted, store_faithful, tuple_low, tuple_known, sieve_known, stands_here}
use Rattle.formula_answers.proofs.stages.sieves_at.Goals as goal

pub loop-k-init : goal.loop-k-init
loop-k-init c = λ w v h. c.new-found.ensures ∙ arrows_none (v c.args.c) (tuples w (reverse c.args.types.now) c.args.c)

pub tuple_value-requires : goal.tuple_value-requires
tuple_value-requires c =
    let (w, v, h) = c.requires.known in
    record { tuple = (w, tuple_known c.args.elements.now w (reverse c.args.types.now) c.args.sizes.now c.args.c c.loop-k.k c.requires.object (omega (arith, c.loop-k-test.true)) h.tuples) }

pub arrows_at-requires : goal.arrows_at-requires
arrows_at-requires c =
    let (w, v, h) = c.requires.known in
    let e = c.args.elements.now in
    let known = sieve_known e w (reverse c.args.types.now) c.args.sizes.now c.args.c c.loop-k.k c.requires.object c.loop-k-test.true v c.args.numbers.now h in
    record { element = (w.functors, subst (IsElement e w.functors Omega c.args.c) (sym c.number.ensures) known) }

pub loop-k-preserved : goal.loop-k-preserved
loop-k-preserved c = λ w v h.
    let e = c.args.elements.now in
    let Γ = reverse c.args.types.now in
    let inside = c.loop-k-test.true in
    let known = sieve_known e w Γ c.args.sizes.now c.args.c c.loop-k.k c.requires.object inside v c.args.numbers.now h in
    let stands = stands_here e w Γ c.args.sizes.now c.args.c c.loop-k.k c.requires.object inside v c.args.numbers.now h in
    arrows_more (v c.args.c) (tuples w Γ c.args.c) c.loop-k.k (tuple_low e w Γ c.args.sizes.now c.args.c c.loop-k.k c.requires.object inside h.tuples) c.loop-k.found c.push.new.self
    c.in_ok-tuple.tuple c.in_ok-arrows.arrows (c.loop-k.invariant w v h) (c.in_ok-tuple.ensures.value w h.tuples.world.site (store_faithful e w Γ c.args.sizes.now h.tuples))
    (c.in_ok-arrows.ensures w.functors _ (subst (IsElement e w.functors Omega c.args.c) (sym c.number.ensures) known)
    (subst (λ n. Stands e.site.now w.functors Omega c.args.c n (v c.args.c (get_or (tuples w Γ c.args.c) c.loop-k.k []))) (sym c.number.ensures) stands)) c.in_ok-push.ensures.ok

pub returns : goal.returns
returns c = λ w v h.
    arrows_all (v c.args.c) (tuples w (reverse c.args.types.now) c.args.c) c.loop-k.k c.loop-k.found
    (let n = tuples_counted c.args.elements.now w (reverse c.args.types.now) c.args.sizes.now h.tuples c.args.c c.requires.object in omega (arith, n, c.loop-k-test.false))
    (c.loop-k.invariant w v h)
