use Rattle.std.proofs.Common.{ℕ, [], ◌∷◌, ◌++◌, List, get_or, map, sym, ap, ap₂, ◌∙◌, arith}
use Rattle.std.proofs.lemmas.List.{map_more, take_all}
use Rattle.finite_lists.proofs.Lists.{In_at}
use Rattle.topos_model.specs.declared.value.Val.{Val, Star}
use Rattle.topos_model.specs.types.Types.{elements}
use Rattle.term_objects.proofs.values.values_at.Goals as goal

pub element_value-requires : goal.element_value-requires
element_value-requires c =
    let (functors, known) = c.requires.known in
    record { element = (functors, known (get_or c.args.numbers.now c.loop-x.x-index 0) (In_at c.args.numbers.now c.loop-x.x-index 0 c.loop-x-test.true)) }

pub loop-x-preserved : goal.loop-x-preserved
loop-x-preserved c = λ functors know.
    let numbers = c.args.numbers.now in
    let f : ℕ → Val = λ x. get_or (elements c.args.source.now.site.now functors c.args.ty.now c.args.c) x Star in
    let stands = c.in_ok-element_value.ensures.value functors know in
    c.in_ok-push.ensures.ok
    ∙ ap₂ (λ (vs : List Val) (v : Val). vs ++ v ∷ []) (c.loop-x.invariant functors know) (sym stands.is)
    ∙ sym (map_more f numbers c.loop-x.x-index 0 c.loop-x-test.true)

pub returns : goal.returns
returns c = λ functors know.
    c.loop-x.invariant functors know
    ∙ ap (map (λ x. get_or (elements c.args.source.now.site.now functors c.args.ty.now c.args.c) x Star)) (take_all c.loop-x.x-index c.args.numbers.now (omega (arith, c.loop-x-test.false)))
