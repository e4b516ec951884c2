use Rattle.std.proofs.Common.{rules, ◌++◌, reverse, inl, refl, sym, subst, ap, ◌∙◌}
use Rattle.std.proofs.lemmas.List.{append-nil}
use Rattle.std.proofs.lemmas.Result.{on_ok_weaker}
use Rattle.element_values.specs.Known.{IsTuple, values_at}
use Rattle.element_values.proofs.Parts.{itself}
use Rattle.element_values.proofs.TupleValues.{count_positive, outer_tuple, last_element, one_more, tuple_under, no_values, innermost_first}
use Rattle.element_values.proofs.tuples.+push_values.Goals as goal

pub count-count-requires-clause-held : goal.count-count-requires-clause-held
count-count-requires-clause-held t c =
    let (w, h) = c.requires.tuple in
    let e = c.args.elements.now in
    let T = c.in-Some.innermost.now in
    let split = subst (λ Γ. IsTuple e w Γ c.args.c c.args.k) (innermost_first c.args.types.now c.in-Some.outer.now T c.in-Some.ensures.cases.0) h in
    itself e T (split.readable T (inl refl))

pub nonzero_div-k : goal.nonzero_div-k
nonzero_div-k t c =
    let (w, h) = c.requires.tuple in
    let e = c.args.elements.now in
    let T = c.in-Some.innermost.now in
    let outer = reverse c.in-Some.outer.now in
    let split = subst (λ Γ. IsTuple e w Γ c.args.c c.args.k) (innermost_first c.args.types.now c.in-Some.outer.now T c.in-Some.ensures.cases.0) h in
    count_positive e w outer T c.args.c c.args.k c.count-count.result split (c.count-count.ensures w.functors split.world.faithful)

pub push_values-requires : goal.push_values-requires
push_values-requires t c =
    let (w, h) = c.requires.tuple in
    let e = c.args.elements.now in
    let T = c.in-Some.innermost.now in
    let outer = reverse c.in-Some.outer.now in
    let split = subst (λ Γ. IsTuple e w Γ c.args.c c.args.k) (innermost_first c.args.types.now c.in-Some.outer.now T c.in-Some.ensures.cases.0) h in
    (search rules, (w, outer_tuple e w outer T c.args.c c.args.k c.count-count.result split (c.count-count.ensures w.functors split.world.faithful)))

pub nonzero_rem-k : goal.nonzero_rem-k
nonzero_rem-k t c =
    let (w, h) = c.requires.tuple in
    let e = c.args.elements.now in
    let T = c.in-Some.innermost.now in
    let outer = reverse c.in-Some.outer.now in
    let split = subst (λ Γ. IsTuple e w Γ c.args.c c.args.k) (innermost_first c.args.types.now c.in-Some.outer.now T c.in-Some.ensures.cases.0) h in
    count_positive e w outer T c.args.c c.args.k c.count-count.result split (c.count-count.ensures w.functors split.world.faithful)

pub element_value-requires : goal.element_value-requires
element_value-requires t c =
    let (w, h) = c.requires.tuple in
    let e = c.args.elements.now in
    let T = c.in-Some.innermost.now in
    let outer = reverse c.in-Some.outer.now in
    let split = subst (λ Γ. IsTuple e w Γ c.args.c c.args.k) (innermost_first c.args.types.now c.in-Some.outer.now T c.in-Some.ensures.cases.0) h in
    record { element = (w.functors, last_element e w outer T c.args.c c.args.k c.count-count.result split (c.count-count.ensures w.functors split.world.faithful)) }

pub returns-in-None : goal.returns-in-None
returns-in-None t c = λ w world.
    sym (ap (λ l. c.args.vals.now ++ l) (no_values c.args.elements.now w c.args.types.now c.args.c c.args.k c.in-None.ensures.cases) ∙ append-nil c.args.vals.now)

pub returns-in_ok-element_value-in-Some : goal.returns-in_ok-element_value-in-Some
returns-in_ok-element_value-in-Some t c =
    let (w, h) = c.requires.tuple in
    let e = c.args.elements.now in
    let T = c.in-Some.innermost.now in
    let outer = reverse c.in-Some.outer.now in
    let turned = innermost_first c.args.types.now c.in-Some.outer.now T c.in-Some.ensures.cases.0 in
    on_ok_weaker c.push.result (λ pushed w' world.
    let split = subst (λ Γ. IsTuple e w' Γ c.args.c c.args.k) turned (tuple_under e w w' (reverse c.args.types.now) c.args.c c.args.k h world) in
    one_more e w' outer T c.args.c c.args.k c.count-count.result split (c.count-count.ensures w'.functors world.faithful)
    c.in_ok-element_value-in-Some.field-0 c.args.vals.now c.push_values.new.vals c.push.new.self c.in_ok-element_value-in-Some.ensures.value
    (c.in_ok-push_values-in-Some.ensures w' world) pushed
    ∙ ap (λ Γ. c.args.vals.now ++ values_at e w' Γ c.args.c c.args.k) (sym turned)) c.push.ensures.ok
