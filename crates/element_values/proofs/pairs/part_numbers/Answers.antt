use Rattle.std.proofs.Common.{sym, subst, ap, ◌∙◌}
use Rattle.functor_store.specs.Faithful.{Holds}
use Rattle.element_values.specs.Known.{count_of}
use Rattle.element_values.proofs.Parts.{itself, readable_right, count_some, first_half, second_half, pair_value}
use Rattle.element_values.proofs.pairs.part_numbers.Goals as goal

pub count-count-requires-clause-held : goal.count-count-requires-clause-held
count-count-requires-clause-held c =
    let (functors, h) = c.requires.element in
    let e = c.args.elements.now in
    subst (Holds e.store.now) (sym c.get.ensures) (itself e c.args.right.now (readable_right e c.args.left.now c.args.right.now h.readable))

pub nonzero_div-result : goal.nonzero_div-result
nonzero_div-result c =
    let (functors, h) = c.requires.element in
    let e = c.args.elements.now in
    count_some e c.args.left.now c.args.right.now c.args.c c.args.k c.count-count.result functors h (c.count-count.ensures functors h.faithful ∙ ap (λ T. count_of e functors T c.args.c) c.get.ensures)

pub nonzero_rem-result : goal.nonzero_rem-result
nonzero_rem-result c =
    let (functors, h) = c.requires.element in
    let e = c.args.elements.now in
    count_some e c.args.left.now c.args.right.now c.args.c c.args.k c.count-count.result functors h (c.count-count.ensures functors h.faithful ∙ ap (λ T. count_of e functors T c.args.c) c.get.ensures)

pub returns-clause-first : goal.returns-clause-first
returns-clause-first c =
    let (functors, h) = c.requires.element in
    let e = c.args.elements.now in
    (functors, first_half e c.args.left.now c.args.right.now c.args.c c.args.k c.count-count.result functors h (c.count-count.ensures functors h.faithful ∙ ap (λ T. count_of e functors T c.args.c) c.get.ensures))

pub returns-clause-second : goal.returns-clause-second
returns-clause-second c =
    let (functors, h) = c.requires.element in
    let e = c.args.elements.now in
    (functors, second_half e c.args.left.now c.args.right.now c.args.c c.args.k c.count-count.result functors h (c.count-count.ensures functors h.faithful ∙ ap (λ T. count_of e functors T c.args.c) c.get.ensures))

pub returns-clause-value : goal.returns-clause-value
returns-clause-value c =
    let e = c.args.elements.now in
    pair_value e c.args.left.now c.args.right.now c.args.c c.args.k c.count-count.result (λ functors know. c.count-count.ensures functors know ∙ ap (λ T. count_of e functors T c.args.c) c.get.ensures)
