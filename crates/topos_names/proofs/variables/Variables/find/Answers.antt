use Rattle.std.proofs.Common.{◌∙◌, ◌<◌, sym, ap, length, map, arith, bytes_eq}
use Rattle.std.proofs.lemmas.List.{length-map, length-reverse}
use Rattle.topos_names.proofs.VariableLemmas.{name_at, found_at, found_nowhere, not_before_more}
use Rattle.topos_names.proofs.variables.Variables.find.Goals as goal

pub returns-then-eq : goal.returns-then-eq
returns-then-eq c =
    let items = c.self.inside.names.items in
    let low : c.loop-i.i < length items = omega arith in
    let at = name_at items c.loop-i.i c.len.result c.index.result.now low (c.len.ensures ∙ c.self.inside.names.ok.0) c.index.ensures in
    found_at c.args.self.now c.args.text.now c.loop-i.i (rw (← c.self.view_is) (omega (arith, length-reverse (map (λ x. x.now) items), length-map items (λ x. x.now)))) c.loop-i.invariant (rw (← c.self.view_is) (ap (λ n. bytes_eq n c.args.text.now) at ∙ sym c.eq.ensures ∙ c.if-eq.true))

pub loop-i-preserved : goal.loop-i-preserved
loop-i-preserved c =
    let items = c.self.inside.names.items in
    let low : c.loop-i.i < length items = omega arith in
    let at = name_at items c.loop-i.i c.len.result c.index.result.now low (c.len.ensures ∙ c.self.inside.names.ok.0) c.index.ensures in
    not_before_more c.args.self.now c.args.text.now c.loop-i.i c.loop-i.invariant (rw (← c.self.view_is) (ap (λ n. bytes_eq n c.args.text.now) at ∙ sym c.eq.ensures ∙ c.if-eq.false))

pub returns : goal.returns
returns c =
    let items = c.self.inside.names.items in
    found_nowhere c.args.self.now c.args.text.now c.loop-i.i (rw (← c.self.view_is) (omega (arith, length-reverse (map (λ x. x.now) items), length-map items (λ x. x.now)))) c.loop-i.invariant
