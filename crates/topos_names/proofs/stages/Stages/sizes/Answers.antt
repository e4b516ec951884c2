use Rattle.std.proofs.Common.{◌≡◌, ◌∙◌, length, sym, ap, arith}
use Rattle.std.specs.List.{range_with_len}
use Rattle.std.proofs.lemmas.Simd.{map-map}
use Rattle.topos_text.specs.StatementNames.{elements_at}
use Rattle.topos_names.proofs.StageLemmas.{range_more}
use Rattle.topos_names.proofs.stages.Stages.sizes.Goals as goal

pub loop-object-preserved : goal.loop-object-preserved
loop-object-preserved c = range_more (λ k. length (elements_at c.self.inside.listed k)) c.loop-object.object c.loop-object.sizes c.push.new.self c.size.result c.loop-object.invariant c.in_ok-push.ensures.ok (c.size.ensures ∙ ap length (sym c.elements.ensures))

pub returns : goal.returns
returns c =
    let all : c.loop-object.object ≡ c.self.inside.objects = omega arith in
    rw (← c.self.view_is, c.loop-object.invariant, all) (sym (map-map length (elements_at c.self.inside.listed) (range_with_len 0 c.self.inside.objects)))
