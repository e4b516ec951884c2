use Rattle.std.proofs.Common.{◌∙◌, map, [], arith}
use Rattle.std.specs.List.{range_with_len}
use Rattle.std.proofs.lemmas.List.{get_or_past}
use Rattle.std.proofs.lemmas.List.FromFn.{get_or-map-range_with_len, length-map-range_with_len}
use Rattle.topos_text.specs.StatementNames.{elements_at}
use Rattle.topos_names.proofs.stages.Stages.elements.Goals as goal

pub returns-then-object-self : goal.returns-then-object-self
returns-then-object-self c = rw (← c.self.view_is) (get_or-map-range_with_len (elements_at c.self.inside.listed) 0 c.self.inside.objects c.args.object c.args.object [] c.if-object-self.true (omega arith) ∙ c.elements.ensures)

pub returns-else-object-self : goal.returns-else-object-self
returns-else-object-self c = rw (← c.self.view_is) (get_or_past (map (elements_at c.self.inside.listed) (range_with_len 0 c.self.inside.objects)) c.args.object [] (omega (arith, length-map-range_with_len (elements_at c.self.inside.listed) 0 c.self.inside.objects)))
