use Rattle.std.proofs.Common.{◌≡◌, List, get_or, map, take}
use Rattle.topos_model.specs.declared.value.Val.{Star}
use Rattle.topos_model.specs.types.Types.{Presheaf, elements}
use Rattle.element_values.specs.Known.{Knows}
use Rattle.term_objects.proofs.values.values_at.Given as goal

abbrev pub invariant-loop-x : goal.invariant-loop-x
invariant-loop-x l = (functors : List Presheaf) → Knows l.source functors → l.values ≡ map (λ x. get_or (elements l.source.site.now functors l.ty l.c) x Star) (take l.x-index l.numbers)
