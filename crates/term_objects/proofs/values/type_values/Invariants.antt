use Rattle.std.proofs.Common.{◌≡◌, [], get_or, map}
use Rattle.topos_model.specs.declared.value.Val.{Star}
use Rattle.topos_model.specs.types.Types.{elements}
use Rattle.truth_tables.specs.Tables.{row}
use Rattle.term_objects.proofs.values.type_values.Given as goal

-- those at the objects so far
abbrev pub invariant-loop-c : goal.invariant-loop-c
invariant-loop-c l = l.values ≡ row l.c (λ c. map (λ x. get_or (elements l.world.site l.world.functors l.ty c) x Star) (get_or l.numbers c []))
