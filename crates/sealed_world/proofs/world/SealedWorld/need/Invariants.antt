use Rattle.std.proofs.Common.{take}
use Rattle.std.specs.List.{flat_map}
use Rattle.topos_model.specs.statements.Needs.{parts}
use Rattle.sealed_world.specs.SealedWorlds.{IsGrownBy}
use Rattle.sealed_world.proofs.world.SealedWorld.need.Given as goal

abbrev pub invariant-loop-ty : goal.invariant-loop-ty
invariant-loop-ty l = IsGrownBy (flat_map parts (take l.ty-index l.types)) l.fn.self l.self
