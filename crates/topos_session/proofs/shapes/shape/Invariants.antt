use Rattle.std.proofs.Common.{◌≡◌, ◌++◌, drop}
use Rattle.topos_session.proofs.shapes.shape.Given as goal

abbrev pub invariant-loop-f : goal.invariant-loop-f
invariant-loop-f l = (l.along ++ drop l.f l.functor.along) ≡ drop l.cat.objects l.functor.along
