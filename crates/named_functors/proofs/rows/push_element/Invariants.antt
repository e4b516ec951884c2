use Rattle.std.proofs.Common.{◌≡◌, ◌++◌, map, take}
use Rattle.topos_model.specs.Laws.{act}
use Rattle.named_functors.proofs.rows.push_element.Given as goal

abbrev pub invariant-loop-f : goal.invariant-loop-f
invariant-loop-f l = l.out ≡ l.fn.out ++ map (λ f. act l.functor f l.x) (take l.f-index l.f-items)
