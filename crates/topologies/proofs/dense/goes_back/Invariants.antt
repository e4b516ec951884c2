use Rattle.std.proofs.Common.{◌≡◌, eqb, drop}
use Rattle.std.specs.List.{list_any}
use Rattle.topos_model.specs.categories.Category.{compose}
use Rattle.topologies.specs.DenseCovers.{goes_back}
use Rattle.topologies.proofs.dense.goes_back.Given as goal

-- what is left gives the whole
abbrev pub invariant-loop-h : goal.invariant-loop-h
invariant-loop-h l = list_any (λ h. eqb (compose l.cat (compose l.cat l.f l.g) h) l.f) (drop l.h-index l.h-items) ≡ goes_back l.cat l.f l.g
