use Rattle.std.proofs.Common.{◌≡◌, ◌&&◌, drop, length, eqb, ltb}
use Rattle.std.specs.List.{list_all}
use Rattle.topos_model.specs.categories.Category.{cod}
use Rattle.topologies.specs.Families.{is_family}
use Rattle.topologies.proofs.families.is_family.Given as goal

-- what is left gives the whole
abbrev pub invariant-loop-f : goal.invariant-loop-f
invariant-loop-f l = list_all (λ f. ltb f (length l.cat.ends) && eqb (cod l.cat f) l.family.at) (drop l.f-index l.f-items) ≡ is_family l.cat l.family
