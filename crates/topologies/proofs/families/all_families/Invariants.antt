use Rattle.std.proofs.Common.{◌≡◌, drop}
use Rattle.std.specs.List.{list_all}
use Rattle.topologies.specs.Families.{is_family, are_families}
use Rattle.topologies.proofs.families.all_families.Given as goal

-- what is left gives the whole
abbrev pub invariant-loop-family : goal.invariant-loop-family
invariant-loop-family l = list_all (is_family l.cat) (drop l.family-index l.families) ≡ are_families l.cat l.families
