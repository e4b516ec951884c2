-- What a fault of listed covers says.
use Rattle.std.specs.Prelude.{◌≡◌, ℕ, List, [], map, get_or, Some}
use Rattle.topos_model.specs.declared.fault.Fault.TheVariants.{NotStable as Unstable, NotTransitive as Narrow}
use Rattle.topos_model.specs.topologies.Cover.{Site}
use Rattle.topos_model.specs.topologies.TopologyFaults.{topology_fault}
use Rattle.topos_model.specs.categories.Category.{Category}
use Rattle.topos_model.specs.topologies.TopologyFaults.{intersection}
use Rattle.fin_category.specs.declared.mask.ArrowMask.{ArrowMask}
use Rattle.fin_category.specs.ArrowSets.{arrows_in}
use Rattle.sieve_table.specs.declared.sieve.Sieve.{Sieve}
use Rattle.sieve_table.specs.Sieves.{sieve_arrows}
use Rattle.topologies.specs.Candidates.{unstable, narrow, taken_twice, thin}
use Rattle.topologies.specs.declared.fault.TopFault.{TopFault}
use Rattle.topologies.specs.declared.fault.TopFault.TheVariants.{NotStable, NotTransitive, NoMemory}

-- the candidate that is given is the first that fails, whatever the topology's number
abbrev pub IsFaultOf : Site → TopFault → Type 0
IsFaultOf s (NotStable at cover f) = (under : ℕ) → topology_fault s under ≡ Some (Unstable under at cover f)
IsFaultOf s (NotTransitive at cover other) = (under : ℕ) → topology_fault s under ≡ Some (Narrow under at cover other)
IsFaultOf s NoMemory = Unit {0}

-- the first listed sieve that pulls back to no cover, and the arrow
abbrev pub IsUnstable : Category → List Sieve → TopFault → Type 0
IsUnstable k sieves (NotStable at cover f) = (l : Sieve) × (unstable k sieves ≡ Some (l, f)) × (at ≡ l.at) × (cover ≡ sieve_arrows l)
IsUnstable k sieves (NotTransitive at cover other) = ⊥
IsUnstable k sieves NoMemory = Unit {0}

-- the first two listed sieves whose intersection is no cover
abbrev pub IsNarrow : Category → List Sieve → TopFault → Type 0
IsNarrow k sieves (NotStable at cover f) = ⊥
IsNarrow k sieves (NotTransitive at cover other) =
    (l : Sieve) × (m : Sieve) × (narrow k sieves ≡ Some (l, m)) × (at ≡ l.at) × (cover ≡ sieve_arrows l) × (other ≡ intersection (sieve_arrows l) (sieve_arrows m))
IsNarrow k sieves NoMemory = Unit {0}

-- the first object at which the least covers taken twice are no cover
abbrev pub IsThin : Category → List Sieve → List ArrowMask → TopFault → Type 0
IsThin k sieves least (NotStable at cover f) = ⊥
IsThin k sieves least (NotTransitive at cover other) = (thin k sieves least ≡ Some at) × (cover ≡ get_or (map arrows_in least) at []) × (other ≡ taken_twice k least at)
IsThin k sieves least NoMemory = Unit {0}
