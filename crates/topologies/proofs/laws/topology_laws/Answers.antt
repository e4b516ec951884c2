use Rattle.topologies.proofs.LeastCovers.{is_least, covers_contain}
use Rattle.topologies.proofs.FirstFaults.{topology_of_none, none_of_topology, fault_fails}
use Rattle.topologies.proofs.DenseTopology.{dense_topology, least-dense}
use Rattle.topologies.proofs.Trivial.{trivial_topology, least-trivial}
use Rattle.topologies.proofs.SomeCovers.{some_cover}
use Rattle.topologies.proofs.laws.topology_laws.Goals as goal

pub returns-clause-decided : goal.returns-clause-decided
returns-clause-decided c = λ s j laws given. (topology_of_none s j laws given, none_of_topology s j laws given)

pub returns-clause-fails : goal.returns-clause-fails
returns-clause-fails c = λ s j fault laws given h. fault_fails s j fault laws given h

pub returns-clause-least : goal.returns-clause-least
returns-clause-least c = λ s laws top. is_least s laws top

pub returns-clause-covers : goal.returns-clause-covers
returns-clause-covers c = λ s d laws top low. covers_contain s laws top d low

pub returns-clause-dense : goal.returns-clause-dense
returns-clause-dense c = λ s laws dense. (dense_topology s laws dense, λ d low. least-dense s laws dense d low)

pub returns-clause-trivial : goal.returns-clause-trivial
returns-clause-trivial c = λ s laws plain none. (trivial_topology s laws plain none, λ d low. least-trivial s laws plain none d)

pub returns-clause-some_cover : goal.returns-clause-some_cover
returns-clause-some_cover c = λ s d p laws top low. some_cover s d p laws top low
