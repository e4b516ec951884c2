use Rattle.sheaf_test.proofs.MatchingFamilies.{lists_matching_families}
use Rattle.sheaf_test.proofs.Amalgamations.{listed_amalgamation, amalgamation_listed}
use Rattle.sheaf_test.proofs.LeastCoverFamilies.{faultless_sheaf, sheaf_faultless}
use Rattle.sheaf_test.proofs.laws.sheaf_laws.Goals as goal

pub returns-clause-families : goal.returns-clause-families
returns-clause-families a = λ k X c S family laws sieve. lists_matching_families k X c S family sieve

pub returns-clause-amalgamations : goal.returns-clause-amalgamations
returns-clause-amalgamations a = λ X c S family x. (listed_amalgamation X c S family x, amalgamation_listed X c S family x)

pub returns-clause-sheaf : goal.returns-clause-sheaf
returns-clause-sheaf a = λ s X laws top functor. (faultless_sheaf s laws top X functor, sheaf_faultless s laws top X functor)
