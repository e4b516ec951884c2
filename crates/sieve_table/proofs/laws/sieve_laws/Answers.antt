use Rattle.sieve_table.proofs.SieveMembers.{sieve_of, of_sieve, pull-sieve, intersection-sieve, maximal-sieve, pull-pull, pull-member, pull-all}
use Rattle.sieve_table.proofs.SieveComposites.{generated-sieve, In-generated, generated-within}
use Rattle.sieve_table.proofs.laws.sieve_laws.Goals as goal

pub returns-clause-pulls : goal.returns-clause-pulls
returns-clause-pulls c = λ k d f S laws sieve i. of_sieve k _ _ (pull-sieve k laws d f S (sieve_of k d S sieve) i)

pub returns-clause-intersections : goal.returns-clause-intersections
returns-clause-intersections c = λ k d S T sieve sieve'. of_sieve k d _ (intersection-sieve k d S T (sieve_of k d S sieve) (sieve_of k d T sieve'))

pub returns-clause-maximal : goal.returns-clause-maximal
returns-clause-maximal c = λ k d laws. of_sieve k d _ (maximal-sieve k laws d)

pub returns-clause-generated : goal.returns-clause-generated
returns-clause-generated c = λ k d gs laws i. (
  of_sieve k d _ (generated-sieve k laws d gs i),
  (λ g j. In-generated k laws d gs g (i g j) j),
  (λ S h sieve below j. generated-within k laws d gs S (sieve_of k d S sieve) below h j),
)

pub returns-clause-composites : goal.returns-clause-composites
returns-clause-composites c = λ k d f g S laws sieve i j. pull-pull k laws d f g S i j

pub returns-clause-members : goal.returns-clause-members
returns-clause-members c = λ k d f S laws sieve i. ((λ j. pull-member k d f S (sieve_of k d S sieve) j), (λ e. pull-all k laws d f S i e))
