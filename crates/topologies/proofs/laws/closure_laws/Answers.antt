use Rattle.sieve_table.proofs.SieveMembers.{sieve_of}
use Rattle.topologies.proofs.Closure.{closure_closed, closure-extensive, closure_below, closure-monotone, closure-intersection, closure-idempotent, closure-pull, covers-identity, identity-covers}
use Rattle.topologies.proofs.TwoPasses.{closed_extends, closed_restricted, closed_covered, closed_least}
use Rattle.topologies.proofs.laws.closure_laws.Goals as goal

pub returns-clause-closed : goal.returns-clause-closed
returns-clause-closed c = λ s d S laws top low sieve.
    let h = sieve_of s.category d S sieve in
    (closure_closed s laws top d S h, (λ f i. closure-extensive s laws top d f S h i), (λ T f closed below i. closure_below s laws top d S T f closed below i))

pub returns-clause-monotone : goal.returns-clause-monotone
returns-clause-monotone c = λ s d S T laws top sieve below f i. closure-monotone s laws top d f S T (sieve_of s.category d T sieve) below i

pub returns-clause-intersections : goal.returns-clause-intersections
returns-clause-intersections c = λ s d S T laws top sieve sieve'. closure-intersection s laws top d S T (sieve_of s.category d S sieve) (sieve_of s.category d T sieve')

pub returns-clause-idempotent : goal.returns-clause-idempotent
returns-clause-idempotent c = λ s d S laws top sieve. closure-idempotent s laws top d S (sieve_of s.category d S sieve)

pub returns-clause-pulls : goal.returns-clause-pulls
returns-clause-pulls c = λ s d f S laws top sieve i. closure-pull s laws top d f S i

pub returns-clause-identities : goal.returns-clause-identities
returns-clause-identities c = λ s d S laws top low sieve.
    let h = sieve_of s.category d S sieve in (covers-identity s laws top d S low h, identity-covers s laws top d S low h)

pub returns-clause-places : goal.returns-clause-places
returns-clause-places c = λ s equal stage move all l laws top places within. (
  closed_extends s laws top equal stage move all places l within,
  closed_restricted s laws top equal stage move all places l,
  closed_covered s laws top equal stage move all places l,
  (λ t below restricted covered. closed_least s laws top equal stage move all places l t below restricted covered),
)
