use Rattle.forcing_laws.proofs.TupleLists.{lists_tuples, tuples_are_product}
use Rattle.forcing_laws.proofs.Tuples.{tuples_restrict}
use Rattle.forcing_laws.proofs.Theorem.{values_are_elements, values_restrict, forcing_is_monotone, forcing_is_local, values_are_forcing_sieves, forced_at_identity}
use Rattle.forcing_laws.proofs.laws.forcing_laws.Goals as goal

pub returns-clause-elements : goal.returns-clause-elements
returns-clause-elements c = values_are_elements

pub returns-clause-natural : goal.returns-clause-natural
returns-clause-natural c = values_restrict

pub returns-clause-monotone : goal.returns-clause-monotone
returns-clause-monotone c = forcing_is_monotone

pub returns-clause-local : goal.returns-clause-local
returns-clause-local c = forcing_is_local

pub returns-clause-sieves : goal.returns-clause-sieves
returns-clause-sieves c = values_are_forcing_sieves

pub returns-clause-identity : goal.returns-clause-identity
returns-clause-identity c = forced_at_identity

pub returns-clause-listed : goal.returns-clause-listed
returns-clause-listed c w Γ c' = lists_tuples w Γ c'

pub returns-clause-restrictions : goal.returns-clause-restrictions
returns-clause-restrictions c w maps Γ world = tuples_restrict w world Γ

pub returns-clause-products : goal.returns-clause-products
returns-clause-products c w Γ = tuples_are_product w Γ
