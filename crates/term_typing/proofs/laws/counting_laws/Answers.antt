use Rattle.term_typing.proofs.CountedTypes.{needs_noted, noted_needed}
use Rattle.term_typing.proofs.laws.counting_laws.Goals as goal

pub returns : goal.returns
returns c = record { exact = λ maps Γ t T. (noted_needed maps Γ t T, needs_noted maps Γ t T) }
