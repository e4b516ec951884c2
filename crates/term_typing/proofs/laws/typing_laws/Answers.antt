use Rattle.term_typing.proofs.TypingRules.{typed_by_rules, rules_are_typed}
use Rattle.term_typing.proofs.laws.typing_laws.Goals as goal

pub returns : goal.returns
returns c = record { exact = λ maps Γ t U. (typed_by_rules maps Γ t U, rules_are_typed maps Γ t U) }
