use Rattle.std.proofs.Common.{sym, ap, ◌∙◌}
use Rattle.std.specs.Prelude.{Ok}
use Rattle.topos_model.specs.formulas.Typing.{pair}
use Rattle.term_typing.proofs.Sorts.{pair_two, pair_other}
use Rattle.term_typing.proofs.sort.left_of.Goals as goal

pub returns-in-Two : goal.returns-in-Two
returns-in-Two c = ap (λ T. pair T (λ S U. Ok S)) (sym c.into_inner.ensures ∙ c.in-Two.is) ∙ pair_two _ _ (λ S U. Ok S)

pub returns-in_default : goal.returns-in_default
returns-in_default c = ap (λ T. pair T (λ S U. Ok S)) (sym c.into_inner.ensures) ∙ pair_other c.into_inner.result (λ S U. Ok S) c.in_default.not-Two
