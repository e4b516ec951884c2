use Rattle.std.proofs.Common.{◌≡◌, Bool, true, false, MatchBool, refl, sym, ◌∙◌, rules}
use denote.Enum.Bare.{same_true, same_false}
use Rattle.topos_text.specs.contracts.word.Word.{the_type}
use Rattle.topos_grammar.proofs.heads.same_word.Goals as goal

by_test : (b : Bool) (P Q : Type 0) → (b ≡ true → P) → (b ≡ false → Q) → MatchBool b P Q
by_test true P Q f g = f refl
by_test false P Q f g = g refl

pub returns : goal.returns
returns c = by_test c.eq.result _ _ (λ e. same_true the_type (search rules) _ _ (sym c.eq.ensures ∙ e)) (λ e. same_false the_type _ _ (sym c.eq.ensures ∙ e))
