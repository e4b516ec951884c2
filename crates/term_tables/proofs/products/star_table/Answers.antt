use Rattle.std.proofs.Common.{rules}
use Rattle.std.proofs.lemmas.Result.{IfOk-weaker}
use Rattle.topos_model.specs.declared.ty.Ty.{One as OneType}
use Rattle.topos_model.specs.declared.term.Term.{Star}
use Rattle.topos_model.specs.formulas.Forcing.{value}
use Rattle.truth_tables.proofs.Standing.{number_table}
use Rattle.term_tables.proofs.PairParts.{star_values}
use Rattle.term_tables.proofs.products.star_table.Goals as goal

pub returns : goal.returns
returns c = record {
  stands = IfOk-weaker c.table.result _ _ (λ rows made w Γ counted.
      number_table w Γ c.args.sizes.now counted OneType (value w Star) (λ o i. 0) rows (made (λ o i. 0) (λ o i x low inside post. search rules)) (λ o i low inside. star_values w Γ o i)) c.table.ensures;
}
