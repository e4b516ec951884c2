use Rattle.std.proofs.lemmas.Result.{IfOk-weaker}
use Rattle.topos_model.specs.declared.term.Term.{Eq}
use Rattle.topos_model.specs.formulas.Forcing.{forces}
use Rattle.truth_tables.proofs.Standing.{truth_table}
use Rattle.term_tables.proofs.Contexts.{over_sizes}
use Rattle.term_tables.proofs.ReadingParts.{equal_truths}
use Rattle.term_tables.proofs.readings.equal_table.Goals as goal

pub equal-requires : goal.equal-requires
equal-requires c =
    let (w, Γ, T, t, u, h) = c.requires.parts in
    record {
      objects = c.requires.objects;
      left = over_sizes w Γ c.args.sizes.now h.counted c.args.left.now h.left_stands.over;
      right = over_sizes w Γ c.args.sizes.now h.counted c.args.right.now h.right_stands.over;
    }

pub returns : goal.returns
returns c = record {
  stands = IfOk-weaker c.equal.result _ _ (λ rows made w Γ T t u h.
      truth_table w Γ c.args.sizes.now h.counted (forces w (Eq t u)) _ rows made (equal_truths w Γ T t u c.args.sizes.now c.args.left.now c.args.right.now h)) c.equal.ensures;
}
