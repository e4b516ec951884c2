use Rattle.std.proofs.lemmas.Result.{IfOk-weaker}
use Rattle.topos_model.specs.declared.term.Term.{Fst}
use Rattle.topos_model.specs.formulas.Forcing.{value}
use Rattle.truth_tables.proofs.Standing.{number_table}
use Rattle.term_tables.proofs.Contexts.{over_sizes}
use Rattle.term_tables.proofs.PairParts.{pair_widths, first_values}
use Rattle.term_tables.proofs.products.first_table.Goals as goal

pub first_parts-requires : goal.first_parts-requires
first_parts-requires c =
    let (w, Γ, S, T, t, h) = c.requires.part in
    record {
      objects = c.requires.objects;
      widths = pair_widths w Γ S T t c.args.sizes.now c.args.widths.now c.args.tuples.now h;
      pairs = over_sizes w Γ c.args.sizes.now h.counted c.args.tuples.now h.stands.over;
    }

pub returns : goal.returns
returns c = record {
  stands = IfOk-weaker c.first_parts.result _ _ (λ rows made w Γ S T t h.
      number_table w Γ c.args.sizes.now h.counted S (value w (Fst t)) _ rows made (first_values w Γ S T t c.args.sizes.now c.args.widths.now c.args.tuples.now h)) c.first_parts.ensures;
}
