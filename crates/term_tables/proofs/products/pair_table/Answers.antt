use Rattle.std.proofs.Common.{◌<◌, ◌^◌, arith}
use Rattle.std.proofs.lemmas.Result.{IfOk-weaker}
use Rattle.topos_model.specs.declared.ty.Ty.{Two}
use Rattle.topos_model.specs.declared.term.Term.{Pair}
use Rattle.topos_model.specs.formulas.Forcing.{value}
use Rattle.functor_store.specs.Store.{cells}
use Rattle.truth_tables.proofs.Standing.{number_table}
use Rattle.term_tables.proofs.Contexts.{over_sizes}
use Rattle.term_tables.proofs.PairParts.{few_pairs, pair_widths_long, pair_values}
use Rattle.term_tables.proofs.products.pair_table.Goals as goal

pub pairs-requires : goal.pairs-requires
pairs-requires c =
    let (w, Γ, S, T, t, u, h) = c.requires.parts in
    let few : cells c.args.store.now < 2 ^ 32 = omega (arith, c.room-room.ensures.room, c.room-room.ensures.bounded) in
    record {
      objects = c.requires.objects;
      widths = pair_widths_long w Γ S T t u c.args.store.now c.args.sizes.now c.args.widths.now c.args.left.now c.args.right.now h;
      first = over_sizes w Γ c.args.sizes.now h.context.counted c.args.left.now h.left_stands.over;
      second = over_sizes w Γ c.args.sizes.now h.context.counted c.args.right.now h.right_stands.over;
      few = few_pairs w Γ S T t u c.args.store.now c.args.sizes.now c.args.widths.now c.args.left.now c.args.right.now h few;
    }

pub returns : goal.returns
returns c = record {
  stands = IfOk-weaker c.pairs.result _ _ (λ rows made w Γ S T t u h.
      number_table w Γ c.args.sizes.now h.context.counted (Two S T) (value w (Pair t u)) _ rows made
      (pair_values w Γ S T t u c.args.store.now c.args.sizes.now c.args.widths.now c.args.left.now c.args.right.now h)) c.pairs.ensures;
}
