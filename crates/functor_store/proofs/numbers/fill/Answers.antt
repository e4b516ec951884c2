use Rattle.std.proofs.Common.{◌≡◌, arith, inl, inr}
use Rattle.std.proofs.lemmas.Bool.{cases_lt}
use Rattle.functor_store.proofs.numbers.fill.Goals as goal

pub returns : goal.returns
returns c =
    let h = c.loop-i.invariant in
    record {
      filled = record {
        length_is = h.length_is;
        below = h.below;
        between = λ k l m. h.between k l (omega arith);
        above = λ k l. elim (cases_lt k c.loop-i.i) [
          | inl b ↦ elim (cases_lt c.args.to c.args.from) [
            | inl q ↦ (let s : c.loop-i.i ≡ c.args.from = h.skipped q in h.below k (omega (arith, b, s)))
            | inr q ↦ absurd (omega (arith, b, l, c.loop-i.auto.i-end q))
          ]
          | inr b ↦ h.above k b
        ];
      };
    }
