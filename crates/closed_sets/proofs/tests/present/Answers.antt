use Rattle.std.proofs.Common.{◌<◌, true, false, length, get_or, set, sym, ap, ◌∙◌, arith}
use Rattle.std.proofs.lemmas.List.{length-set}
use Rattle.closed_sets.specs.Parts.{pair_parts}
use Rattle.closed_sets.proofs.PartRows.{parts_low, marked, unmarked}
use Rattle.closed_sets.proofs.tests.present.Goals as goal
use Rattle.closed_sets.proofs.tests.present.Goals.{then-get, else-get}

pub loop-k-preserved : goal.loop-k-preserved
loop-k-preserved c =
    let k = c.loop-k.k in
    let xs = c.loop-k.present in
    let within : c.loop-k.k < length c.args.set.now = omega (arith, c.requires, c.loop-k-test.true) in
    elim c.if-get.branch [
      | then-get w ↦
          let p = w.parts-left.result in
          let (left, right) = parts_low k c.loop-k-test.true in record {
            places = ap length w.present-is ∙ length-set (set xs p.0 true) p.1 true ∙ length-set xs p.0 true ∙ c.loop-k.invariant.places;
            read = λ u low.
                ap (λ ys. get_or ys u false) (w.present-is ∙ ap (λ q. set (set xs q.0 true) q.1 true) w.parts-left.ensures.value)
                ∙ marked pair_parts c.args.set.now k xs u within (sym c.get.ensures ∙ w.if-get.true)
                (omega (arith, left, c.loop-k.invariant.places)) (omega (arith, right, c.loop-k.invariant.places)) (c.loop-k.invariant.read u low);
          }
      | else-get w ↦ record {
        places = ap length w.present-is ∙ c.loop-k.invariant.places;
        read = λ u low.
            ap (λ ys. get_or ys u false) w.present-is ∙ c.loop-k.invariant.read u low
            ∙ unmarked pair_parts c.args.set.now k u within (sym c.get.ensures ∙ w.if-get.false);
      }
    ]
