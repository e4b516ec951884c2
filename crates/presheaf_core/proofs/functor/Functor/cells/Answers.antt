use Rattle.std.proofs.Common.{◌≡◌, ap, ◌∙◌, sym, ◌+◌, arith}
use Rattle.presheaf_core.proofs.CellSums.{cells_below, cells_none, cells_more, cells_all}
use Rattle.presheaf_core.proofs.functor.Functor.cells.Goals as goal

pub loop-c-init : goal.loop-c-init
loop-c-init c = record { sum = sym (cells_none c.args.cat.now c.args.self.now.sizes); few = omega arith }

pub loop-c-preserved : goal.loop-c-preserved
loop-c-preserved c = record {
  sum = ap (λ n. n + c.cells_at-cells.result) c.loop-c.invariant.sum ∙ ap (λ n. cells_below c.args.cat.now c.args.self.now.sizes c.loop-c.c + n) c.cells_at-cells.ensures.value ∙ sym (cells_more c.args.cat.now c.args.self.now.sizes c.loop-c.c);
  few = omega (arith, c.loop-c.invariant.few, c.cells_at-cells.ensures.few);
}

pub returns : goal.returns
returns c =
    let n : c.loop-c.c ≡ c.args.cat.now.objects = omega (arith, c.objects-c-end.ensures.count) in
    c.loop-c.invariant.sum ∙ ap (cells_below c.args.cat.now c.args.self.now.sizes) n ∙ cells_all c.args.cat.now c.args.self.now.sizes c.args.self.now.along
