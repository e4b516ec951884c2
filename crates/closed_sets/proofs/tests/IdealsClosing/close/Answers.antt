use Rattle.std.proofs.Common.{sym, ap, ◌∙◌, arith}
use Rattle.closed_sets.specs.Ideals.{is_below_some, is_subset}
use Rattle.closed_sets.specs.IdealLaws.{lowered-from_reads}
use Rattle.closed_sets.proofs.tests.IdealsClosing.close.Goals as goal

pub returns : goal.returns
returns c =
    lowered-from_reads is_subset c.args.set.now c.loop-k.set (c.loop-k.invariant.places ∙ sym c.requires) (λ k low.
    c.loop-k.invariant.read k (omega (arith, c.requires, low)) ∙ ap (is_below_some is_subset k 0) c.values-values.ensures)
