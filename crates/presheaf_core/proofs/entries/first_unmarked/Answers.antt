use Rattle.std.proofs.Common.{not, false, length, get_or, sym, ap, ◌∙◌, arith}
use Rattle.finite_lists.specs.First.{some_if}
use Rattle.presheaf_core.proofs.SearchFrom.{first_from-none}
use Rattle.presheaf_core.proofs.entries.first_unmarked.Goals as goal

pub loop-x-preserved : goal.loop-x-preserved
loop-x-preserved c =
    c.loop-x.invariant
    ∙ first_from-none (λ x. some_if (not (get_or c.args.bits.now x false)) x) c.loop-x.x (length c.args.bits.now) (omega arith)
    (ap (λ b. some_if (not b) c.loop-x.x) (sym c.get.ensures ∙ c.if-not-get.false))
