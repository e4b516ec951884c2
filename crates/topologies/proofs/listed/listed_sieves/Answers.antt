use Rattle.std.proofs.Common.{◌++◌, sym, ap, ◌∙◌}
use Rattle.topologies.specs.Candidates.{listed_at}
use Rattle.topologies.proofs.ListedRows.{joined-more}
use Rattle.topologies.proofs.listed.listed_sieves.Goals as goal

pub loop-c-preserved : goal.loop-c-preserved
loop-c-preserved c =
    c.in_ok-push_listed.ensures ∙ ap (λ xs. xs ++ listed_at c.args.cat.now c.args.families.now c.loop-c.c) c.loop-c.invariant
    ∙ sym (joined-more (listed_at c.args.cat.now c.args.families.now) c.loop-c.c)
