use Rattle.topos_names.proofs.Kept.{first_kept}
use Rattle.topos_names.proofs.scope.Scope.first.Goals as goal

pub invariant_of-result : goal.invariant_of-result
invariant_of-result c = rw (c.new.ensures, c.new-2.ensures, c.new-3.ensures, c.new-4.ensures, c.new-5.ensures, c.new-6.ensures) (first_kept c.args.site c.args.topologies c.keep_all.new.self c.keep_all-2.new.self c.keep_all-3.new.self (rw c.new-known.ensures at c.in_ok-keep_all.ensures.kept) c.in_ok-keep_all-2.ensures.kept c.in_ok-keep_all-3.ensures.kept)
