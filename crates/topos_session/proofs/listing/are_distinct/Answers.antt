use Rattle.std.proofs.Common.{arith, sym, ◌∙◌}
use Rattle.topos_session.proofs.DistinctNumbers.{new_at_end, new_before, twice_here}
use Rattle.topos_session.proofs.listing.are_distinct.Goals as goal

pub loop-i-init : goal.loop-i-init
loop-i-init c = rw c.in_ok-seen.ensures (new_at_end _ _)

pub returns-then-get : goal.returns-then-get
returns-then-get c = sym (twice_here c.args.numbers.now c.args.bound c.requires c.loop-i.i c.loop-i.seen (omega arith) (omega arith) c.loop-i.invariant (sym c.get.ensures ∙ c.if-get.true))

pub loop-i-preserved : goal.loop-i-preserved
loop-i-preserved c = rw c.set.ensures (new_before c.args.numbers.now c.args.bound c.requires c.loop-i.i c.loop-i.seen (omega arith) (omega arith) c.loop-i.invariant (sym c.get.ensures ∙ c.if-get.false))
