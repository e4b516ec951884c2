use Rattle.std.proofs.Common.{◌+◌, ◌*◌, max}
use Rattle.topos_text.specs.declared.tree.TermTree.{size-TermTree}
use Rattle.topos_names.proofs.terms.+terms.Given as goal

abbrev pub decreases-term_of : goal.decreases-term_of
decreases-term_of l = 2 * size-TermTree l.tree.now

abbrev pub decreases-both : goal.decreases-both
decreases-both l = 2 * max (size-TermTree l.left.now) (size-TermTree l.right.now) + 1

abbrev pub decreases-called : goal.decreases-called
decreases-called l = 2 * size-TermTree l.argument.now + 1

abbrev pub decreases-body_of : goal.decreases-body_of
decreases-body_of l = 2 * size-TermTree l.body.now + 1
