use Rattle.std.proofs.Common.{◌≡◌, map}
use Rattle.topos_text.specs.Names.{for_each}
use Rattle.topos_text.specs.TermNames as names
use Rattle.topos_text.specs.Views as view
use Rattle.topos_names.proofs.Gathering.{gathered}
use Rattle.topos_names.proofs.derivation.terms_of.Given as goal

abbrev pub invariant-loop-tree : goal.invariant-loop-tree
invariant-loop-tree l = record {
  terms : for_each (names.term_of l.scope l.initial.variables) (map (λ t. view.term_of t.value) l.trees) ≡ gathered (names.term_of l.scope l.initial.variables) (λ t. view.term_of t.value) l.terms l.trees l.tree-index;
  same : l.variables ≡ l.initial.variables;
}
