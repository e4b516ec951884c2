-- The parts of terms.
use Rattle.std.specs.Prelude.{Option, Some, None, Ok}
use Rattle.topos_model.specs.declared.term.Term.{Term}
use Rattle.topos_text.specs.Tokens.{Written}
use Rattle.topos_text.specs.Trees.{TermTree, Named}
use Rattle.topos_text.specs.Names.{Checked, ◌>>=◌}
use Rattle.topos_names.specs.declared.stop.NameStop.{NameStop}
use Rattle.topos_names.specs.Stops.{Stops}

-- the name that a term is
abbrev pub name_of : TermTree → Option Written
name_of (Named x) = Some x
name_of _ = None

-- whatever is made of two things, the first that is missing stops it
abbrev pub StopsBoth : {A B : Type 0} → Checked A → Checked B → NameStop → Type 0
StopsBoth {A} {B} left right s = (make : A → B → Term) → Stops (left >>= λ t. right >>= λ u. Ok (make t u)) s
