use Rattle.std.proofs.Common.{◌≡◌, ℕ, length, take, drop}
use Rattle.finite_lists.specs.Members.{In}
use Rattle.finite_lists.specs.First.{first}
use Rattle.topos_model.specs.categories.Listed.{all_ends}
use Rattle.topos_model.specs.categories.Filling.{filled_composite}
use Rattle.fin_category.specs.Tables.{entry}
use Rattle.fin_category.specs.Filling.{undetermined, first_undetermined, IsSameButRow}
use Rattle.fin_category.proofs.filling.fill_row.Given as goal

abbrev pub invariant-loop-f : goal.invariant-loop-f
invariant-loop-f l = record {
  search : first_undetermined l.raw l.g ≡ first (undetermined l.raw l.g) (drop l.f-index l.f-items);
  same : IsSameButRow (length (all_ends l.raw)) l.g l.initial.square.items l.square.items;
  held : (f : ℕ) → In (take l.f-index l.f-items) f → entry l.square.items (length (all_ends l.raw)) l.g f ≡ filled_composite l.raw l.g f;
}
