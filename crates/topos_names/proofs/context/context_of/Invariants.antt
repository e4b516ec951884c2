use Rattle.std.proofs.Common.{◌≡◌, [], map, take}
use Rattle.topos_text.specs.TermNames.{context_of, variables}
use Rattle.topos_text.specs.Views.{binding_of}
use Rattle.topos_names.proofs.Gathering.{typed}
use Rattle.topos_names.proofs.context.context_of.Given as goal

abbrev pub invariant-loop-binding : goal.invariant-loop-binding
invariant-loop-binding l = record {
  types : context_of l.scope [] (map binding_of l.bindings) ≡ typed l.scope binding_of l.types l.variables l.bindings l.binding-index;
  variables : l.variables ≡ variables (map binding_of (take l.binding-index l.bindings));
}
