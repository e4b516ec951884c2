use Rattle.std.proofs.Common.{take, sym, ap, ◌∙◌}
use Rattle.std.proofs.lemmas.List.{take-map}
use Rattle.formula_answers.specs.MapTables.{ends_of}
use Rattle.topos_session.proofs.maps.DeclaredMaps.truncate.Goals as goal

pub invariant_of-self : goal.invariant_of-self
invariant_of-self c =
    c.truncate-2.ensures ∙ ap (take c.args.len) c.self.invariant ∙ take-map (λ m. m.ends) c.args.len c.self.inside.tables ∙ sym (ap ends_of c.truncate.ensures)
