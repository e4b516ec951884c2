use Rattle.std.proofs.Common.{ap, ◌∙◌}
use Rattle.topos_model.specs.statements.Declarations.{cells_so_far}
use Rattle.topos_session.specs.Progress.{Progress}
use Rattle.topos_session.proofs.StagedStatements.{cells_are}
use Rattle.topos_session.proofs.session.Session.cells.Goals as goal

pub returns : goal.returns
returns c =
    let i = c.self.inside in
    let on = ap (λ (p : Progress). p.live) c.self.view_is ∙ c.requires.live in
    c.cells.ensures.cells ∙ cells_are i.doc i.so i.answered i.live c.self.invariant on ∙ ap (λ (p : Progress). cells_so_far p.doc p.declared) c.self.view_is
