use Rattle.std.proofs.Common.{◌∙◌, sym, ap, Ok, map}
use Rattle.std.proofs.lemmas.List.{length-map}
use Rattle.topos_text.specs.Tokens.{written}
use Rattle.topos_names.specs.Spaces.{space_of}
use Rattle.topos_names.proofs.SpaceStatements.{arrows_statement}
use Rattle.topos_names.proofs.space.Space.add_arrow_statement.Goals as goal

pub returns-clause-ok : goal.returns-clause-ok
returns-clause-ok c =
    let e = arrows_statement (space_of c.args.self.now) (space_of c.add_arrows.new.self) (map written c.args.fs.now) (written c.args.dom.now) (written c.args.cod.now) c.in_ok-a.a c.in_ok-b.b c.in_ok-add_arrows.ensures.ok c.in_ok-add_arrows.ensures.objects c.in_ok-a.ensures.ok c.in_ok-b.ensures.ok in
    (rw length-map at e) ∙ ap Ok (sym c.in_ok-add_ends.ensures)
