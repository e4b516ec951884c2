use Rattle.std.proofs.Common.{map, ap, sym}
use Rattle.topos_text.specs.Views as view
use Rattle.topos_names.specs.Spaces.{space_of}
use Rattle.topos_names.specs.DocumentParts.{in_scope, behind}
use Rattle.topos_names.proofs.DocumentExits.{same_through}
use Rattle.topos_names.proofs.whole.with_statements.Goals as goal

pub returns-clause-ok : goal.returns-clause-ok
returns-clause-ok c =
    same_through (λ doc. doc.value) (in_scope c.args.version c.args.before c.in_ok-scope.scope c.args.tops (map view.statement_of c.args.trees.now)) (behind c.args.version c.args.before (space_of c.args.space) c.args.names c.args.tops (map view.statement_of c.args.trees.now)) c.in_scope.result
    (ap (λ scope. in_scope c.args.version c.args.before scope c.args.tops (map view.statement_of c.args.trees.now)) (sym c.in_ok-scope.ensures)) c.in_scope.ensures.ok
