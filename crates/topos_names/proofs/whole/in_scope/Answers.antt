use Rattle.std.proofs.Common.{map}
use Rattle.topos_text.specs.Views as view
use Rattle.topos_text.specs.Resolving.{document_with}
use Rattle.topos_names.specs.Spaces.{limits}
use Rattle.topos_names.specs.DocumentParts.{in_scope}
use Rattle.topos_names.proofs.DocumentExits.{ok_through, statements_fail, statements_given}
use Rattle.topos_names.proofs.whole.in_scope.Goals as goal

pub returns-in-Ok-clause-ok : goal.returns-in-Ok-clause-ok
returns-in-Ok-clause-ok c =
    ok_through (λ doc. doc.value) (in_scope c.args.version c.args.before c.args.scope.now c.args.tops (map view.statement_of c.args.trees.now)) (document_with limits c.args.version c.args.before (c.statements_of.new.scope, c.in-Ok.stmts) c.args.tops) c.scope_document.result
    (statements_given c.args.version c.args.before c.args.scope.now c.args.tops (map view.statement_of c.args.trees.now) c.statements_of.new.scope c.in-Ok.stmts c.in-Ok.ensures.ok) c.scope_document.ensures.ok

pub returns-in-Err-clause-fault : goal.returns-in-Err-clause-fault
returns-in-Err-clause-fault c =
    λ fault e. statements_fail c.args.version c.args.before c.args.scope.now c.args.tops (map view.statement_of c.args.trees.now) fault (c.in-Err.ensures.fault fault e)
