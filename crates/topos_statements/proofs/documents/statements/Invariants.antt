use Rattle.std.proofs.Common.{map, length}
use Rattle.topos_text.specs.Tokens.{token_of}
use Rattle.topos_text.specs.Views.{statement_of}
use Rattle.topos_grammar.specs.Kinds.{OfStatement, Statement}
use Rattle.topos_grammar.specs.Codes.{Any, call}
use Rattle.topos_statements.specs.Views.{version_of}
use Rattle.topos_statements.proofs.Lists.{Each}
use Rattle.topos_statements.proofs.documents.statements.Given as goal

abbrev pub invariant-loop-rest : goal.invariant-loop-rest
invariant-loop-rest l = Each OfStatement Any (λ s k. call (Statement (version_of l.version)) k) (map token_of l.tokens) (map statement_of l.statements.items) (map token_of l.rest)

abbrev pub decreases-loop-rest : goal.decreases-loop-rest
decreases-loop-rest l = length l.rest
