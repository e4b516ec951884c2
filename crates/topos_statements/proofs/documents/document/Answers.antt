use Rattle.std.proofs.Common.{[], map, refl, subst}
use Rattle.topos_text.specs.Tokens.{token_of}
use Rattle.topos_text.specs.Views.{document_of}
use Rattle.topos_grammar.specs.Codes as codes
use Rattle.topos_grammar.proofs.Documents as document
use Rattle.topos_statements.specs.Passages.{Stopped}
use Rattle.topos_statements.proofs.DocumentEnds.{left_within, stop_place}
use Rattle.topos_statements.proofs.documents.document.Goals as goal

pub overflow_sub-result : goal.overflow_sub-result
overflow_sub-result c = left_within c.args.tokens.now c.in-Err-At.left (subst (λ z. Stopped codes.document (map token_of c.args.tokens.now) z) c.in-Err-At.field-0-is c.in-Err-At.ensures)

pub returns-in-Ok-clause-is_document : goal.returns-in-Ok-clause-is_document
returns-in-Ok-clause-is_document c = (document.is_document (map token_of c.args.tokens.now) [] (document_of c.in-Ok.document.value) c.in-Ok.ensures).1

pub returns-in-Ok-clause-only : goal.returns-in-Ok-clause-only
returns-in-Ok-clause-only c = λ t is. document.one_tree (map token_of c.args.tokens.now) (document_of c.in-Ok.document.value) t (document.is_document (map token_of c.args.tokens.now) [] (document_of c.in-Ok.document.value) c.in-Ok.ensures).1 is

pub returns-in-Err-At-clause-syntax_place : goal.returns-in-Err-At-clause-syntax_place
returns-in-Err-At-clause-syntax_place c = stop_place c.args.tokens.now c.in-Err-At.left _ (subst (λ z. Stopped codes.document (map token_of c.args.tokens.now) z) c.in-Err-At.field-0-is c.in-Err-At.ensures) refl

pub returns-in-Err-At-clause-only : goal.returns-in-Err-At-clause-only
returns-in-Err-At-clause-only c = λ t is. absurd ((stop_place c.args.tokens.now c.in-Err-At.left _ (subst (λ z. Stopped codes.document (map token_of c.args.tokens.now) z) c.in-Err-At.field-0-is c.in-Err-At.ensures) refl).none t is)
