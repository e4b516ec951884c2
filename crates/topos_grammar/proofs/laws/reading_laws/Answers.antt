use Rattle.topos_grammar.proofs.Uniqueness.{unique}
use Rattle.topos_grammar.proofs.Phrases.{derives, reads, stops}
use Rattle.topos_grammar.proofs.Documents as document
use Rattle.topos_grammar.proofs.Totality.{phrase_ends, document_ends}
use Rattle.topos_grammar.proofs.laws.reading_laws.Goals as goal

pub returns-clause-unique : goal.returns-clause-unique
returns-clause-unique c = λ s K toks r q d e. unique d q e

pub returns-clause-sound : goal.returns-clause-sound
returns-clause-sound c = λ s K toks rest t d. derives s K toks rest t d

pub returns-clause-complete : goal.returns-clause-complete
returns-clause-complete c = λ s K t phrase rest d follows. reads s K t phrase rest d follows

pub returns-clause-place : goal.returns-clause-place
returns-clause-place c = λ s K toks rest d. stops s K toks rest d

pub returns-clause-documents : goal.returns-clause-documents
returns-clause-documents c = λ toks t d. document.reads toks t d

pub returns-clause-document_sound : goal.returns-clause-document_sound
returns-clause-document_sound c = λ toks rest t d. document.is_document toks rest t d

pub returns-clause-document_place : goal.returns-clause-document_place
returns-clause-document_place c = λ toks rest place d is. document.syntax_place toks rest place d is

pub returns-clause-one_tree : goal.returns-clause-one_tree
returns-clause-one_tree c = λ toks s t d e. document.one_tree toks s t d e

pub returns-clause-ends : goal.returns-clause-ends
returns-clause-ends c = λ s K toks. phrase_ends s K toks

pub returns-clause-document_ends : goal.returns-clause-document_ends
returns-clause-document_ends c = λ toks. document_ends toks
