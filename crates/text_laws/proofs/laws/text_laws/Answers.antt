use Rattle.text_laws.proofs.FaultLaws.{faults_are_one, spelled_is_faultless, documents_are_one}
use Rattle.text_laws.proofs.EachText.{each_text}
use Rattle.text_laws.proofs.laws.text_laws.Goals as goal

pub returns-clause-documents : goal.returns-clause-documents
returns-clause-documents c = λ bytes doc other a b. documents_are_one c.reading_laws.ensures.one_tree bytes doc other a b

pub returns-clause-faults : goal.returns-clause-faults
returns-clause-faults c = λ bytes fault other a b. faults_are_one c.reading_laws.ensures.one_tree bytes fault other a b

pub returns-clause-faultless : goal.returns-clause-faultless
returns-clause-faultless c = λ bytes doc fault h d. spelled_is_faultless c.reading_laws.ensures.one_tree c.limit_laws.ensures.fit bytes doc fault h d

pub returns-clause-each : goal.returns-clause-each
returns-clause-each c =
    λ bytes. each_text c.reading_laws.ensures.one_tree c.limit_laws.ensures.fit c.reading_laws.ensures.document_sound c.reading_laws.ensures.document_place c.reading_laws.ensures.document_ends bytes
