use Rattle.topos_text.specs.Tokens.{written}
use Rattle.topos_names.proofs.NameLists.{look_up-nothing}
use Rattle.topos_names.proofs.sections.element.Goals as goal

pub returns-in-None-clause-fault : goal.returns-in-None-clause-fault
returns-in-None-clause-fault c = λ fault e. rw c.in-None.is (look_up-nothing (written c.args.x.now) fault (c.name_unknown.ensures fault e))
