use Rattle.std.proofs.Common.{◌∙◌, sym}
use Rattle.topos_text.specs.Tokens.{written}
use Rattle.topos_names.proofs.NameLists.{look_up-some, look_up-none}
use Rattle.topos_names.proofs.variables.Variables.number.Goals as goal

pub returns-in-Some-clause-ok : goal.returns-in-Some-clause-ok
returns-in-Some-clause-ok c = look_up-some c.args.self.now (written c.args.x.now) c.in-Some.number (sym c.in-Some.is ∙ c.find.ensures)

pub returns-in-None-clause-fault : goal.returns-in-None-clause-fault
returns-in-None-clause-fault c = λ fault e. look_up-none c.args.self.now (written c.args.x.now) fault (sym c.in-None.is ∙ c.find.ensures) (c.name_unknown.ensures fault e)
