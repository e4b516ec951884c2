use Rattle.std.proofs.Common.{◌∙◌, sym}
use Rattle.topos_text.specs.Tokens.{written}
use Rattle.topos_names.proofs.VariableLemmas.{twice_at, new_nowhere}
use Rattle.topos_names.proofs.variables.Variables.is_new.Goals as goal

pub returns-in-Some-clause-fault : goal.returns-in-Some-clause-fault
returns-in-Some-clause-fault c = λ fault e. twice_at c.args.self.now (written c.args.x.now) c.in-Some.field-0 fault (sym c.find.ensures ∙ c.in-Some.is) (c.name_twice.ensures fault e)

pub returns-in-None-clause-ok : goal.returns-in-None-clause-ok
returns-in-None-clause-ok c = new_nowhere c.args.self.now (written c.args.x.now) (sym c.find.ensures ∙ c.in-None.is)
