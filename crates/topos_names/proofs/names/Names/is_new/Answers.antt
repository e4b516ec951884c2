use Rattle.std.proofs.Common.{◌∙◌, sym}
use Rattle.topos_text.specs.Tokens.{written}
use Rattle.topos_names.proofs.NameLists.{list_any-now, twice_fault-some, twice_fault-none}
use Rattle.topos_names.proofs.names.Names.is_new.Goals as goal

pub returns-then-contains-clause-fault : goal.returns-then-contains-clause-fault
returns-then-contains-clause-fault c = λ fault e. twice_fault-some c.args.self.now (written c.args.x.now) fault (rw (← c.self.view_is) (sym (list_any-now c.args.x.now.text c.self.inside.set.keys) ∙ sym c.contains.ensures ∙ c.if-contains.true)) (c.name_twice.ensures fault e)

pub returns-clause-ok : goal.returns-clause-ok
returns-clause-ok c = twice_fault-none c.args.self.now (written c.args.x.now) (rw (← c.self.view_is) (sym (list_any-now c.args.x.now.text c.self.inside.set.keys) ∙ sym c.contains.ensures ∙ c.if-contains.false))
