use Rattle.std.proofs.Common.{◌∙◌, sym, map}
use Rattle.topos_text.specs.Tokens.{written}
use Rattle.topos_names.proofs.NameLists.{again_fault-some, again_fault-none, list_any-eqb}
use Rattle.topos_names.proofs.StageLemmas.{is_some-lookup}
use Rattle.topos_names.proofs.stages.Listed.is_new.Goals as goal

pub returns-then-contains_key-clause-fault : goal.returns-then-contains_key-clause-fault
returns-then-contains_key-clause-fault c = λ fault e.
    again_fault-some c.args.object (written c.args.u.now) (map (λ stage. stage.0) c.args.self.now) fault (list_any-eqb c.args.object (written c.args.u.now) (map (λ stage. stage.0) c.args.self.now) ∙ (rw (← c.self.view_is) (sym (is_some-lookup c.args.object c.self.inside.at.entries) ∙ sym c.contains_key.ensures ∙ c.if-contains_key.true))) (c.name_twice.ensures fault e)

pub returns-clause-free : goal.returns-clause-free
returns-clause-free c = rw (← c.self.view_is) (sym (is_some-lookup c.args.object c.self.inside.at.entries) ∙ sym c.contains_key.ensures ∙ c.if-contains_key.false)

pub returns-clause-ok : goal.returns-clause-ok
returns-clause-ok c = again_fault-none c.args.object (written c.args.u.now) (map (λ stage. stage.0) c.args.self.now) (list_any-eqb c.args.object (written c.args.u.now) (map (λ stage. stage.0) c.args.self.now) ∙ returns-clause-free c)
