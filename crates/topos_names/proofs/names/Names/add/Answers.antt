use Rattle.std.proofs.Common.{◌∙◌, sym, bytes_eq}
use Rattle.std.specs.List.{list_any}
use Rattle.topos_text.specs.Tokens.{written}
use Rattle.topos_names.proofs.NameLists.{list_any-now, twice_fault-some, twice_fault-none, not-true, not-false}
use Rattle.topos_names.proofs.names.Names.add.Goals as goal
use Rattle.topos_names.proofs.names.Names.add.Goals.{in-Ok-true, in-Ok-false, in-Err}

pub returns-clause-ok : goal.returns-clause-ok
returns-clause-ok c = elim c.match-insert.branch [
  | in-Ok-true w ↦
      let new = not-true (list_any (λ k. bytes_eq c.args.x.now.text.now k.now) c.self.inside.set.keys) _ w.in-Ok-true.ensures.added w.in-Ok-true.field-0-test in
      rw w.result-is (twice_fault-none c.args.self.now (written c.args.x.now) (rw (← c.self.view_is) (sym (list_any-now c.args.x.now.text c.self.inside.set.keys) ∙ new)))
  | in-Ok-false w ↦ rw w.result-is tt
  | in-Err w ↦ rw w.result-is tt
]

pub returns-clause-fault : goal.returns-clause-fault
returns-clause-fault c = elim c.match-insert.branch [
  | in-Ok-true w ↦ rw w.result-is tt
  | in-Ok-false w ↦
      let there = not-false (list_any (λ k. bytes_eq c.args.x.now.text.now k.now) c.self.inside.set.keys) _ w.in-Ok-false.ensures.added w.in-Ok-false.field-0-test in
      rw w.result-is (λ fault e. twice_fault-some c.args.self.now (written c.args.x.now) fault (rw (← c.self.view_is) (sym (list_any-now c.args.x.now.text c.self.inside.set.keys) ∙ there)) (w.name_twice.ensures fault e))
  | in-Err w ↦ rw w.result-is (λ fault e. cc)
]
