use Rattle.std.proofs.Common.{nat_eq}
use Rattle.std.specs.List.{list_any}
use Rattle.topos_text.specs.Tokens.{written}
use Rattle.topos_names.proofs.NameLists.{again_fault-some, again_fault-none, not-true, not-false}
use Rattle.topos_names.proofs.numbers.Numbers.add.Goals as goal
use Rattle.topos_names.proofs.numbers.Numbers.add.Goals.{in-Ok-true, in-Ok-false, in-Err}

pub returns-clause-ok : goal.returns-clause-ok
returns-clause-ok c = elim c.match-insert.branch [
  | in-Ok-true w ↦
      let new = not-true (list_any (nat_eq c.args.number) c.self.inside.set.keys) _ w.in-Ok-true.ensures.added w.in-Ok-true.field-0-test in
      rw w.result-is (again_fault-none c.args.number (written c.args.x.now) c.args.self.now (rw (← c.self.view_is) new))
  | in-Ok-false w ↦ rw w.result-is tt
  | in-Err w ↦ rw w.result-is tt
]

pub returns-clause-fault : goal.returns-clause-fault
returns-clause-fault c = elim c.match-insert.branch [
  | in-Ok-true w ↦ rw w.result-is tt
  | in-Ok-false w ↦
      let there = not-false (list_any (nat_eq c.args.number) c.self.inside.set.keys) _ w.in-Ok-false.ensures.added w.in-Ok-false.field-0-test in
      rw w.result-is (λ fault e. again_fault-some c.args.number (written c.args.x.now) c.args.self.now fault (rw (← c.self.view_is) there) (w.name_twice.ensures fault e))
  | in-Err w ↦ rw w.result-is (λ fault e. cc)
]
