use Rattle.std.proofs.Common.{◌∙◌, ap, map}
use Rattle.topos_names.proofs.NameLists.{insert_key-new}
use Rattle.topos_names.proofs.names.Names.push.Goals as goal
use Rattle.topos_names.proofs.names.Names.push.Goals.{in-Ok, in-Err}

pub returns-clause-added : goal.returns-clause-added
returns-clause-added c = elim c.match-insert.branch [
  | in-Ok w ↦ rw w.result-is (rw (← c.self.view_is) (ap (map (λ k. k.now)) w.in-Ok.ensures.keys ∙ insert_key-new c.self.inside.set.keys c.args.text (rw (← c.self.view_is) at c.requires.new)))
  | in-Err w ↦ rw w.result-is tt
]
