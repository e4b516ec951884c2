use Rattle.topos_model.specs.Laws.{IsCategory}
use Rattle.fin_category.proofs.category.Cat.ident.Goals as goal

pub returns-clause-into : goal.returns-clause-into
returns-clause-into c = let law : IsCategory c.args.self.now = rw c.self.view_is at c.self.invariant in (law.identity c.args.c c.requires).0

pub returns-clause-dom : goal.returns-clause-dom
returns-clause-dom c = let law : IsCategory c.args.self.now = rw c.self.view_is at c.self.invariant in (law.identity c.args.c c.requires).1
