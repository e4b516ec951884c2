use Rattle.std.proofs.Common.{◌≡◌, ◌∙◌, ℕ, List, false, nat_eq, Result, Ok, Err, OnOk, OnErr, subst, sym}
use Rattle.indexmap.specs.IndexMap.{insert_entry}
use Rattle.topos_text.specs.Names.{Name}
use Rattle.topos_names.specs.Stages.{Apart, IsApart}
use Rattle.topos_names.proofs.StageLemmas.{holds, insert_entry-last, Apart-last}
use Rattle.topos_names.proofs.stages.Listed.push.Goals as goal

pub returns-in-Ok : goal.returns-in-Ok
returns-in-Ok c = rw (← c.self.view_is) (c.in-Ok.ensures.entries ∙ insert_entry-last c.args.object c.args.names c.self.inside.at.entries (rw (← c.self.view_is) at c.requires.free))

after : {A B : Type 0} (r : Result A B) (k : ℕ) (v : List Name) (es new : List (ℕ × List Name)) → OnOk r (new ≡ insert_entry nat_eq es k v) → OnErr r (new ≡ es) → holds k es ≡ false → Apart es → IsApart new
after (Ok a) k v es new ok err free apart = record { apart = subst Apart (sym (ok ∙ insert_entry-last k v es free)) (Apart-last k v es free apart) }
after (Err b) k v es new ok err free apart = record { apart = subst Apart (sym err) apart }

pub invariant_of-self : goal.invariant_of-self
invariant_of-self c = after c.insert.result c.args.object c.args.names c.self.inside.at.entries c.insert.new.self.entries c.insert.ensures.entries c.insert.ensures.err (rw (← c.self.view_is) at c.requires.free) c.self.invariant.apart
