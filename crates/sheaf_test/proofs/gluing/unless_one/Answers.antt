use Rattle.std.proofs.Common.{ℕ, List, ◌∷◌, sym, ap, ◌∙◌}
use Rattle.topos_model.specs.topologies.Sheaves.{not_one}
use Rattle.sheaf_test.proofs.NextAmalgamations.{from_start}
use Rattle.sheaf_test.proofs.gluing.unless_one.Goals as goal

pub returns-in-None : goal.returns-in-None
returns-in-None c =
    let X = c.args.x.now in
    let S = c.args.arrows.now in
    let family = c.args.family.now in
    sym (ap (not_one c.args.c S family) (from_start X c.args.c S family ∙ c.in-None.ensures.list))

pub returns-in-None-next_amalgamation : goal.returns-in-None-next_amalgamation
returns-in-None-next_amalgamation c =
    let X = c.args.x.now in
    let S = c.args.arrows.now in
    let family = c.args.family.now in
    sym (ap (not_one c.args.c S family) (from_start X c.args.c S family ∙ c.in-Some.ensures.list ∙ ap (λ (l : List ℕ). c.in-Some.y ∷ l) c.in-None-next_amalgamation.ensures.list))

pub returns-in-Some-next_amalgamation : goal.returns-in-Some-next_amalgamation
returns-in-Some-next_amalgamation c =
    let X = c.args.x.now in
    let S = c.args.arrows.now in
    let family = c.args.family.now in
    sym (ap (not_one c.args.c S family) (from_start X c.args.c S family ∙ c.in-Some.ensures.list ∙ ap (λ (l : List ℕ). c.in-Some.y ∷ l) c.in-Some-next_amalgamation.ensures.list))
