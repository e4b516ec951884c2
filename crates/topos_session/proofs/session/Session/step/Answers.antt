use Rattle.std.proofs.Common.{◌≡◌, ◌≤◌, true, refl, ap, subst, ◌∙◌, arith}
use Rattle.sealed_world.specs.SealedWorlds.{world_cells}
use Rattle.topos_session.specs.Progress.{Progress, IsUnderWay}
use Rattle.topos_session.proofs.DocumentRanges.{ranges}
use Rattle.topos_session.proofs.StagedStatements.{answered_next, counted_behind_it, built_here, stopped_next}
use Rattle.topos_session.proofs.SessionSteps.{next_in_range, goes_on}
use Rattle.topos_session.proofs.session.Session.step.Goals as goal

pub answer-requires-clause-range : goal.answer-requires-clause-range
answer-requires-clause-range c =
    let i = c.self.inside in
    next_in_range i.doc i.so i.answered i.live c.get-stmt.result.now c.self.invariant c.get-stmt.ensures

pub answer-requires-clause-few : goal.answer-requires-clause-few
answer-requires-clause-few c =
    let range = ranges c.self.inside.doc c.self.invariant.range in
    let few = c.self.invariant.few in
    omega (arith, range.few, c.self.invariant.within, few)

pub answer-requires-clause-fits : goal.answer-requires-clause-fits
answer-requires-clause-fits c = c.self.invariant.fits (ap (λ (p : Progress). p.live) c.self.view_is ∙ c.requires.live)

pub overflow_add-self : goal.overflow_add-self
overflow_add-self c = let range = ranges c.self.inside.doc c.self.invariant.range in omega arith

pub invariant_of-self : goal.invariant_of-self
invariant_of-self c =
    let i = c.self.inside in
    let a = c.in-Ok.ensures.answer in
    let on : i.live ≡ true = ap (λ (p : Progress). p.live) c.self.view_is ∙ c.requires.live in
    let way : IsUnderWay i.doc i.so i.answered true = subst (IsUnderWay i.doc i.so i.answered) on c.self.invariant in
    let fits : world_cells c.answer.new.so.world ≤ c.answer.new.so.world.budget = let w = a.within in let b = a.kept.2 in omega (arith, w, b) in
    goes_on i.doc i.so i.answered i.live c.get-stmt.result.now c.self.invariant c.get-stmt.ensures c.answer.new.so a.kept.0 a.lawful a.declared a.functors a.maps.0 a.maps.1 (built_here i.doc i.so i.answered way c.get-stmt.result.now c.get-stmt.ensures c.in-Ok.answer c.answer.new.so a) fits
    (counted_behind_it i.doc i.so i.answered way c.get-stmt.result.now c.get-stmt.ensures c.in-Ok.answer c.answer.new.so a)

pub returns-in-Ok-clause-answer : goal.returns-in-Ok-clause-answer
returns-in-Ok-clause-answer c =
    let i = c.self.inside in
    let a = c.in-Ok.ensures.answer in
    let on : i.live ≡ true = ap (λ (p : Progress). p.live) c.self.view_is ∙ c.requires.live in
    let way : IsUnderWay i.doc i.so i.answered true = subst (IsUnderWay i.doc i.so i.answered) on c.self.invariant in
    rw (← c.self.view_is) (record {
      stmt = c.get-stmt.result.now;
      next = c.get-stmt.ensures;
      answers = answered_next i.doc i.so i.answered way c.get-stmt.result.now c.get-stmt.ensures c.in-Ok.answer c.answer.new.so a;
      moved = (refl, a.kept.2, refl, on);
    })

pub returns-in-Err-clause-stop : goal.returns-in-Err-clause-stop
returns-in-Err-clause-stop c =
    let i = c.self.inside in
    let on : i.live ≡ true = ap (λ (p : Progress). p.live) c.self.view_is ∙ c.requires.live in
    let way : IsUnderWay i.doc i.so i.answered true = subst (IsUnderWay i.doc i.so i.answered) on c.self.invariant in
    rw (← c.self.view_is, on) (record {
      stmt = c.get-stmt.result.now;
      next = c.get-stmt.ensures;
      refused = stopped_next i.doc i.so i.answered way c.get-stmt.result.now c.get-stmt.ensures c.in-Err.stop c.in-Err.ensures.stop;
    })
