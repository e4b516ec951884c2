use Rattle.std.proofs.Common.{sym, ◌∙◌, subst}
use Rattle.topos_model.specs.presheaves.Maps.{IsNatural}
use Rattle.topos_model.specs.presheaves.Colimits.{IsCoequalizer}
use Rattle.topos_model.proofs.MapEquations.{composites_natural}
use Rattle.natural_maps.specs.Made.{IfMade1}
use Rattle.finite_colimits.proofs.SumRows.{made_coproduct, made_sizes, composable}
use Rattle.finite_colimits.proofs.MadePushout.{made_pushout, pushout_over, pushout_exists}
use Rattle.finite_colimits.proofs.join.pushout.Goals as goal

pub after-requires-clause-objects : goal.after-requires-clause-objects
after-requires-clause-objects c =
    let s = c.in_ok-sum in
    let co = made_coproduct c.args.cat.now c.sizes_of_both.ensures.lawful c.args.x.now c.args.y.now c.requires.left c.requires.right s.sum s.i s.j s.ensures.sum s.ensures.first s.ensures.second in
    c.requires.first.objects ∙ sym co.first.objects

pub after-requires-clause-meet : goal.after-requires-clause-meet
after-requires-clause-meet c =
    let s = c.in_ok-sum in
    let co = made_coproduct c.args.cat.now c.sizes_of_both.ensures.lawful c.args.x.now c.args.y.now c.requires.left c.requires.right s.sum s.i s.j s.ensures.sum s.ensures.first s.ensures.second in
    composable c.args.cat.now c.args.a.now c.args.x.now s.sum c.args.m.now s.i c.requires.first co.first

pub after-requires-2-clause-objects : goal.after-requires-2-clause-objects
after-requires-2-clause-objects c =
    let s = c.in_ok-sum in
    let co = made_coproduct c.args.cat.now c.sizes_of_both.ensures.lawful c.args.x.now c.args.y.now c.requires.left c.requires.right s.sum s.i s.j s.ensures.sum s.ensures.first s.ensures.second in
    c.requires.second.objects ∙ sym co.second.objects

pub after-requires-2-clause-meet : goal.after-requires-2-clause-meet
after-requires-2-clause-meet c =
    let s = c.in_ok-sum in
    let co = made_coproduct c.args.cat.now c.sizes_of_both.ensures.lawful c.args.x.now c.args.y.now c.requires.left c.requires.right s.sum s.i s.j s.ensures.sum s.ensures.first s.ensures.second in
    composable c.args.cat.now c.args.a.now c.args.y.now s.sum c.args.n.now s.j c.requires.second co.second

pub coequalizer-requires-clause-codomain : goal.coequalizer-requires-clause-codomain
coequalizer-requires-clause-codomain c =
    let s = c.in_ok-sum in
    let co = made_coproduct c.args.cat.now c.sizes_of_both.ensures.lawful c.args.x.now c.args.y.now c.requires.left c.requires.right s.sum s.i s.j s.ensures.sum s.ensures.first s.ensures.second in
    co.functor

pub coequalizer-requires-clause-first : goal.coequalizer-requires-clause-first
coequalizer-requires-clause-first c =
    let s = c.in_ok-sum in
    let co = made_coproduct c.args.cat.now c.sizes_of_both.ensures.lawful c.args.x.now c.args.y.now c.requires.left c.requires.right s.sum s.i s.j s.ensures.sum s.ensures.first s.ensures.second in
    subst (IsNatural c.args.cat.now c.args.a.now s.sum) (sym c.in_ok-first.ensures)
    (composites_natural c.args.cat.now c.args.a.now c.args.x.now s.sum s.i c.args.m.now c.sizes_of_both.ensures.lawful c.requires.domain co.first c.requires.first)

pub coequalizer-requires-clause-second : goal.coequalizer-requires-clause-second
coequalizer-requires-clause-second c =
    let s = c.in_ok-sum in
    let co = made_coproduct c.args.cat.now c.sizes_of_both.ensures.lawful c.args.x.now c.args.y.now c.requires.left c.requires.right s.sum s.i s.j s.ensures.sum s.ensures.first s.ensures.second in
    subst (IsNatural c.args.cat.now c.args.a.now s.sum) (sym c.in_ok-second.ensures)
    (composites_natural c.args.cat.now c.args.a.now c.args.y.now s.sum s.j c.args.n.now c.sizes_of_both.ensures.lawful c.requires.domain co.second c.requires.second)

pub returns-in-Over-clause-over : goal.returns-in-Over-clause-over
returns-in-Over-clause-over c =
    let s = c.in_ok-sum in
    let co = made_coproduct c.args.cat.now c.sizes_of_both.ensures.lawful c.args.x.now c.args.y.now c.requires.left c.requires.right s.sum s.i s.j s.ensures.sum s.ensures.first s.ensures.second in
    pushout_over c.args.cat.now c.sizes_of_both.ensures.lawful c.args.a.now c.args.x.now c.args.y.now s.sum c.requires.domain c.requires.left c.requires.right c.args.m.now c.args.n.now s.i s.j
    c.requires.first c.requires.second co (made_sizes c.args.cat.now c.sizes_of_both.ensures.lawful c.args.x.now c.args.y.now c.requires.left c.requires.right s.sum s.i s.j s.ensures.sum s.ensures.first s.ensures.second)
    c.in_ok-first.first c.in_ok-second.second c.in_ok-first.ensures c.in_ok-second.ensures c.args.room c.in_ok-coequalizer.field-0 c.in-Over.is c.in_ok-coequalizer.ensures.exists c.in_ok-coequalizer.ensures.over

pub returns-in-Over-clause-exists : goal.returns-in-Over-clause-exists
returns-in-Over-clause-exists c =
    let s = c.in_ok-sum in
    let co = made_coproduct c.args.cat.now c.sizes_of_both.ensures.lawful c.args.x.now c.args.y.now c.requires.left c.requires.right s.sum s.i s.j s.ensures.sum s.ensures.first s.ensures.second in
    pushout_exists c.args.cat.now c.sizes_of_both.ensures.lawful c.args.a.now c.args.x.now c.args.y.now s.sum c.requires.domain c.requires.left c.requires.right c.args.m.now c.args.n.now s.i s.j
    c.requires.first c.requires.second co (made_sizes c.args.cat.now c.sizes_of_both.ensures.lawful c.args.x.now c.args.y.now c.requires.left c.requires.right s.sum s.i s.j s.ensures.sum s.ensures.first s.ensures.second)
    c.in_ok-first.first c.in_ok-second.second c.in_ok-first.ensures c.in_ok-second.ensures c.in_ok-coequalizer.field-0 c.in-Over.is c.in_ok-coequalizer.ensures.exists

pub after-requires-in-Made-clause-objects : goal.after-requires-in-Made-clause-objects
after-requires-in-Made-clause-objects c =
    let s = c.in_ok-sum in
    let co = made_coproduct c.args.cat.now c.sizes_of_both.ensures.lawful c.args.x.now c.args.y.now c.requires.left c.requires.right s.sum s.i s.j s.ensures.sum s.ensures.first s.ensures.second in
    let q : IsCoequalizer c.args.cat.now c.args.a.now s.sum c.in_ok-first.first c.in_ok-second.second c.in-Made.classes c.in-Made.quotient =
    subst (λ made. IfMade1 made (IsCoequalizer c.args.cat.now c.args.a.now s.sum c.in_ok-first.first c.in_ok-second.second)) c.in-Made.is c.in_ok-coequalizer.ensures.coequalizer in
    co.first.objects ∙ sym q.quotient.objects

pub after-requires-in-Made-clause-meet : goal.after-requires-in-Made-clause-meet
after-requires-in-Made-clause-meet c =
    let s = c.in_ok-sum in
    let co = made_coproduct c.args.cat.now c.sizes_of_both.ensures.lawful c.args.x.now c.args.y.now c.requires.left c.requires.right s.sum s.i s.j s.ensures.sum s.ensures.first s.ensures.second in
    let q : IsCoequalizer c.args.cat.now c.args.a.now s.sum c.in_ok-first.first c.in_ok-second.second c.in-Made.classes c.in-Made.quotient =
    subst (λ made. IfMade1 made (IsCoequalizer c.args.cat.now c.args.a.now s.sum c.in_ok-first.first c.in_ok-second.second)) c.in-Made.is c.in_ok-coequalizer.ensures.coequalizer in
    composable c.args.cat.now c.args.x.now s.sum c.in-Made.classes s.i c.in-Made.quotient co.first q.quotient

pub after-requires-in-Made-2-clause-objects : goal.after-requires-in-Made-2-clause-objects
after-requires-in-Made-2-clause-objects c =
    let s = c.in_ok-sum in
    let co = made_coproduct c.args.cat.now c.sizes_of_both.ensures.lawful c.args.x.now c.args.y.now c.requires.left c.requires.right s.sum s.i s.j s.ensures.sum s.ensures.first s.ensures.second in
    let q : IsCoequalizer c.args.cat.now c.args.a.now s.sum c.in_ok-first.first c.in_ok-second.second c.in-Made.classes c.in-Made.quotient =
    subst (λ made. IfMade1 made (IsCoequalizer c.args.cat.now c.args.a.now s.sum c.in_ok-first.first c.in_ok-second.second)) c.in-Made.is c.in_ok-coequalizer.ensures.coequalizer in
    co.second.objects ∙ sym q.quotient.objects

pub after-requires-in-Made-2-clause-meet : goal.after-requires-in-Made-2-clause-meet
after-requires-in-Made-2-clause-meet c =
    let s = c.in_ok-sum in
    let co = made_coproduct c.args.cat.now c.sizes_of_both.ensures.lawful c.args.x.now c.args.y.now c.requires.left c.requires.right s.sum s.i s.j s.ensures.sum s.ensures.first s.ensures.second in
    let q : IsCoequalizer c.args.cat.now c.args.a.now s.sum c.in_ok-first.first c.in_ok-second.second c.in-Made.classes c.in-Made.quotient =
    subst (λ made. IfMade1 made (IsCoequalizer c.args.cat.now c.args.a.now s.sum c.in_ok-first.first c.in_ok-second.second)) c.in-Made.is c.in_ok-coequalizer.ensures.coequalizer in
    composable c.args.cat.now c.args.y.now s.sum c.in-Made.classes s.j c.in-Made.quotient co.second q.quotient

pub returns-clause-pushout : goal.returns-clause-pushout
returns-clause-pushout c =
    let s = c.in_ok-sum in
    let co = made_coproduct c.args.cat.now c.sizes_of_both.ensures.lawful c.args.x.now c.args.y.now c.requires.left c.requires.right s.sum s.i s.j s.ensures.sum s.ensures.first s.ensures.second in
    let q : IsCoequalizer c.args.cat.now c.args.a.now s.sum c.in_ok-first.first c.in_ok-second.second c.in-Made.classes c.in-Made.quotient =
    subst (λ made. IfMade1 made (IsCoequalizer c.args.cat.now c.args.a.now s.sum c.in_ok-first.first c.in_ok-second.second)) c.in-Made.is c.in_ok-coequalizer.ensures.coequalizer in
    made_pushout c.args.cat.now c.sizes_of_both.ensures.lawful c.args.a.now c.args.x.now c.args.y.now s.sum c.requires.domain c.requires.left c.requires.right c.args.m.now c.args.n.now s.i s.j
    c.requires.first c.requires.second co (made_sizes c.args.cat.now c.sizes_of_both.ensures.lawful c.args.x.now c.args.y.now c.requires.left c.requires.right s.sum s.i s.j s.ensures.sum s.ensures.first s.ensures.second)
    c.in_ok-first.first c.in_ok-second.second c.in_ok-first.ensures c.in_ok-second.ensures c.in-Made.classes c.in-Made.quotient c.in_ok-left-in-Made.left c.in_ok-right-in-Made.right
    q c.in_ok-left-in-Made.ensures c.in_ok-right-in-Made.ensures
