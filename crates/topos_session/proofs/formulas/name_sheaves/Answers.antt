use Rattle.std.proofs.Common.{◌≡◌, Bool, not, ◌&&◌, is_none, length, refl, sym, ap, ap₂, subst, ◌∙◌, arith}
use Rattle.std.specs.List.{flat_map}
use Rattle.topos_model.specs.types.Types.{functor}
use Rattle.topos_model.specs.topologies.Sheaves.{sheaf_fault}
use Rattle.topos_model.specs.statements.Needs.{parts}
use Rattle.sealed_world.specs.SealedWorlds.{CountedWorld}
use Rattle.topos_session.specs.declared.declarations.Declarations.{Declarations}
use Rattle.topos_session.specs.Functors.{functor_at}
use Rattle.topos_session.proofs.FormulaAnswers.{found_all, found_later, found_here, found_nowhere}
use Rattle.topos_session.proofs.formulas.name_sheaves.Goals as goal
use Rattle.topos_session.proofs.formulas.name_sheaves.Goals.{else-names_functor-via-then-names_functor+in_ok-is_sheaf+else-not-branch, else-names_functor-via-else-names_functor}

-- what is asked of the presheaves that there were at first
asked : (now so : Declarations) (n : _) (b : Bool) → now ≡ so → b ≡ is_none (sheaf_fault now.world.site (functor now.world.site now.world.functors n)) → b ≡ is_none (sheaf_fault so.world.site (functor_at so.world.functors n))
asked now so n b same h = subst (λ (x : Declarations). b ≡ is_none (sheaf_fault x.world.site (functor x.world.site x.world.functors n))) same h

pub loop-n-init : goal.loop-n-init
loop-n-init c = (refl, found_all c.args.so.now.world (flat_map parts c.args.types.now))

pub returns-then-not-branch-clause-stop : goal.returns-then-not-branch-clause-stop
returns-then-not-branch-clause-stop c =
    let so = c.args.so.now in
    let n = c.loop-n.n in
    let long = ap length c.functors.ensures in
    sym c.loop-n.invariant.1
    ∙ found_here so.world (flat_map parts c.args.types.now) n c.names_functor.result c.in_ok-is_sheaf.field-0 (omega (arith, c.loop-n-test.true, long)) c.names_functor.ensures
    (asked c.loop-n.so so n c.in_ok-is_sheaf.field-0 c.loop-n.invariant.0 c.in_ok-is_sheaf.ensures.sheaf) (ap₂ (λ x y. x && not y) c.if-names_functor.true c.if-not-branch.true)

pub loop-n-preserved : goal.loop-n-preserved
loop-n-preserved c =
    let so = c.args.so.now in
    let n = c.loop-n.n in
    let types = flat_map parts c.args.types.now in
    let long = ap length c.functors.ensures in
    elim c.else-names_functor.branch [
      | else-names_functor-via-then-names_functor+in_ok-is_sheaf+else-not-branch w ↦ (
        w.so-is ∙ ap (λ (x : CountedWorld). record { world = x; maps = c.loop-n.so.maps }) w.is_sheaf.ensures.unchanged ∙ c.loop-n.invariant.0,
        sym (found_later so.world types n c.names_functor.result w.in_ok-is_sheaf.field-0 (omega (arith, c.loop-n-test.true, long)) c.names_functor.ensures
            (asked c.loop-n.so so n w.in_ok-is_sheaf.field-0 c.loop-n.invariant.0 w.in_ok-is_sheaf.ensures.sheaf) (ap₂ (λ x y. x && not y) w.if-names_functor.true w.if-not-branch.false))
            ∙ c.loop-n.invariant.1,
      )
      | else-names_functor-via-else-names_functor w ↦ (
        w.so-is ∙ c.loop-n.invariant.0,
        sym (found_later so.world types n c.names_functor.result (is_none (sheaf_fault so.world.site (functor_at so.world.functors n))) (omega (arith, c.loop-n-test.true, long)) c.names_functor.ensures refl
            (ap (λ x. x && not (is_none (sheaf_fault so.world.site (functor_at so.world.functors n)))) w.if-names_functor.false))
            ∙ c.loop-n.invariant.1,
      )
    ]

pub returns-clause-sheaves : goal.returns-clause-sheaves
returns-clause-sheaves c =
    let long = ap length c.functors.ensures in
    sym c.loop-n.invariant.1 ∙ found_nowhere c.args.so.now.world (flat_map parts c.args.types.now) c.loop-n.n (omega (arith, c.loop-n-test.false, long))
