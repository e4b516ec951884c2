use Rattle.std.proofs.Common.{◌≤◌, length, inl, inr, sym, ◌∙◌, arith}
use Rattle.presheaf_core.specs.Filling.{pair_from}
use Rattle.presheaf_core.proofs.SearchFrom.{first_from-skip, first_from-nothing, first_from-none, first_from-some}
use Rattle.presheaf_core.proofs.FillingPairs.{filling_by_rows, pair_from-none, identities_are_arrows}
use Rattle.presheaf_core.proofs.filling.filling_pair.Goals as goal

pub loop-g-init : goal.loop-g-init
loop-g-init c =
    let k = c.args.cat.now in
    let few : c.objects-g.result ≤ length k.ends = omega (arith, c.objects-g.ensures.count, identities_are_arrows k c.objects-g.ensures.lawful) in
    filling_by_rows k c.args.f ∙ first_from-skip (pair_from k c.args.f) c.objects-g.result (length k.ends) few (λ j l. pair_from-none k c.args.f j (inl (omega (arith, c.objects-g.ensures.count))))

pub returns-in-Some : goal.returns-in-Some
returns-in-Some c =
    let k = c.args.cat.now in
    sym (c.loop-g.invariant ∙ first_from-some (pair_from k c.args.f) c.loop-g.g (length k.ends) c.in-Some.pair (omega (arith, c.requires)) (sym c.in-Some.ensures))

pub loop-g-preserved : goal.loop-g-preserved
loop-g-preserved c =
    let k = c.args.cat.now in
    c.loop-g.invariant ∙ first_from-none (pair_from k c.args.f) c.loop-g.g (length k.ends) (omega (arith, c.requires)) (sym c.in_default.ensures)

pub returns : goal.returns
returns c =
    let k = c.args.cat.now in
    sym (c.loop-g.invariant ∙ first_from-nothing (pair_from k c.args.f) c.loop-g.g (length k.ends) (λ j l. pair_from-none k c.args.f j (inr (omega arith))))
