use Rattle.std.proofs.Common.{◌≡◌, ℕ, List, [], map, replicate, sym, subst}
use Rattle.functor_store.specs.Store.{Store, IfBuilding}
use Rattle.sealed_functors.specs.Rows.{element_rows}
use Rattle.sealed_functors.proofs.Pushed.{pushed_after}
use Rattle.sealed_functors.proofs.seal.push_all.Goals as goal

pub push_all_restrictions-requires-clause-pushed : goal.push_all_restrictions-requires-clause-pushed
push_all_restrictions-requires-clause-pushed c =
    let s = c.args.store.now in
    let gs = map element_rows c.args.at.now in
    subst (λ (t : Store). IfBuilding t.building (λ F. (F.rows ≡ gs) × (F.restrictions ≡ replicate {A = List (List ℕ)} t.objects []))) (sym c.in_default.ensures.ok)
    (pushed_after s.building s.objects gs c.requires.bare)
