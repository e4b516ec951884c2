use Rattle.std.proofs.Common.{◌≡◌, ℕ, ◌+◌, ◌++◌, ◌∷◌, List, [], length, map, None, Some, Err, Option, sym, ap, subst, ◌∙◌, arith}
use Rattle.functor_store.specs.declared.fault.StoreFault.{StoreFault}
use Rattle.functor_store.specs.declared.fault.StoreFault.TheVariants.{Over, NoMemory}
use Rattle.functor_store.specs.Store.{Store, Functor, cells, cost, bare, sealed_with, IfBuilding, IsWhole}
use Rattle.sealed_functors.specs.Rows.{element_rows, restriction_rows, functor_from, with_all_rows, with_all_restrictions, IsBare, IsOverExactly}
use Rattle.sealed_functors.proofs.Pushed.{bare_is, all_pushed, all_whole, all_sealed, rows_cost}
use Rattle.sealed_functors.proofs.seal.seal_rows.Goals as goal

pub push_all-requires-clause-bare : goal.push_all-requires-clause-bare
push_all-requires-clause-bare c =
    subst (λ (t : Store). IfBuilding t.building (IsBare t.objects)) (sym c.in_default.ensures.ok) (bare_is c.args.key c.args.store.now.objects)

pub seal-requires : goal.seal-requires
seal-requires c =
    let s = c.args.store.now in
    let at = c.args.at.now in
    let after : c.push_all.new.store ≡ record s { building = Some (functor_from c.args.key at) } =
    c.in-Ok.ensures.ok ∙ ap (λ (t : Store). record t { building = with_all_restrictions (with_all_rows t.building (map element_rows at)) (map restriction_rows at) }) c.in_default.ensures.ok
    ∙ ap (λ (b : Option Functor). record s { building = b }) (all_pushed c.args.key at s.objects c.requires.objects) in
    record { whole = subst (λ (t : Store). IfBuilding t.building IsWhole) (sym after) (all_whole c.args.key at s.objects c.requires.objects) }

pub returns-in-Ok-clause-ok : goal.returns-in-Ok-clause-ok
returns-in-Ok-clause-ok c =
    let s = c.args.store.now in
    let at = c.args.at.now in
    let after : c.push_all.new.store ≡ record s { building = Some (functor_from c.args.key at) } =
    c.in-Ok.ensures.ok ∙ ap (λ (t : Store). record t { building = with_all_restrictions (with_all_rows t.building (map element_rows at)) (map restriction_rows at) }) c.in_default.ensures.ok
    ∙ ap (λ (b : Option Functor). record s { building = b }) (all_pushed c.args.key at s.objects c.requires.objects) in
    c.seal.ensures.sealed ∙ ap (λ (t : Store). record t { sealed = sealed_with t.sealed t.building; building = None }) after
    ∙ ap (λ (Fs : List Functor). record s { sealed = Fs; building = None }) (all_sealed c.args.key at s.objects c.requires.objects s.sealed)
    ∙ ap (λ (b : Option Functor). record s { sealed = s.sealed ++ functor_from c.args.key at ∷ []; building = b }) (sym c.requires.idle)

-- the cells with all elements pushed are those before and those of the functor
pushed_cells : (s t : Store) (key : _) (at : _) (long : length at ≡ s.objects) → s.building ≡ None → t ≡ record s { building = Some (bare key s.objects) } →
    (t.budget ≡ s.budget) × (cells (record t { building = with_all_rows t.building (map element_rows at) }) ≡ cells s + cost s.ends (functor_from key at))
pushed_cells s t key at long idle is =
    let all : cells (record t { building = with_all_rows t.building (map element_rows at) }) ≡ cells (record s { building = with_all_rows (Some (bare key s.objects)) (map element_rows at) }) =
    ap (λ (u : Store). cells (record u { building = with_all_rows u.building (map element_rows at) })) is in
    let none : cells (record s { building = None }) ≡ cells s = ap (λ (b : Option Functor). cells (record s { building = b })) (sym idle) in
    (ap (λ (u : Store). u.budget) is, all ∙ rows_cost key at s.objects long s ∙ ap (λ n. n + cost s.ends (functor_from key at)) none)

pub returns-in-Ok-clause-over : goal.returns-in-Ok-clause-over
returns-in-Ok-clause-over c = λ over.
    let e = pushed_cells c.args.store.now c.begin.new.self c.args.key c.args.at.now c.requires.objects c.requires.idle c.in_default.ensures.ok in
    let b = e.0 in
    let n = e.1 in
    c.in-Ok.ensures.over (omega (arith, over, b, n))

over_all : (fault : StoreFault) (P Q : Type 0) → IsOverExactly {A = Unit {0}} (Err fault) P → (P → Q) → IsOverExactly {A = ℕ} (Err fault) Q
over_all Over P Q h f = f h
over_all NoMemory P Q h f = tt

pub returns-in-Err-push_all-clause-over : goal.returns-in-Err-push_all-clause-over
returns-in-Err-push_all-clause-over c =
    let e = pushed_cells c.args.store.now c.begin.new.self c.args.key c.args.at.now c.requires.objects c.requires.idle c.in_default.ensures.ok in
    let b = e.0 in
    let n = e.1 in
    over_all c.in-Err-push_all.fault _ _ c.in-Err-push_all.ensures.over (λ over. omega (arith, over, b, n))
