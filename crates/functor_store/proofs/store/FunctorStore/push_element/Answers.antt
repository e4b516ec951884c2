use Rattle.std.proofs.Common.{◌≡◌, ◌+◌, ap, sym, subst, ◌∙◌, arith, length, Result, Ok, Err}
use Rattle.std.specs.Vec.{with_items}
use Rattle.std.specs.Result.{IsErrAnd}
use Rattle.functor_store.specs.declared.fault.StoreFault.{StoreFault}
use Rattle.functor_store.specs.declared.fault.StoreFault.TheVariants.{Over, NoMemory}
use Rattle.functor_store.specs.Store.{Store, cells, into, IfBuilding, IsNext, IsOverWhere, with_row}
use Rattle.functor_store.proofs.Steps.{push_step, pushed_ends, ends_length, kept_rows, cells_are}
use Rattle.functor_store.proofs.Reading.{into_is}
use Rattle.functor_store.proofs.store.FunctorStore.push_element.Goals as goal

-- want of memory is not `Over`
short : (r : Result (Unit {0}) StoreFault) (P : Type 0) → IsErrAnd r (λ fault. fault ≡ NoMemory) → (P → ⊥) → IsOverWhere r P
short (Ok _) P only not = not
short (Err Over) P only not = absurd (cc)
short (Err NoMemory) P only not = not

pub returns-then-self-need-clause-over : goal.returns-then-self-need-clause-over
returns-then-self-need-clause-over c =
    let e : c.self.inside.cells ≡ cells c.args.self.now = cells_are c.self.inside c.self.invariant ∙ ap cells c.self.view_is in
    let b : c.self.inside.budget ≡ c.args.self.now.budget = ap (λ v. v.budget) c.self.view_is in
    let n = into_is c.self.inside _ c.args.c c.index.result.now c.self.invariant c.self.view_is c.requires.object c.index.ensures in
    let i : c.from.result ≡ into c.args.self.now.ends c.args.c = c.from.ensures ∙ n.0 in
    let w = c.self.invariant.within in
    omega arith

pub invariant_of-self : goal.invariant_of-self
invariant_of-self c = (kept_rows c.self.inside c.append_row.new.arena c.self.invariant c.in_err-place.ensures.err).0

pub returns-in_err-place-clause-over : goal.returns-in_err-place-clause-over
returns-in_err-place-clause-over c =
    let e : c.self.inside.cells ≡ cells c.args.self.now = cells_are c.self.inside c.self.invariant ∙ ap cells c.self.view_is in
    let b : c.self.inside.budget ≡ c.args.self.now.budget = ap (λ v. v.budget) c.self.view_is in
    let n = into_is c.self.inside _ c.args.c c.index.result.now c.self.invariant c.self.view_is c.requires.object c.index.ensures in
    let i : c.from.result ≡ into c.args.self.now.ends c.args.c = c.from.ensures ∙ n.0 in
    let w = c.self.invariant.within in
    short c.from_residual.result _ c.from_residual.ensures.1 (λ over. omega arith)

pub fill-requires : goal.fill-requires
fill-requires c =
    let o : c.self.inside.objects ≡ c.args.self.now.objects = ap (λ v. v.objects) c.self.view_is in
    let P : Store → Type 0 = λ v. IfBuilding v.building (λ f. IsNext f c.args.c) in
    let l = ends_length c.self.inside (λ f. IsNext f c.args.c) c.self.invariant (subst P (sym c.self.view_is) c.requires.next) in
    record { within = omega (arith, l, o, c.requires.object, ap length c.deref_mut.ensures.value) }

pub invariant_of-self-2 : goal.invariant_of-self-2
invariant_of-self-2 c =
    let o : c.self.inside.objects ≡ c.args.self.now.objects = ap (λ v. v.objects) c.self.view_is in
    let P : Store → Type 0 = λ v. IfBuilding v.building (λ f. IsNext f c.args.c) in
    let n = into_is c.self.inside _ c.args.c c.index.result.now c.self.invariant c.self.view_is c.requires.object c.index.ensures in
    let i : c.from.result ≡ into c.self.inside.ends c.args.c = c.from.ensures ∙ n.1 in
    let v = pushed_ends c.self.inside c.args.c c.in_ok-place.place c.deref_mut.result.now c.fill.new.numbers c.deref_mut.ensures.value c.in_ok-place.ensures.place c.fill.ensures.filled in
    (push_step c.self.inside c.append_row.new.arena (with_items c.self.inside.open_ends c.fill.new.numbers) (1 + c.from.result + length c.args.entries.now) c.args.c c.args.entries.now c.self.invariant c.in_ok-place.ensures.rows v (omega (arith, c.requires.object)) (subst P (sym c.self.view_is) c.requires.next) (omega arith) c.if-self-need.false).0

pub returns-clause-ok : goal.returns-clause-ok
returns-clause-ok c =
    let o : c.self.inside.objects ≡ c.args.self.now.objects = ap (λ v. v.objects) c.self.view_is in
    let P : Store → Type 0 = λ v. IfBuilding v.building (λ f. IsNext f c.args.c) in
    let n = into_is c.self.inside _ c.args.c c.index.result.now c.self.invariant c.self.view_is c.requires.object c.index.ensures in
    let i : c.from.result ≡ into c.self.inside.ends c.args.c = c.from.ensures ∙ n.1 in
    let v = pushed_ends c.self.inside c.args.c c.in_ok-place.place c.deref_mut.result.now c.fill.new.numbers c.deref_mut.ensures.value c.in_ok-place.ensures.place c.fill.ensures.filled in
    (push_step c.self.inside c.append_row.new.arena (with_items c.self.inside.open_ends c.fill.new.numbers) (1 + c.from.result + length c.args.entries.now) c.args.c c.args.entries.now c.self.invariant c.in_ok-place.ensures.rows v (omega (arith, c.requires.object)) (subst P (sym c.self.view_is) c.requires.next) (omega arith) c.if-self-need.false).1
    ∙ ap (λ (w : Store). record w { building = with_row w.building c.args.c c.args.entries.now }) c.self.view_is

pub returns-clause-over : goal.returns-clause-over
returns-clause-over c = λ over.
    let e : c.self.inside.cells ≡ cells c.args.self.now = cells_are c.self.inside c.self.invariant ∙ ap cells c.self.view_is in
    let b : c.self.inside.budget ≡ c.args.self.now.budget = ap (λ v. v.budget) c.self.view_is in
    let n = into_is c.self.inside _ c.args.c c.index.result.now c.self.invariant c.self.view_is c.requires.object c.index.ensures in
    let i : c.from.result ≡ into c.args.self.now.ends c.args.c = c.from.ensures ∙ n.0 in
    let w = c.self.invariant.within in
    omega arith
