use Rattle.std.proofs.Common.{◌≡◌, ap, sym, subst, ◌∙◌, arith, length}
use Rattle.functor_store.specs.Store.{Store, into, IfBuilding, IsFirstOpen, with_restrictions}
use Rattle.functor_store.proofs.Steps.{restrict_step, restrict_room, kept_restrictions, few_rows, base_in}
use Rattle.functor_store.proofs.store.FunctorStore.push_restrictions.Goals as goal

pub append_row-requires-clause-few_rows : goal.append_row-requires-clause-few_rows
append_row-requires-clause-few_rows c =
    let b = base_in c.self.inside c.self.invariant in
    let few = few_rows c.self.inside c.self.invariant in
    omega (arith, b, few)

pub append_row-requires-clause-few_cells : goal.append_row-requires-clause-few_cells
append_row-requires-clause-few_cells c =
    let o : c.self.inside.objects ≡ c.args.self.now.objects = ap (λ v. v.objects) c.self.view_is in
    let P : Store → Type 0 = λ v. IfBuilding v.building (λ f. IsFirstOpen f c.args.c c.args.k) in
    let Q : Store → Type 0 = λ v. length c.args.row.now ≡ into v.ends c.args.c in
    let room = restrict_room c.self.inside c.args.c c.args.k c.args.row.now c.self.invariant (omega (arith, c.requires.object)) (subst P (sym c.self.view_is) c.requires.first) (subst Q (sym c.self.view_is) c.requires.arrows) in
    omega (arith, room)

pub invariant_of-self : goal.invariant_of-self
invariant_of-self c = (kept_restrictions c.self.inside c.append_row.new.arena c.self.invariant c.in_err-append_row.ensures.err).0

pub invariant_of-self-2 : goal.invariant_of-self-2
invariant_of-self-2 c =
    let o : c.self.inside.objects ≡ c.args.self.now.objects = ap (λ v. v.objects) c.self.view_is in
    let P : Store → Type 0 = λ v. IfBuilding v.building (λ f. IsFirstOpen f c.args.c c.args.k) in
    let Q : Store → Type 0 = λ v. length c.args.row.now ≡ into v.ends c.args.c in
    (restrict_step c.self.inside c.append_row.new.arena c.args.c c.args.k c.args.row.now c.self.invariant c.in_ok-append_row.ensures.rows (omega (arith, c.requires.object)) (subst P (sym c.self.view_is) c.requires.first) (subst Q (sym c.self.view_is) c.requires.arrows)).0

pub returns-clause-ok : goal.returns-clause-ok
returns-clause-ok c =
    let o : c.self.inside.objects ≡ c.args.self.now.objects = ap (λ v. v.objects) c.self.view_is in
    let P : Store → Type 0 = λ v. IfBuilding v.building (λ f. IsFirstOpen f c.args.c c.args.k) in
    let Q : Store → Type 0 = λ v. length c.args.row.now ≡ into v.ends c.args.c in
    (restrict_step c.self.inside c.append_row.new.arena c.args.c c.args.k c.args.row.now c.self.invariant c.in_ok-append_row.ensures.rows (omega (arith, c.requires.object)) (subst P (sym c.self.view_is) c.requires.first) (subst Q (sym c.self.view_is) c.requires.arrows)).1
    ∙ ap (λ (v : Store). record v { building = with_restrictions v.building c.args.c c.args.row.now }) c.self.view_is
