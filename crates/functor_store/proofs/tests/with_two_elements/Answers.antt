use Rattle.std.proofs.Common.{◌≡◌, ◌<◌, [], Some, ap, sym, subst, ◌∙◌, arith}
use Rattle.topos_model.specs.declared.ty.Ty.{Omega}
use Rattle.functor_store.specs.Store.{Store, bare, with_row, IfBuilding, IsNext}
use Rattle.functor_store.specs.TwoObjects.{two_objects}
use Rattle.functor_store.proofs.TwoObjects.{begun, first_pushed, begun_is, first_next, first_is, second_next, second_is}
use Rattle.functor_store.proofs.tests.with_two_elements.Goals as goal

pub push_element-requires : goal.push_element-requires
push_element-requires c =
    let begun_to : c.begin.new.self ≡ two_objects [] (Some begun) = c.in_ok-begin.ensures.ok ∙ ap (λ (s : Store). record s { building = Some (bare Omega s.objects) }) c.in_ok-store.ensures.store ∙ ap (λ F. two_objects [] (Some F)) begun_is in
    let P : Store → Type 0 = λ s. 0 < s.objects in
    let Q : Store → Type 0 = λ s. IfBuilding s.building (λ F. IsNext F 0) in
    record { object = subst P (sym begun_to) (omega arith); next = subst Q (sym begun_to) first_next }

pub push_element-requires-2 : goal.push_element-requires-2
push_element-requires-2 c =
    let begun_to : c.begin.new.self ≡ two_objects [] (Some begun) = c.in_ok-begin.ensures.ok ∙ ap (λ (s : Store). record s { building = Some (bare Omega s.objects) }) c.in_ok-store.ensures.store ∙ ap (λ F. two_objects [] (Some F)) begun_is in
    let pushed : c.push_element.new.self ≡ two_objects [] (Some (first_pushed c.args.entries.now)) = c.in_ok-push_element.ensures.ok ∙ ap (λ (s : Store). record s { building = with_row s.building 0 c.args.entries.now }) begun_to ∙ ap (two_objects []) (first_is c.args.entries.now) in
    let P : Store → Type 0 = λ s. 1 < s.objects in
    let Q : Store → Type 0 = λ s. IfBuilding s.building (λ F. IsNext F 1) in
    record { object = subst P (sym pushed) (omega arith); next = subst Q (sym pushed) (second_next c.args.entries.now) }

pub returns : goal.returns
returns c =
    let begun_to : c.begin.new.self ≡ two_objects [] (Some begun) = c.in_ok-begin.ensures.ok ∙ ap (λ (s : Store). record s { building = Some (bare Omega s.objects) }) c.in_ok-store.ensures.store ∙ ap (λ F. two_objects [] (Some F)) begun_is in
    let pushed : c.push_element.new.self ≡ two_objects [] (Some (first_pushed c.args.entries.now)) = c.in_ok-push_element.ensures.ok ∙ ap (λ (s : Store). record s { building = with_row s.building 0 c.args.entries.now }) begun_to ∙ ap (two_objects []) (first_is c.args.entries.now) in
    record { store = c.in_ok-push_element-2.ensures.ok ∙ ap (λ (s : Store). record s { building = with_row s.building 1 [] }) pushed ∙ ap (two_objects []) (second_is c.args.entries.now) }
