use Rattle.std.proofs.Common.{◌≡◌, ◌<◌, [], ◌∷◌, None, Some, ap, sym, subst, ◌∙◌, arith}
use Rattle.functor_store.specs.Store.{Store, into, with_restrictions, sealed_with, IfBuilding, IsFirstOpen, IsWhole}
use Rattle.functor_store.specs.TwoObjects.{two_objects, two_restricted}
use Rattle.functor_store.proofs.TwoObjects.{first_restricted, first_open, first_restricted_is, second_open, second_restricted_is, both_whole, sealed_is, into_first, into_second}
use Rattle.functor_store.proofs.tests.with_sealed_functor.Goals as goal

pub push_restrictions-requires : goal.push_restrictions-requires
push_restrictions-requires c =
    let P : Store → Type 0 = λ s. 0 < s.objects in
    let Q : Store → Type 0 = λ s. IfBuilding s.building (λ F. IsFirstOpen F 0 0) in
    let R : Store → Type 0 = λ s. 1 ≡ into s.ends 0 in
    record {
      object = subst P (sym c.in_ok-store.ensures.store) (omega arith);
      first = subst Q (sym c.in_ok-store.ensures.store) (first_open (7 ∷ 8 ∷ []));
      arrows = subst R (sym c.in_ok-store.ensures.store) (sym into_first);
    }

pub push_restrictions-requires-2 : goal.push_restrictions-requires-2
push_restrictions-requires-2 c =
    let restricted : c.push_restrictions.new.self ≡ two_objects [] (Some (first_restricted (7 ∷ 8 ∷ []))) =
    c.in_ok-push_restrictions.ensures.ok ∙ ap (λ (s : Store). record s { building = with_restrictions s.building 0 (0 ∷ []) }) c.in_ok-store.ensures.store ∙ ap (two_objects []) (first_restricted_is (7 ∷ 8 ∷ [])) in
    let P : Store → Type 0 = λ s. 1 < s.objects in
    let Q : Store → Type 0 = λ s. IfBuilding s.building (λ F. IsFirstOpen F 1 0) in
    let R : Store → Type 0 = λ s. 3 ≡ into s.ends 1 in
    record { object = subst P (sym restricted) (omega arith); first = subst Q (sym restricted) (second_open (7 ∷ 8 ∷ [])); arrows = subst R (sym restricted) (sym into_second) }

pub seal-requires : goal.seal-requires
seal-requires c =
    let restricted : c.push_restrictions.new.self ≡ two_objects [] (Some (first_restricted (7 ∷ 8 ∷ []))) =
    c.in_ok-push_restrictions.ensures.ok ∙ ap (λ (s : Store). record s { building = with_restrictions s.building 0 (0 ∷ []) }) c.in_ok-store.ensures.store ∙ ap (two_objects []) (first_restricted_is (7 ∷ 8 ∷ [])) in
    let whole : c.push_restrictions-2.new.self ≡ two_objects [] (Some (two_restricted (7 ∷ 8 ∷ []))) =
    c.in_ok-push_restrictions-2.ensures.ok ∙ ap (λ (s : Store). record s { building = with_restrictions s.building 1 (0 ∷ 5 ∷ 6 ∷ []) }) restricted ∙ ap (two_objects []) (second_restricted_is (7 ∷ 8 ∷ [])) in
    let Q : Store → Type 0 = λ s. IfBuilding s.building IsWhole in
    record { whole = subst Q (sym whole) (both_whole (7 ∷ 8 ∷ [])) }

pub returns : goal.returns
returns c =
    let restricted : c.push_restrictions.new.self ≡ two_objects [] (Some (first_restricted (7 ∷ 8 ∷ []))) =
    c.in_ok-push_restrictions.ensures.ok ∙ ap (λ (s : Store). record s { building = with_restrictions s.building 0 (0 ∷ []) }) c.in_ok-store.ensures.store ∙ ap (two_objects []) (first_restricted_is (7 ∷ 8 ∷ [])) in
    let whole : c.push_restrictions-2.new.self ≡ two_objects [] (Some (two_restricted (7 ∷ 8 ∷ []))) =
    c.in_ok-push_restrictions-2.ensures.ok ∙ ap (λ (s : Store). record s { building = with_restrictions s.building 1 (0 ∷ 5 ∷ 6 ∷ []) }) restricted ∙ ap (two_objects []) (second_restricted_is (7 ∷ 8 ∷ [])) in
    record {
      store = c.seal.ensures.sealed ∙ ap (λ (s : Store). record s { sealed = sealed_with s.sealed s.building; building = None }) whole
          ∙ ap (λ x. two_objects x None) (sealed_is (two_restricted (7 ∷ 8 ∷ [])));
    }
