use Rattle.std.proofs.Common.{◌≡◌, ◌∷◌, ◌++◌, [], ap, sym, subst, ◌∙◌, arith, length, Some, None, Result, Ok, Err, OnOk}
use Rattle.std.specs.Vec.{with_items}
use Rattle.std.specs.Result.{IsOk}
use Rattle.functor_store.specs.declared.store.Part.{Part}
use Rattle.functor_store.specs.Store.{Store, IfBuilding, IsWhole, sealed_with}
use Rattle.functor_store.proofs.Held.{inserted_last}
use Rattle.functor_store.proofs.Steps.{seal_key, sealed_ends, ends_length, key_there, key_free, room_there}
use Rattle.functor_store.proofs.Reading.{sealed_count}
use Rattle.functor_store.proofs.store.FunctorStore.seal.Goals as goal

from_ok : {A B P : Type 0} (r : Result A B) → IsOk r → OnOk r P → P
from_ok (Ok a) is h = h
from_ok (Err b) is h = absurd (cc)

pub fill-requires : goal.fill-requires
fill-requires c =
    let P : Store → Type 0 = λ v. IfBuilding v.building IsWhole in
    let l = ends_length c.self.inside IsWhole c.self.invariant (subst P (sym c.self.view_is) c.requires.whole) in
    let e : length c.deref_mut.result.now ≡ length c.self.inside.open_ends.items = ap length (c.deref_mut.ensures.value ∙ ap (λ v. v.items) c.replace-ends.ensures.value) in
    record { within = omega (arith, l, e) }

pub unwrap-requires : goal.unwrap-requires
unwrap-requires c =
    let k : c.self.inside.key ≡ Some c.in-Some.key = sym c.take.ensures.value ∙ c.in-Some.is in
    c.insert.ensures.succeeds (room_there c.self.inside c.in-Some.key c.self.invariant k)

pub unreachable-requires : goal.unreachable-requires
unreachable-requires c =
    let P : Store → Type 0 = λ v. IfBuilding v.building IsWhole in
    key_there c.self.inside (subst P (sym c.self.view_is) c.requires.whole) (sym c.take.ensures.value ∙ c.in-None.is)

pub invariant_of-self : goal.invariant_of-self
invariant_of-self c =
    let P : Store → Type 0 = λ v. IfBuilding v.building IsWhole in
    let whole = subst P (sym c.self.view_is) c.requires.whole in
    let k : c.self.inside.key ≡ Some c.in-Some.key = sym c.take.ensures.value ∙ c.in-Some.is in
    let l = ends_length c.self.inside IsWhole c.self.invariant whole in
    let free = key_free c.self.inside c.in-Some.key c.self.invariant k in
    let ends = sealed_ends c.self.inside c.replace-ends.result c.rows-end.result c.deref_mut.result.now c.fill.new.numbers c.replace-ends.ensures.value c.deref_mut.ensures.value l c.rows-end.ensures.rows c.fill.ensures.filled in
    let room = room_there c.self.inside c.in-Some.key c.self.invariant k in
    let p : Part = record { base = c.replace-base.result; ends = with_items c.replace-ends.result c.fill.new.numbers } in
    let there : c.insert.new.self.entries ≡ c.self.inside.parts.entries ++ (c.in-Some.key, p) ∷ [] =
    from_ok c.insert.result (c.insert.ensures.succeeds room) c.insert.ensures.entries ∙ inserted_last c.self.inside.rows.rows c.self.inside.restrictions.rows c.self.inside.parts.entries c.in-Some.key p free in
    (seal_key c.self.inside c.in-Some.key c.insert.new.self p c.replace-ends.new.dest c.replace-base.new.dest c.take.new.self c.take.ensures.after c.self.invariant k c.replace-base.ensures.value ends there (c.replace-base.ensures.after ∙ c.rows-end.ensures.rows) whole).0

pub returns-clause-sealed : goal.returns-clause-sealed
returns-clause-sealed c =
    let P : Store → Type 0 = λ v. IfBuilding v.building IsWhole in
    let whole = subst P (sym c.self.view_is) c.requires.whole in
    let k : c.self.inside.key ≡ Some c.in-Some.key = sym c.take.ensures.value ∙ c.in-Some.is in
    let l = ends_length c.self.inside IsWhole c.self.invariant whole in
    let free = key_free c.self.inside c.in-Some.key c.self.invariant k in
    let ends = sealed_ends c.self.inside c.replace-ends.result c.rows-end.result c.deref_mut.result.now c.fill.new.numbers c.replace-ends.ensures.value c.deref_mut.ensures.value l c.rows-end.ensures.rows c.fill.ensures.filled in
    let room = room_there c.self.inside c.in-Some.key c.self.invariant k in
    let p : Part = record { base = c.replace-base.result; ends = with_items c.replace-ends.result c.fill.new.numbers } in
    let there : c.insert.new.self.entries ≡ c.self.inside.parts.entries ++ (c.in-Some.key, p) ∷ [] =
    from_ok c.insert.result (c.insert.ensures.succeeds room) c.insert.ensures.entries ∙ inserted_last c.self.inside.rows.rows c.self.inside.restrictions.rows c.self.inside.parts.entries c.in-Some.key p free in
    (seal_key c.self.inside c.in-Some.key c.insert.new.self p c.replace-ends.new.dest c.replace-base.new.dest c.take.new.self c.take.ensures.after c.self.invariant k c.replace-base.ensures.value ends there (c.replace-base.ensures.after ∙ c.rows-end.ensures.rows) whole).1
    ∙ ap (λ (v : Store). record v { sealed = sealed_with v.sealed v.building; building = None }) c.self.view_is

pub returns-clause-place : goal.returns-clause-place
returns-clause-place c = let n = sealed_count c.self.inside _ c.self.view_is in omega (arith, n, c.len-id.ensures.len)
