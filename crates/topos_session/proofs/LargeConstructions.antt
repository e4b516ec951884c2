-- What has a universal property and more cells than the budget.
use Rattle.std.proofs.Common.{◌≡◌, ℕ, Bool, true, false, cond, ◌&&◌, List, Option, Some, None, refl, ap}
use Rattle.topos_model.specs.declared.context.MapTable.{MapTable}
use Rattle.topos_model.specs.categories.Category.{Category}
use Rattle.topos_model.specs.statements.Needs.{named}
use Rattle.topos_model.specs.types.Types.{Presheaf}
use Rattle.topos_model.specs.presheaves.Maps.{Components}
use Rattle.natural_maps.specs.declared.made.Made1.{Made1}
use Rattle.natural_maps.specs.declared.made.Made1.TheVariants as one
use Rattle.natural_maps.specs.declared.made.Made2.{Made2}
use Rattle.natural_maps.specs.declared.made.Made2.TheVariants as two
use Rattle.natural_maps.specs.Made.{IfOver1, IfOver2}
use Rattle.natural_maps.specs.Room.{IsOverRoom}
use Rattle.topos_session.specs.declared.declarations.FunctorMap.{FunctorMap}
use Rattle.topos_session.specs.Declarations.{is_between, functor_map_of}
use Rattle.topos_session.specs.Constructions.{Property, IsTooLarge}

-- three tests that pass
pub both_between : (a b c : Bool) → a ≡ true → b ≡ true → c ≡ true → (a && b && c) ≡ true
both_between true true true p q r = refl
both_between false b c p q r = cc
both_between true false c p q r = cc
both_between true true false p q r = cc

-- the map of a table that goes between functors, and of one that does not
some_if_true : (b : Bool) (x y : FunctorMap) → Some y ≡ cond b (Some x) None → (b ≡ true) × (y ≡ x)
some_if_true true x y e = (refl, ap (λ (o : Option FunctorMap). elim o [ Some z ↦ z | None ↦ y ]) e)
some_if_true false x y e = cc

none_if_false : (b : Bool) (x : FunctorMap) → None ≡ cond b (Some x) None → b ≡ false
none_if_false true x e = cc
none_if_false false x e = refl

pub some_map : (m : MapTable) (map : FunctorMap) → Some map ≡ functor_map_of m → (is_between m ≡ true) × (map ≡ record { dom = named m.ends.dom; cod = named m.ends.cod; map = m.rows })
some_map m map e = some_if_true (is_between m) _ map e

pub no_map : (m : MapTable) → None ≡ functor_map_of m → is_between m ≡ false
no_map m e = none_if_false (is_between m) _ e

module _ (k : Category) (room : ℕ) (fits : Bool) (Q : Property) (parallel : fits ≡ true) where
  pub one_over : (P : Presheaf → Components → Type 0) (maps : Presheaf → Components → List MapTable) → ((Z : Presheaf) (l : Components) → P Z l → Q Z (maps Z l))
      → (made : Made1) → made ≡ one.Over → IfOver1 made ((Z : Presheaf) × (l : Components) × P Z l) → IfOver1 made ((Z : Presheaf) (l : Components) → P Z l → IsOverRoom k room Z)
      → IsTooLarge k room fits Q
  one_over P maps names made is exists over =
      let (Z, l, has) = rw is at exists in
      record { parallel = parallel; functor = Z; maps = maps Z l; property = names Z l has; over = (rw is at over) Z l has }

  pub two_over : (P : Presheaf → Components → Components → Type 0) (maps : Presheaf → Components → Components → List MapTable)
      → ((Z : Presheaf) (l r : Components) → P Z l r → Q Z (maps Z l r))
      → (made : Made2) → made ≡ two.Over → IfOver2 made ((Z : Presheaf) × (l : Components) × (r : Components) × P Z l r)
      → IfOver2 made ((Z : Presheaf) (l r : Components) → P Z l r → IsOverRoom k room Z)
      → IsTooLarge k room fits Q
  two_over P maps names made is exists over =
      let (Z, l, r, has) = rw is at exists in
      record { parallel = parallel; functor = Z; maps = maps Z l r; property = names Z l r has; over = (rw is at over) Z l r has }
