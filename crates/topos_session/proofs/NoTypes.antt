-- Statements that count no type.
use Rattle.std.proofs.Common.{◌≡◌, ℕ, ◌≤◌, true, List, [], ◌++◌, refl, sym, ap, subst, ◌∙◌, arith}
use Rattle.std.proofs.lemmas.List.{append-nil}
use Rattle.topos_model.specs.declared.context.MapTy.{MapTy}
use Rattle.topos_model.specs.declared.stmt.Stmt.{Stmt}
use Rattle.topos_model.specs.declared.stmt.Stmt.TheVariants.{Presheaf, Map, Product, Coproduct, Equalizer, Coequalizer, Pullback, Pushout, Image, Empty, Sheaf, Hom}
use Rattle.topos_model.specs.declared.raw.RawFunctor.{RawFunctor}
use Rattle.topos_model.specs.declared.raw.RawMap.{RawMap}
use Rattle.topos_model.specs.statements.Needs.{needs, types_of, terms_of}
use Rattle.sealed_world.specs.SealedWorlds.{world_cells, cells_with, counted_cells, IsGrownBy}
use Rattle.sealed_world.proofs.Growing.{not_grown}
use Rattle.formula_answers.specs.MapTables.{ends_of}
use Rattle.topos_session.specs.declared.declarations.Declarations.{Declarations}
use Rattle.topos_session.specs.Constructions.{is_construction}
use Rattle.topos_session.specs.Statements.{AreSealedFor}

pub needs-Presheaf : (maps : List MapTy) (functor : ℕ) (raw : RawFunctor) → needs maps (Presheaf functor raw) ≡ []
unfolding needs types_of terms_of
needs-Presheaf maps functor raw = refl

pub needs-Map : (maps : List MapTy) (m x y : ℕ) (raw : RawMap) → needs maps (Map m x y raw) ≡ []
unfolding needs types_of terms_of
needs-Map maps m x y raw = refl

pub needs-Sheaf : (maps : List MapTy) (under x : ℕ) → needs maps (Sheaf under x) ≡ []
unfolding needs types_of terms_of
needs-Sheaf maps under x = refl

pub needs-Hom : (maps : List MapTy) (x y : ℕ) → needs maps (Hom x y) ≡ []
unfolding needs types_of terms_of
needs-Hom maps x y = refl

pub needs-construction : (maps : List MapTy) (stmt : Stmt) → is_construction stmt ≡ true → needs maps stmt ≡ []
unfolding needs types_of terms_of is_construction
needs-construction maps (Product x y z p q) kind = refl
needs-construction maps (Coproduct x y z p q) kind = refl
needs-construction maps (Equalizer m n z i) kind = refl
needs-construction maps (Coequalizer m n z i) kind = refl
needs-construction maps (Pullback m n z p q) kind = refl
needs-construction maps (Pushout m n z p q) kind = refl
needs-construction maps (Image m z p q) kind = refl
needs-construction maps (Empty z) kind = refl
needs-construction maps _ kind = cc

module _ (so : Declarations) (stmt : Stmt) (none : needs (ends_of so.maps) stmt ≡ []) where
  -- nothing is to be sealed, and nothing costs more
  pub sealed_already : AreSealedFor stmt so so
  sealed_already = record {
    maps = refl;
    types = subst (λ l. IsGrownBy l so.world so.world) (sym none) (record { grown = not_grown [] so.world; all = λ T i u. absurd i });
  }

  pub types_free : world_cells so.world ≤ so.world.budget → cells_with so.world (needs (ends_of so.maps) stmt) ≤ so.world.budget
  types_free fits =
      let w = so.world in
      let same : cells_with w (needs (ends_of so.maps) stmt) ≡ world_cells w =
      ap (λ l. counted_cells w.site w.functors (w.types ++ l) w.charges) none ∙ ap (λ l. counted_cells w.site w.functors l w.charges) (append-nil w.types) in
      omega (arith, same, fits)
