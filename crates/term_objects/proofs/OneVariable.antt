-- A term over one variable, whose type stands alone in a list of types.
use Rattle.std.proofs.Common.{◌≡◌, ◌<◌, ◌^◌, List, [], ◌∷◌, length, get_or, reverse, subst}
use Rattle.finite_lists.specs.Members.{In}
use Rattle.topos_model.specs.declared.ty.Ty.{Ty}
use Rattle.topos_model.specs.declared.term.Term.{Term}
use Rattle.topos_model.specs.declared.context.MapTable.{MapTable}
use Rattle.topos_model.specs.statements.Needs.{parts, product}
use Rattle.functor_store.specs.Faithful.{Holds}
use Rattle.internal_interp.specs.declared.context.Context.{Context}
use Rattle.internal_interp.specs.declared.interpreter.Interpreter.{Interpreter}
use Rattle.internal_interp.specs.Known.{IsScope, IsKnown}
use Rattle.sealed_world.specs.SealedWorlds.{CountedWorld}
use Rattle.formula_answers.specs.MapTables.{ends_of}
use Rattle.formula_answers.specs.Formulas.{world_of, IsTermOver, Serves}
use Rattle.formula_answers.proofs.ServedFormulas.{product_held, known, few_objects}

module _ (w : CountedWorld) (tables : List MapTable) (i : Interpreter) (serves : Serves w tables i) (T : Ty) (t : Term) (U : Ty) (h : IsTermOver w tables (T ∷ []) t U) (types : List Ty) (one : types ≡ T ∷ []) where
  pub held_one : (P : Ty) → In (parts (product (reverse types))) P → Holds i.store.now P
  held_one P p = product_held w tables i serves (T ∷ []) t U h P (subst (λ l. In (parts (product (reverse l))) P) one p)

  module _ (context : Context) (scope : IsScope (world_of w tables) (ends_of tables) i (reverse types) context) where
    pub scope_one : IsScope (world_of w tables) (ends_of tables) i (T ∷ []) context
    scope_one = subst (λ l. IsScope (world_of w tables) (ends_of tables) i (reverse l) context) one scope

    pub few_one : length (get_or context.sizes 0 []) < 2 ^ 32
    few_one = few_objects w tables i serves (T ∷ []) t U h context scope_one

    pub known_one : IsKnown (world_of w tables) (ends_of tables) i (T ∷ []) U context t
    known_one = known w tables i serves (T ∷ []) t U h context scope_one
