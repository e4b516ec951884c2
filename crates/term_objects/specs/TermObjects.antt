-- The map of a term and the subobject of a formula, over a site with its presheaves and maps by their tables.
use Rattle.std.specs.Prelude.{◌≡◌, ℕ, Bool, true, List, [], ◌∷◌, map, length, get_or, filter}
use Rattle.std.specs.List.{range_with_len, All}
use Rattle.finite_lists.specs.Members.{In}
use Rattle.topos_model.specs.declared.ty.Ty.{Ty}
use Rattle.topos_model.specs.declared.term.Term.{Term}
use Rattle.topos_model.specs.declared.value.Val.{Val, Star}
use Rattle.topos_model.specs.declared.context.MapTable.{MapTable}
use Rattle.topos_model.specs.categories.Category.{Category, dom}
use Rattle.topos_model.specs.topologies.Cover.{Site}
use Rattle.topos_model.specs.Laws.{IsFunctor, IsInto}
use Rattle.topos_model.specs.types.Types.{Presheaf, elements, restr}
use Rattle.topos_model.specs.formulas.Forcing.{World, values, forces}
use Rattle.topos_model.specs.statements.Cells.{objects_of}
use Rattle.topos_model.specs.statements.Answers.{numbered, satisfying, values_of}
use Rattle.functor_store.specs.Store.{Store}
use Rattle.functor_store.specs.Faithful.{IsFaithful}
use Rattle.term_tables.specs.Parts.{IsSealed}
use Rattle.sealed_world.specs.SealedWorlds.{CountedWorld}
use Rattle.formula_answers.specs.MapTables.{pairs_of, IsMapTable}
use Rattle.formula_answers.specs.Formulas.{world_of}
use Rattle.term_objects.specs.declared.made.Subobject.{Subobject}

-- the map of a term of type U over one variable of type T: each element with the value there (VI.5)
pub record IsTermMap (w : CountedWorld) (tables : List MapTable) (T : Ty) (t : Term) (U : Ty) (m : MapTable) : Type 0 where
  pub ends : m.ends ≡ record { dom = T; cod = U }
  pub pairs : pairs_of w.site w.functors m ≡ map (values_of (world_of w tables) T t) (objects_of w.site.category)
  pub lawful : IsMapTable w.site w.functors m

-- of the elements of a sealed type those for which a property holds, which go to such ones along each arrow
pub record TrueElements (k : Category) (store : Store) (id : ℕ) (truths : List (List Bool)) (s : Site) (functors : List Presheaf) (T : Ty) (p : ℕ → Val → Bool) : Type 0 where
  pub site : k ≡ s.category
  pub lawful : All (IsFunctor s.category) functors
  pub faithful : IsFaithful s functors store
  pub sealed : IsSealed store T id
  pub truths_are : truths ≡ map (λ c. map (p c) (elements s functors T c)) (objects_of s.category)
  pub monotone : (c f : ℕ) (v : Val) → IsInto s.category c f → In (elements s functors T c) v → p c v ≡ true → p (dom s.category f) (restr s functors T f v) ≡ true

module _ (s : Site) (functors : List Presheaf) (T : Ty) (p : ℕ → Val → Bool) where
  abbrev pub kept_elements : ℕ → List Val
  kept_elements c = filter (p c) (elements s functors T c)

  abbrev pub kept_numbers : ℕ → List ℕ
  kept_numbers c = filter (λ x. p c (get_or (elements s functors T c) x Star)) (range_with_len 0 (length (elements s functors T c)))

  -- these by their numbers among themselves, with their numbers among all
  pub record IsPart (made : Subobject) : Type 0 where
    pub functor : made.functor ≡ numbered s.category kept_elements (restr s functors T)
    pub lawful : IsFunctor s.category made.functor
    pub inclusion : made.inclusion ≡ map kept_numbers (objects_of s.category)

-- the numbers of the elements of a type that satisfy a formula, in order
unfoldable pub satisfying_numbers : World → Ty → Term → ℕ → List ℕ
satisfying_numbers w T φ c = filter (λ x. forces w φ c ((T, get_or (values w T c) x Star) ∷ [])) (range_with_len 0 (length (values w T c)))

-- the elements that satisfy a formula, by their numbers among themselves, with their numbers among all elements (VI.5)
pub record IsSubobject (w : CountedWorld) (tables : List MapTable) (T : Ty) (φ : Term) (made : Subobject) : Type 0 where
  pub functor : made.functor ≡ numbered w.site.category (satisfying (world_of w tables) T φ) (restr w.site w.functors T)
  pub lawful : IsFunctor w.site.category made.functor
  pub inclusion : made.inclusion ≡ map (satisfying_numbers (world_of w tables) T φ) (objects_of w.site.category)
