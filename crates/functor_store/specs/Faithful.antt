-- A store that holds what the types of a site have.
use Rattle.std.specs.Prelude.{◌≡◌, ℕ, ◌<◌, List, [], length, get_or, map, cond}
use Rattle.topos_model.specs.declared.ty.Ty.{Ty, Base, Pow', Fun', more_of-Ty as only, end_of-Ty as end}
use Rattle.topos_model.specs.declared.value.Val.{Val, Star}
use Rattle.topos_model.specs.declared.value.Entry.{Entry}
use Rattle.finite_lists.specs.Members.{In}
use Rattle.topos_model.specs.categories.Category.{dom, cod}
use Rattle.topos_model.specs.topologies.Cover.{Site}
use Rattle.topos_model.specs.Laws.{IsFunctor}
use Rattle.topos_model.specs.types.Types.{Presheaf, functor, elements, restr, places, in_entries, at_place}
use Rattle.topos_model.specs.types.Values.{entries_of, assigns_of}
use Rattle.topos_model.specs.statements.Needs.{parts}
use Rattle.functor_store.specs.Store.{Functor, Store, functor_at, size_at, element_at, restriction_along}

-- a functor is sealed under the type
abbrev pub Holds : Store → Ty → Type 0
Holds store T = (id : ℕ) × (id < length store.sealed) × ((functor_at store.sealed id).key ≡ T)

module _ (s : Site) (functors : List Presheaf) where
  -- the number stands for the value among the elements of the type at c
  pub record Stands (T : Ty) (c k : ℕ) (v : Val) : Type 0 where
    pub within : k < length (elements s functors T c)
    pub is : get_or (elements s functors T c) k Star ≡ v

  abbrev pub place_at : Ty → ℕ → ℕ → Entry
  place_at S c i = get_or (places s (elements s functors S) c) i (record { arrow = 0; val = Star })

  -- a number for each place of a function: it stands for the value there
  pub record AreNumbers (S T : Ty) (c : ℕ) (v : Val) (row : List ℕ) : Type 0 where
    pub each_place : length row ≡ length (places s (elements s functors S) c)
    pub values : (i : ℕ) → i < length row →
        Stands T (dom s.category (place_at S c i).arrow) (get_or row i 0) (at_place (place_at S c i).arrow (place_at S c i).val (assigns_of v))

  -- the row of an element: of a subset 1 or 0 for each place, of a function the number of the value at each place, else nothing
  abbrev pub IsRow : Ty → ℕ → Val → List ℕ → Type 0
  IsRow (Pow' _ (only T end)) c v row = row ≡ map (λ e. cond (in_entries e.arrow e.val (entries_of v)) 1 0) (places s (elements s functors T) c)
  IsRow (Fun' _ (only S end) _ (only T end)) c v row = AreNumbers S T c v row
  IsRow T c v row = row ≡ []

  -- the functor has the elements of the type in order, with their restrictions and rows
  pub record HasElements (T : Ty) (F : Functor) : Type 0 where
    pub objects : length F.rows ≡ s.category.objects
    pub sizes : (c : ℕ) → c < s.category.objects → size_at F c ≡ length (elements s functors T c)
    pub restrictions : (f k : ℕ) → f < length s.category.ends → k < size_at F (cod s.category f) →
        Stands T (dom s.category f) (restriction_along s.category.ends F f k) (restr s functors T f (get_or (elements s functors T (cod s.category f)) k Star))
    pub rows : (c k : ℕ) → c < s.category.objects → k < size_at F c → IsRow T c (get_or (elements s functors T c) k Star) (element_at F c k)

  -- the store has the site's objects and arrows, and each sealed type its elements; the functors that a sealed type names are functors and are sealed
  pub record IsFaithful (store : Store) : Type 0 where
    pub objects : store.objects ≡ s.category.objects
    pub ends : store.ends ≡ s.category.ends
    pub named : (n : ℕ) → Holds store (Base n) → (n < length functors) × IsFunctor s.category (functor s functors n)
    pub parts_held : (T : Ty) (n : ℕ) → Holds store T → In (parts T) (Base n) → Holds store (Base n)
    pub held : (id : ℕ) → id < length store.sealed → HasElements (functor_at store.sealed id).key (functor_at store.sealed id)
