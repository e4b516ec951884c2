-- The rows of the elements of a type, with their restrictions by number, as a store takes them.
use Rattle.std.specs.Prelude.{◌≡◌, ℕ, ◌+◌, ◌*◌, ◌<◌, List, [], ◌∷◌, ◌++◌, length, get_or}
use Rattle.topos_model.specs.declared.ty.Ty.{Ty, Base}
use Rattle.topos_model.specs.declared.value.Val.{Val, Star}
use Rattle.finite_lists.specs.Members.{In}
use Rattle.topos_model.specs.categories.Category.{into, dom}
use Rattle.topos_model.specs.topologies.Cover.{Site}
use Rattle.topos_model.specs.types.Types.{Presheaf, elements, restr}
use Rattle.topos_model.specs.statements.Needs.{parts}
use Rattle.functor_store.specs.Store.{Functor, Store}
use Rattle.functor_store.specs.Faithful.{Holds, Stands, IsRow}
use Rattle.sealed_functors.specs.declared.rows.ElementRows.{ElementRows}
use Rattle.sealed_functors.specs.Rows.{part, rows_at}

-- a functor is sealed under the type, last
abbrev pub IsAdded : Ty → Store → Store → Type 0
IsAdded T old new = (F : Functor) × (F.key ≡ T) × (new ≡ record old { sealed = old.sealed ++ F ∷ [] })

-- the functors that the type names are sealed
abbrev pub HoldsNamed : Store → Ty → Type 0
HoldsNamed store T = (n : ℕ) → In (parts T) (Base n) → Holds store (Base n)

module _ (s : Site) (functors : List Presheaf) where
  -- the element number k of the type at c
  abbrev pub value_at : Ty → ℕ → ℕ → Val
  value_at T c k = get_or (elements s functors T c) k Star

  -- the elements of the type at c, in order: the row of each, and for each arrow into c the number of its restriction
  pub record AreRowsAt (T : Ty) (c : ℕ) (r : ElementRows) : Type 0 where
    pub count : r.count ≡ length (elements s functors T c)
    pub arrows : r.arrows ≡ length (into s.category c)
    pub rows_long : length r.rows ≡ r.count * r.width
    pub restrictions_long : length r.restrictions ≡ r.count * r.arrows
    pub rows : (k : ℕ) → k < r.count → IsRow s functors T c (value_at T c k) (part r.width r.rows k)
    pub numbers : (k i : ℕ) → k < r.count → i < length (into s.category c) →
        Stands s functors T (dom s.category (get_or (into s.category c) i 0)) (get_or r.restrictions (k * length (into s.category c) + i) 0)
        (restr s functors T (get_or (into s.category c) i 0) (value_at T c k))

  -- the same at each object
  pub record AreTypeRows (T : Ty) (at : List ElementRows) : Type 0 where
    pub objects : length at ≡ s.category.objects
    pub rows : (c : ℕ) → c < s.category.objects → AreRowsAt T c (rows_at at c)
