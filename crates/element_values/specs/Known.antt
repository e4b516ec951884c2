-- What is known of the number of an element of a sealed type or of a tuple, and of a value for it.
use Rattle.std.specs.Prelude.{◌≡◌, ℕ, ◌<◌, List, [], length, get_or, MatchOption}
use Rattle.finite_lists.specs.Members.{In}
use Rattle.topos_model.specs.declared.ty.Ty.{Ty, Omega}
use Rattle.topos_model.specs.declared.value.Val.{Val}
use Rattle.topos_model.specs.types.Types.{Presheaf, elements}
use Rattle.topos_model.specs.statements.Needs.{parts}
use Rattle.topos_model.specs.statements.Answers.{tuple_of}
use Rattle.topos_model.specs.formulas.Forcing.{World, tuples}
use Rattle.functor_store.specs.Faithful.{Holds, IsFaithful, Stands}
use Rattle.omega_object.specs.Tables.{IsOmegaOn}
use Rattle.element_values.specs.declared.elements.Elements.{Elements}

module _ (e : Elements) where
  -- the store is faithful to the site and the functors
  abbrev pub Knows : List Presheaf → Type 0
  Knows functors = IsFaithful e.site.now functors e.store.now

  -- the type is sealed with its parts, and the truth values are there where Omega is one of these
  pub record IsReadable (T : Ty) : Type 0 where
    pub held : (P : Ty) → In (parts T) P → Holds e.store.now P
    pub omega : In (parts T) Omega → MatchOption e.omega ⊥ (λ Ω. IsOmegaOn e.site.now Ω.now)

  -- the type has an element with the number at c
  pub record IsElement (functors : List Presheaf) (T : Ty) (c k : ℕ) : Type 0 where
    pub faithful : Knows functors
    pub readable : IsReadable T
    pub object : c < e.site.now.category.objects
    pub within : k < length (elements e.site.now functors T c)

  -- how many elements the type has at c
  abbrev pub count_of : List Presheaf → Ty → ℕ → ℕ
  count_of functors T c = length (elements e.site.now functors T c)

  -- the number stands for the value
  abbrev pub HasValue : Ty → ℕ → ℕ → Val → Type 0
  HasValue T c k v = (functors : List Presheaf) → Knows functors → Stands e.site.now functors T c k v

  -- a world over the site, to whose functors the store is faithful
  pub record IsWorldOf (w : World) : Type 0 where
    pub site : w.site ≡ e.site.now
    pub faithful : Knows w.functors

  -- the types of the context are sealed with their parts, and there is a tuple with the number at c
  pub record IsTuple (w : World) (Γ : List Ty) (c k : ℕ) : Type 0 where
    pub world : IsWorldOf w
    pub readable : (T : Ty) → In Γ T → IsReadable T
    pub object : c < e.site.now.category.objects
    pub within : k < length (tuples w Γ c)

  -- the values of the tuple, the outermost variable first
  abbrev pub values_at : World → List Ty → ℕ → ℕ → List Val
  values_at w Γ c k = (tuple_of (get_or (tuples w Γ c) k [])).vals
