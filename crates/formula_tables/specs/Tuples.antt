-- The tuples of a context as the elements of its product.
use Rattle.std.specs.Prelude.{◌≡◌, ℕ, ◌<◌, List, length, get_or}
use Rattle.topos_model.specs.declared.ty.Ty.{Ty}
use Rattle.topos_model.specs.formulas.Forcing.{World, onto, source, along, tuples}
use Rattle.functor_store.specs.Store.{Functor, size_at, restrictions_at}
use Rattle.truth_tables.specs.Standing.{tuple_at}
use Rattle.site_stages.specs.Stages.{arrow_at}

module _ (w : World) where
  -- the elements of a functor are the tuples of a context, in order, and restrict as they do
  pub record AreTuples (Γ : List Ty) (F : Functor) : Type 0 where
    pub sizes : (c : ℕ) → c < w.site.category.objects → size_at F c ≡ length (tuples w Γ c)
    pub within : (c i j : ℕ) → c < w.site.category.objects → i < length (tuples w Γ c) → j < length (onto w c) →
        get_or (restrictions_at F c i) j 0 < length (tuples w Γ (source w (arrow_at w.site c j)))
    pub restricted : (c i j : ℕ) → c < w.site.category.objects → i < length (tuples w Γ c) → j < length (onto w c) →
        tuple_at w Γ (source w (arrow_at w.site c j)) (get_or (restrictions_at F c i) j 0) ≡ along w (arrow_at w.site c j) (tuple_at w Γ c i)
