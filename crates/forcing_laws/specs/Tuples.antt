-- The tuples of a context: listed, each once, and as the elements of a product (VI.5).
use Rattle.std.specs.Prelude.{◌≡◌, ◌↔◌, ℕ, ◌<◌, List, [], ◌∷◌, map, ⊤}
use Rattle.finite_lists.specs.Members.{In, Distinct}
use Rattle.topos_model.specs.declared.ty.Ty.{Ty}
use Rattle.topos_model.specs.declared.value.Val.{Val, Star, Two}
use Rattle.topos_model.specs.declared.context.MapTy.{MapTy}
use Rattle.topos_model.specs.categories.Category.{compose}
use Rattle.topos_model.specs.Laws.{IsInto}
use Rattle.topos_model.specs.types.Types.{restr}
use Rattle.topos_model.specs.statements.Needs.{product}
use Rattle.topos_model.specs.formulas.Forcing.{World, Assigned, source, values, along, tuples}
use Rattle.topos_model.specs.formulas.TermLaws.{IsWorld}

-- for each type of the context in turn, the innermost first, the type and an element of it at c
abbrev pub AreElements : World → List Ty → ℕ → Assigned → Type 0
AreElements w [] c [] = ⊤
AreElements w [] c (x ∷ a) = ⊥
AreElements w (T ∷ Γ) c [] = ⊥
AreElements w (T ∷ Γ) c (x ∷ a) = (x.0 ≡ T) × In (values w T c) x.1 × AreElements w Γ c a

-- a tuple as one element, by pairs that are nested to the left, the innermost variable last
abbrev pub paired : Assigned → Val
paired [] = Star
paired (x ∷ []) = x.1
paired (x ∷ y ∷ a) = Two (paired (y ∷ a)) x.1

-- the listed tuples are the tuples of elements, each once
pub record ListsTuples (w : World) (Γ : List Ty) (c : ℕ) : Type 0 where
  pub exactly : (a : Assigned) → In (tuples w Γ c) a ↔ AreElements w Γ c a
  pub once : Distinct (tuples w Γ c)

abbrev pub TuplesAreListed : Type 0
TuplesAreListed = (w : World) (Γ : List Ty) (c : ℕ) → ListsTuples w Γ c

-- they are the elements of the product of the context, in the same order, and restrict alike
pub record PairsTuples (w : World) (Γ : List Ty) : Type 0 where
  pub elements : (c : ℕ) → map paired (tuples w Γ c) ≡ values w (product Γ) c
  pub restrictions : (c f : ℕ) (a : Assigned) → In (tuples w Γ c) a → paired (along w f a) ≡ restr w.site w.functors (product Γ) f (paired a)

abbrev pub TuplesAreProducts : Type 0
TuplesAreProducts = (w : World) (Γ : List Ty) → PairsTuples w Γ

-- restricted along an arrow they are tuples, along an identity the same ones, and along a composite along one arrow after the other
pub record RestrictsTuples (w : World) (Γ : List Ty) : Type 0 where
  pub within : (c f : ℕ) (a : Assigned) → IsInto w.site.category c f → In (tuples w Γ c) a → In (tuples w Γ (source w f)) (along w f a)
  pub identity : (c : ℕ) (a : Assigned) → c < w.site.category.objects → In (tuples w Γ c) a → along w c a ≡ a
  pub composite : (c f g : ℕ) (a : Assigned) → IsInto w.site.category c f → IsInto w.site.category (source w f) g → In (tuples w Γ c) a →
      along w g (along w f a) ≡ along w (compose w.site.category f g) a

abbrev pub TuplesArePresheaves : Type 0
TuplesArePresheaves = (w : World) (maps : List MapTy) (Γ : List Ty) → IsWorld w maps → RestrictsTuples w Γ
