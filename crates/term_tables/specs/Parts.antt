-- What is given to the forms of terms: tables of their parts, and sealed types.
use Rattle.std.specs.Prelude.{◌≡◌, ℕ, ◌<◌, Bool, List, [], ◌∷◌, map, length, get_or}
use Rattle.std.specs.List.{range_with_len}
use Rattle.topos_model.specs.declared.ty.Ty.{Ty, Omega as OmegaType, Two, Pow, Fun}
use Rattle.topos_model.specs.declared.value.Val.{Star, Sv}
use Rattle.topos_model.specs.declared.term.Term.{Term, Lam, Compr}
use Rattle.topos_model.specs.declared.context.MapTy.{MapTy}
use Rattle.topos_model.specs.formulas.Forcing.{World, values, value, forces}
use Rattle.topos_model.specs.formulas.TermLaws.{IsWorld, image}
use Rattle.functor_store.specs.Store.{Store, functor_at}
use Rattle.functor_store.specs.Faithful.{Holds, Stands, IsFaithful}
use Rattle.forcing_laws.specs.ForcingLaws.{AtTuples, HasElements, forcing_sieve}
use Rattle.topos_model.specs.categories.Category.{Category, has}
use Rattle.topos_model.specs.types.Values.{arrows_of}
use Rattle.omega_object.specs.declared.omega.Omega.{Omega}
use Rattle.omega_object.specs.TruthValues.{closed_sieves}
use Rattle.omega_object.specs.Tables.{IsOmegaOn}
use Rattle.finite_lists.specs.Members.{In}
use Rattle.truth_tables.specs.Tables.{number}
use Rattle.truth_tables.specs.Standing.{counts, IsNumberTable, IsTruthTable}
use Rattle.site_stages.specs.declared.stages.Stages.{Stages}
use Rattle.formula_tables.specs.Formulas.{IsContext}

-- the functor id is that of the type
pub record IsSealed (store : Store) (T : Ty) (id : ℕ) : Type 0 where
  pub low : id < length store.sealed
  pub key : (functor_at store.sealed id).key ≡ T

-- a lawful world, a store that is faithful to its site and its functors, and the numbers of tuples of a context
pub record IsKnown (w : World) (Γ : List Ty) (store : Store) (sizes : List ℕ) : Type 0 where
  pub lawful : (maps : List MapTy) × IsWorld w maps
  pub faithful : IsFaithful w.site w.functors store
  pub counted : sizes ≡ counts w Γ

-- how many elements a type has at each object
abbrev pub AreWidths : World → Ty → List ℕ → Type 0
AreWidths w T widths = widths ≡ map (λ c. length (values w T c)) (range_with_len 0 w.site.category.objects)

-- terms of the factors of a product that is sealed
pub record ArePairParts (w : World) (Γ : List Ty) (S T : Ty) (t u : Term) (store : Store) (sizes widths : List ℕ) (left right : List (List ℕ)) : Type 0 where
  pub context : IsKnown w Γ store sizes
  pub product : Holds store (Two S T)
  pub factor : AreWidths w T widths
  pub left_stands : IsNumberTable w Γ S (value w t) left
  pub right_stands : IsNumberTable w Γ T (value w u) right

-- a term of a product
pub record IsPairTable (w : World) (Γ : List Ty) (S T : Ty) (t : Term) (sizes widths : List ℕ) (tuples : List (List ℕ)) : Type 0 where
  pub counted : sizes ≡ counts w Γ
  pub factor : AreWidths w T widths
  pub stands : IsNumberTable w Γ (Two S T) (value w t) tuples

-- for each object, and each element of the domain there, the number of its image under the map m
pub record AreImages (w : World) (m : ℕ) (S T : Ty) (images : List (List ℕ)) : Type 0 where
  pub objects : length images ≡ w.site.category.objects
  pub elements : (c : ℕ) → c < w.site.category.objects → length (get_or images c []) ≡ length (values w S c)
  pub stand : (c k : ℕ) → c < w.site.category.objects → k < length (values w S c) → Stands w.site w.functors T c (number images c k) (image w m c (get_or (values w S c) k Star))

-- a term of the domain of a map
pub record AreMapParts (w : World) (Γ : List Ty) (m : ℕ) (S T : Ty) (t : Term) (sizes : List ℕ) (images arguments : List (List ℕ)) : Type 0 where
  pub counted : sizes ≡ counts w Γ
  pub map_stands : AreImages w m S T images
  pub arguments_stand : IsNumberTable w Γ S (value w t) arguments

-- two terms of one type
pub record AreAlike (w : World) (Γ : List Ty) (T : Ty) (t u : Term) (sizes : List ℕ) (left right : List (List ℕ)) : Type 0 where
  pub counted : sizes ≡ counts w Γ
  pub left_stands : IsNumberTable w Γ T (value w t) left
  pub right_stands : IsNumberTable w Γ T (value w u) right

-- a term of a function type that is sealed, and one of its domain
pub record AreFunctionParts (w : World) (Γ : List Ty) (S T : Ty) (t u : Term) (store : Store) (id : ℕ) (sizes : List ℕ) (functions arguments : List (List ℕ)) : Type 0 where
  pub context : IsKnown w Γ store sizes
  pub type : IsSealed store (Fun S T) id
  pub functions_stand : IsNumberTable w Γ (Fun S T) (value w t) functions
  pub arguments_stand : IsNumberTable w Γ S (value w u) arguments

-- a term, and one of the power of its type, which is sealed
pub record AreMemberParts (w : World) (Γ : List Ty) (T : Ty) (t u : Term) (store : Store) (id : ℕ) (sizes : List ℕ) (elements subsets : List (List ℕ)) : Type 0 where
  pub context : IsKnown w Γ store sizes
  pub type : IsSealed store (Pow T) id
  pub elements_stand : IsNumberTable w Γ T (value w t) elements
  pub subsets_stand : IsNumberTable w Γ (Pow T) (value w u) subsets

-- a term of truth values, which is forced where its value holds the identity
pub record AreTruthValues (w : World) (Γ : List Ty) (t : Term) (Ω : Omega) (sizes : List ℕ) (numbers : List (List ℕ)) : Type 0 where
  pub counted : sizes ≡ counts w Γ
  pub truth_values : IsOmegaOn w.site Ω
  pub identity : AtTuples w Γ (λ c a. forces w t c a ≡ has c (arrows_of (value w t c a)))
  pub stands : IsNumberTable w Γ OmegaType (value w t) numbers

-- a term with one more variable, the values of that variable, and the function type, which is sealed; the functions are elements of it
pub record IsFunctionBody (w : World) (Γ : List Ty) (S T : Ty) (t : Term) (stages : Stages) (store : Store) (context id : ℕ) (sizes widths : List ℕ) (body : List (List ℕ)) : Type 0 where
  pub known : IsContext w Γ stages store context sizes
  pub variable : AreWidths w S widths
  pub type : IsSealed store (Fun S T) id
  pub stands : IsNumberTable w (S ∷ Γ) T (value w t) body
  pub elements : HasElements w Γ (Fun S T) (value w (Lam S t))

-- a formula with one more variable, the values of that variable, and the power of its type, which is sealed; the subsets are elements of it
pub record IsSubsetBody (w : World) (Γ : List Ty) (T : Ty) (φ : Term) (stages : Stages) (store : Store) (context id : ℕ) (sizes inner widths : List ℕ) (body : List (List Bool)) : Type 0 where
  pub known : IsContext w Γ stages store context sizes
  pub counted : inner ≡ counts w (T ∷ Γ)
  pub variable : AreWidths w T widths
  pub type : IsSealed store (Pow T) id
  pub stands : IsTruthTable w (T ∷ Γ) (forces w φ) body
  pub elements : HasElements w Γ (Pow T) (value w (Compr T φ))

-- a formula over a sealed context, of which the value is the closed sieve of the arrows along which it is forced
pub record AreForced (w : World) (Γ : List Ty) (φ : Term) (k : Category) (Ω : Omega) (stages : Stages) (store : Store) (context : ℕ) (sizes : List ℕ) (truths : List (List Bool)) : Type 0 where
  pub known : IsContext w Γ stages store context sizes
  pub category : w.site.category ≡ k
  pub truth_values : IsOmegaOn w.site Ω
  pub sieves : AtTuples w Γ (λ c a. (value w φ c a ≡ Sv (forcing_sieve w Γ (forces w φ) c a)) × In (closed_sieves w.site c) (forcing_sieve w Γ (forces w φ) c a))
  pub stands : IsTruthTable w Γ (forces w φ) truths
