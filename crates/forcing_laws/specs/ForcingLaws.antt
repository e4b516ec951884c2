-- Values of terms and Kripke-Joyal forcing: the theorem (VI.5 to VI.7).
use Rattle.std.specs.Prelude.{◌≡◌, ℕ, ◌<◌, true, List, filter, Ok}
use Rattle.finite_lists.specs.Members.{In}
use Rattle.topos_model.specs.declared.ty.Ty.{Ty, Omega}
use Rattle.topos_model.specs.declared.term.Term.{Term}
use Rattle.topos_model.specs.declared.value.Val.{Val, Sv}
use Rattle.topos_model.specs.declared.context.MapTy.{MapTy}
use Rattle.topos_model.specs.categories.Category.{has, sieves}
use Rattle.topos_model.specs.topologies.Cover.{covers}
use Rattle.topos_model.specs.Laws.{IsInto}
use Rattle.topos_model.specs.types.Types.{restr, is_closed_sieve}
use Rattle.topos_model.specs.types.Values.{arrows_of}
use Rattle.topos_model.specs.statements.Needs.{term_needs}
use Rattle.topos_model.specs.formulas.Typing.{typed}
use Rattle.topos_model.specs.formulas.Forcing.{World, Assigned, Property, onto, source, values, along, value, forces, tuples}
use Rattle.topos_model.specs.formulas.TermLaws.{IsWorld, NameSheaves}

module _ (w : World) (Γ : List Ty) where
  -- a claim at each object and each tuple of the context there
  abbrev pub AtTuples : (ℕ → Assigned → Type 0) → Type 0
  AtTuples claim = (c : ℕ) (a : Assigned) → c < w.site.category.objects → In (tuples w Γ c) a → claim c a

  -- each value is an element of the type
  abbrev pub HasElements : Ty → (ℕ → Assigned → Val) → Type 0
  HasElements U v = AtTuples (λ c a. In (values w U c) (v c a))

  -- the value at a.f is the restriction of the value at a
  abbrev pub Restricts : Ty → (ℕ → Assigned → Val) → Type 0
  Restricts U v = AtTuples (λ c a. (f : ℕ) → IsInto w.site.category c f → v (source w f) (along w f a) ≡ restr w.site w.functors U f (v c a))

  -- what is forced at c is forced along each arrow into c
  abbrev pub IsMonotone : Property → Type 0
  IsMonotone φ = AtTuples (λ c a. (f : ℕ) → IsInto w.site.category c f → φ c a ≡ true → φ (source w f) (along w f a) ≡ true)

  -- what is forced along all arrows of a cover of c is forced at c
  abbrev pub IsLocal : Property → Type 0
  IsLocal φ = AtTuples (λ c a. (S : List ℕ) → In (covers w.site c) S → ((f : ℕ) → In S f → φ (source w f) (along w f a) ≡ true) → φ c a ≡ true)

  -- the arrows into c along which it is forced
  abbrev pub forcing_sieve : Property → ℕ → Assigned → List ℕ
  forcing_sieve φ c a = filter (λ f. φ (source w f) (along w f a)) (onto w c)

-- a claim on each term with a type, in a lawful world in which the functors that its types name are sheaves
abbrev pub OfTerms : (World → List Ty → Term → Ty → Type 0) → Type 0
OfTerms claim =
    (w : World) (maps : List MapTy) (Γ : List Ty) (t : Term) (U : Ty) → IsWorld w maps → typed maps Γ t ≡ Ok U → NameSheaves w (term_needs maps Γ t) → claim w Γ t U

-- a claim on each formula there
abbrev pub OfFormulas : (World → List Ty → Term → Type 0) → Type 0
OfFormulas claim =
    (w : World) (maps : List MapTy) (Γ : List Ty) (φ : Term) → IsWorld w maps → typed maps Γ φ ≡ Ok Omega → NameSheaves w (term_needs maps Γ φ) → claim w Γ φ

-- a term is a natural map from the tuples of its context to its type
abbrev pub ValuesAreElements : Type 0
ValuesAreElements = OfTerms (λ w Γ t U. HasElements w Γ U (value w t))

abbrev pub ValuesRestrict : Type 0
ValuesRestrict = OfTerms (λ w Γ t U. Restricts w Γ U (value w t))

-- a formula is forced monotonely and locally
abbrev pub ForcingIsMonotone : Type 0
ForcingIsMonotone = OfFormulas (λ w Γ φ. IsMonotone w Γ (forces w φ))

abbrev pub ForcingIsLocal : Type 0
ForcingIsLocal = OfFormulas (λ w Γ φ. IsLocal w Γ (forces w φ))

-- its value is the sieve of the arrows along which it is forced, which is closed
abbrev pub ValuesAreForcingSieves : Type 0
ValuesAreForcingSieves =
    OfFormulas (λ w Γ φ. AtTuples w Γ (λ c a.
    (value w φ c a ≡ Sv (forcing_sieve w Γ (forces w φ) c a)) × In (filter (is_closed_sieve w.site c) (sieves w.site.category c)) (forcing_sieve w Γ (forces w φ) c a)))

-- and it is forced exactly where its value holds the identity
abbrev pub ForcedAtIdentity : Type 0
ForcedAtIdentity = OfFormulas (λ w Γ φ. AtTuples w Γ (λ c a. forces w φ c a ≡ has c (arrows_of (value w φ c a))))
