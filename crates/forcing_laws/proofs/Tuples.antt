-- Tuples of a context at an object, and how they restrict.
use Rattle.std.proofs.Common.{◌≡◌, ℕ, ◌<◌, List, [], ◌∷◌, refl, sym, ◌∙◌, ap, subst}
use Rattle.topos_model.specs.declared.ty.Ty.{Ty}
use Rattle.topos_model.specs.declared.value.Val.{Val}
use Rattle.finite_lists.specs.Members.{In}
use Rattle.topos_model.specs.categories.Category.{Category, dom, compose}
use Rattle.topos_model.specs.Laws.{IsInto}
use Rattle.topos_model.specs.topologies.LeastCovers.{least}
use Rattle.topos_model.specs.types.Types.{elements, restr}
use Rattle.topos_model.specs.declared.context.MapTy.{MapTy}
use Rattle.topos_model.specs.formulas.Forcing.{World, Assigned, values, along}
use Rattle.topos_model.specs.formulas.TermLaws.{IsWorld}
use Rattle.type_laws.proofs.Places.{IsPresheaf}
use Rattle.type_laws.proofs.Presheaves.{types_presheaf}
use Rattle.type_laws.proofs.LeastCovers.{IsLeast}
use Rattle.type_laws.proofs.TopologyRules.{least_is_least}
use Rattle.forcing_laws.specs.Tuples.{AreElements, RestrictsTuples}
use Rattle.forcing_laws.proofs.TupleLists.{tuples_In, In_tuples}

-- a tuple of a context at an object
pub record Tuple (w : World) (Γ : List Ty) (c : ℕ) (a : Assigned) : Type 0 where
  pub low : c < w.site.category.objects
  pub fits : AreElements w Γ c a

module _ (w : World) {maps : List MapTy} (world : IsWorld w maps) where
  abbrev k : Category
  k = w.site.category

  abbrev rs : Ty → ℕ → Val → Val
  rs T = restr w.site w.functors T

  pub type_presheaf : (T : Ty) → IsPresheaf w.site.category (elements w.site w.functors T) (restr w.site w.functors T)
  type_presheaf T = types_presheaf w.site w.functors world.category world.functors T

  pub least_cover : IsLeast w.site (least w.site)
  least_cover = least_is_least w.site world.category world.topology

  fits_along : (Γ : List Ty) (c f : ℕ) (a : Assigned) → IsInto k c f → AreElements w Γ c a → AreElements w Γ (dom k f) (along w f a)
  unfolding along
  fits_along [] c f [] i h = h
  fits_along [] c f (x ∷ a) i h = absurd h
  fits_along (T ∷ Γ) c f [] i h = absurd h
  fits_along (T ∷ Γ) c f (x ∷ a) i h =
      (h.0, subst (λ U. In (values w T (dom k f)) (rs U f x.1)) (sym h.0) ((type_presheaf T).within c f x.1 i h.1), fits_along Γ c f a i h.2)

  fits_identity : (Γ : List Ty) (c : ℕ) (a : Assigned) → c < k.objects → AreElements w Γ c a → along w c a ≡ a
  unfolding along
  fits_identity [] c [] low h = refl
  fits_identity [] c (x ∷ a) low h = absurd h
  fits_identity (T ∷ Γ) c [] low h = absurd h
  fits_identity (T ∷ Γ) c (x ∷ a) low h =
      let e : rs x.0 c x.1 ≡ x.1 = subst (λ U. rs U c x.1 ≡ x.1) (sym h.0) ((type_presheaf T).identity c x.1 low h.1) in
      rw (e, fits_identity Γ c a low h.2) refl

  fits_composite : (Γ : List Ty) (c f g : ℕ) (a : Assigned) → IsInto k c f → IsInto k (dom k f) g → AreElements w Γ c a → along w g (along w f a) ≡ along w (compose k f g) a
  unfolding along
  fits_composite [] c f g [] i j h = refl
  fits_composite [] c f g (x ∷ a) i j h = absurd h
  fits_composite (T ∷ Γ) c f g [] i j h = absurd h
  fits_composite (T ∷ Γ) c f g (x ∷ a) i j h =
      let e : rs x.0 g (rs x.0 f x.1) ≡ rs x.0 (compose k f g) x.1 =
      subst (λ U. rs U g (rs U f x.1) ≡ rs U (compose k f g) x.1) (sym h.0) ((type_presheaf T).composite c f g x.1 i j h.1) in
      rw (e, fits_composite Γ c f g a i j h.2) refl

  -- the source of an arrow
  pub source_low : (c f : ℕ) → IsInto w.site.category c f → dom w.site.category f < w.site.category.objects
  source_low c f i = (world.category.ends f i.0).0

  pub tuple_along : (Γ : List Ty) (c f : ℕ) (a : Assigned) → Tuple w Γ c a → IsInto w.site.category c f → Tuple w Γ (dom w.site.category f) (along w f a)
  tuple_along Γ c f a t i = record { low = source_low c f i; fits = fits_along Γ c f a i t.fits }

  pub tuple_bound : (Γ : List Ty) (T : Ty) (c : ℕ) (a : Assigned) (v : Val) → Tuple w Γ c a → In (values w T c) v → Tuple w (T ∷ Γ) c ((T, v) ∷ a)
  tuple_bound Γ T c a v t h = record { low = t.low; fits = (refl, h, t.fits) }

  -- what speaks of an object and a tuple, at a composite and at an identity
  pub at_composite : {A : Type 0} (Φ : ℕ → Assigned → A) (Γ : List Ty) (c f g : ℕ) (a : Assigned) → Tuple w Γ c a → IsInto w.site.category c f → IsInto w.site.category (dom w.site.category f) g →
      Φ (dom w.site.category (compose w.site.category f g)) (along w (compose w.site.category f g) a) ≡ Φ (dom w.site.category g) (along w g (along w f a))
  at_composite Φ Γ c f g a t i j =
      ap (λ d. Φ d (along w (compose k f g) a)) (world.category.composite c f g i j).1 ∙ ap (Φ (dom k g)) (sym (fits_composite Γ c f g a i j t.fits))

  pub at_identity : {A : Type 0} (Φ : ℕ → Assigned → A) (Γ : List Ty) (c : ℕ) (a : Assigned) → Tuple w Γ c a → Φ (dom w.site.category c) (along w c a) ≡ Φ c a
  at_identity Φ Γ c a t = ap (λ d. Φ d (along w c a)) (world.category.identity c t.low).1 ∙ ap (Φ c) (fits_identity Γ c a t.low t.fits)

  -- (a, v).f is (a.f, v.f)
  pub bound_along : (T : Ty) (f : ℕ) (v : Val) (a : Assigned) → along w f ((T, v) ∷ a) ≡ (T, restr w.site w.functors T f v) ∷ along w f a
  unfolding along
  bound_along T f v a = refl

  pub tuples_restrict : (Γ : List Ty) → RestrictsTuples w Γ
  tuples_restrict Γ = record {
    within = λ c f a i m. tuples_In w Γ (dom k f) (along w f a) (fits_along Γ c f a i (In_tuples w Γ c a m));
    identity = λ c a low m. fits_identity Γ c a low (In_tuples w Γ c a m);
    composite = λ c f g a i j m. fits_composite Γ c f g a i j (In_tuples w Γ c a m);
  }
