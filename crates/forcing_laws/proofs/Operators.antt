-- Locally and always: what holds along a cover, and along all arrows; and the rows of the forcing table.
use Rattle.std.proofs.Common.{◌≡◌, ℕ, ◌<◌, Bool, true, false, ◌||◌, not, List, ◌∷◌, refl, sym, ◌∙◌, subst}
use Rattle.std.specs.List.{list_any, list_all}
use Rattle.topos_model.specs.declared.ty.Ty.{Ty}
use Rattle.topos_model.specs.declared.context.MapTy.{MapTy}
use Rattle.finite_lists.specs.Members.{In}
use Rattle.topos_model.specs.categories.Category.{Category, into, dom, compose}
use Rattle.topos_model.specs.topologies.Cover.{covers}
use Rattle.topos_model.specs.Laws.{IsInto}
use Rattle.topos_model.specs.topologies.LeastCovers.{least}
use Rattle.topos_model.specs.formulas.Forcing.{World, Assigned, Property, values, along, or_forced, exists_forced, implies_forced, not_forced, forall_forced, falsity_forced, and_forced, locally, always}
use Rattle.finite_lists.proofs.Lists.{all_each, each_all}
use Rattle.topologies.proofs.SomeCovers.{some_cover}
use Rattle.type_laws.proofs.Stages.{both_true, true_both, modus, assume}
use Rattle.topos_model.proofs.ArrowsInto.{In-into, In-into_from}
use Rattle.type_laws.proofs.LeastCovers.{arrow}
use Rattle.topos_model.specs.formulas.TermLaws.{IsWorld}
use Rattle.forcing_laws.proofs.Tuples.{Tuple, type_presheaf, least_cover, source_low, tuple_along, tuple_bound, at_composite, at_identity}
use Rattle.forcing_laws.proofs.Properties.{IsKept, IsGlued, IsProperty}

module _ (w : World) {maps : List MapTy} (world : IsWorld w maps) where
  abbrev k : Category
  k = w.site.category

  pub least_arrow : (c f : ℕ) → In (least w.site c) f → IsInto w.site.category c f
  least_arrow c f h = arrow w.site world.category (least w.site) (least_cover w world) c f h

  -- what holds along some cover holds along the least one
  on_least : (c : ℕ) (p : ℕ → Bool) → c < w.site.category.objects → list_any (λ cover. list_all p cover) (covers w.site c) ≡ true → (f : ℕ) → In (least w.site c) f → p f ≡ true
  on_least c p low h f i = all_each p (least w.site c) f (sym (some_cover w.site c p world.category world.topology low) ∙ h) i

  from_least : (c : ℕ) (p : ℕ → Bool) → c < w.site.category.objects → ((f : ℕ) → In (least w.site c) f → p f ≡ true) → list_any (λ cover. list_all p cover) (covers w.site c) ≡ true
  from_least c p low h = some_cover w.site c p world.category world.topology low ∙ each_all p (least w.site c) h

  pub locally_property : (Γ : List Ty) (φ : Property) → IsProperty w Γ (locally w φ)
  unfolding locally
  locally_property Γ φ = record {
    monotone = λ c f a t i h.
        from_least (dom k f) _ (source_low w world c f i) (λ g j.
        sym (at_composite w world φ Γ c f g a t i (least_arrow (dom k f) g j))
        ∙ on_least c (λ f. φ (dom k f) (along w f a)) t.low h (compose k f g) ((least_cover w world).sink c f g i j));
    local = λ c a t h.
        from_least c _ t.low (λ m l.
        let p = (least_cover w world).split c m l in
        let i = least_arrow c p.0 p.2 in
        subst (λ m. φ (dom k m) (along w m a) ≡ true) p.4
        (at_composite w world φ Γ c p.0 p.1 a t i (least_arrow (dom k p.0) p.1 p.3)
        ∙ on_least (dom k p.0) (λ g. φ (dom k g) (along w g (along w p.0 a))) (source_low w world c p.0 i) (h p.0 p.2) p.1 p.3));
  }

  pub always_monotone : (Γ : List Ty) (φ : Property) → IsKept w Γ (always w φ)
  unfolding always
  always_monotone Γ φ c f a t i h =
      each_all _ (into k (dom k f)) (λ g j.
      let j' = In-into_from k (dom k f) g j in
      sym (at_composite w world φ Γ c f g a t i j')
      ∙ all_each (λ f. φ (dom k f) (along w f a)) (into k c) (compose k f g) h (In-into k c (compose k f g) (world.category.composite c f g i j').0))

  pub always_here : (Γ : List Ty) (φ : Property) (c : ℕ) (a : Assigned) → Tuple w Γ c a → always w φ c a ≡ true → φ c a ≡ true
  unfolding always
  always_here Γ φ c a t h =
      sym (at_identity w world φ Γ c a t) ∙ all_each (λ f. φ (dom k f) (along w f a)) (into k c) c h (In-into k c c (world.category.identity c t.low).0)

  pub always_property : (Γ : List Ty) (φ : Property) → IsGlued w Γ φ → IsProperty w Γ (always w φ)
  unfolding always
  always_property Γ φ local = record {
    monotone = always_monotone Γ φ;
    local = λ c a t h.
        each_all _ (into k c) (λ m l.
        let i = In-into_from k c m l in
        local (dom k m) (along w m a) (tuple_along w world Γ c m a t i) (λ g j.
        let b = least_arrow (dom k m) g j in
        let n = (world.category.composite c m g i b).0 in
        sym (at_composite w world φ Γ c m g a t i b)
        ∙ always_here Γ φ (dom k (compose k m g)) (along w (compose k m g) a) (tuple_along w world Γ c (compose k m g) a t n)
        (h (compose k m g) ((least_cover w world).sink c m g i j))));
  }

  -- the rows
  pub truth_property : (Γ : List Ty) → IsProperty w Γ (λ c a. true)
  truth_property Γ = record { monotone = λ c f a t i h. refl; local = λ c a t h. refl }

  pub and_property : (Γ : List Ty) (φ ψ : Property) → IsProperty w Γ φ → IsProperty w Γ ψ → IsProperty w Γ (and_forced w φ ψ)
  unfolding and_forced
  and_property Γ φ ψ p q = record {
    monotone = λ c f a t i h.
        let b = both_true _ _ h in
        true_both _ _ (p.monotone c f a t i b.0) (q.monotone c f a t i b.1);
    local = λ c a t h. true_both _ _ (p.local c a t (λ f i. (both_true _ _ (h f i)).0)) (q.local c a t (λ f i. (both_true _ _ (h f i)).1));
  }

  pub or_property : (Γ : List Ty) (φ ψ : Property) → IsProperty w Γ (or_forced w φ ψ)
  unfolding or_forced
  or_property Γ φ ψ = locally_property Γ (λ c a. φ c a || ψ c a)

  pub exists_property : (Γ : List Ty) (T : Ty) (φ : Property) → IsProperty w Γ (exists_forced w T φ)
  unfolding exists_forced
  exists_property Γ T φ = locally_property Γ (λ c a. list_any (λ b. φ c ((T, b) ∷ a)) (values w T c))

  implied_local : (Γ : List Ty) (φ ψ : Property) → IsKept w Γ φ → IsGlued w Γ ψ → IsGlued w Γ (λ c a. not (φ c a) || ψ c a)
  implied_local Γ φ ψ monotone local c a t h =
      assume _ _ (λ e. local c a t (λ f i. modus _ _ (h f i) (monotone c f a t (least_arrow c f i) e)))

  pub implies_property : (Γ : List Ty) (φ ψ : Property) → IsProperty w Γ φ → IsProperty w Γ ψ → IsProperty w Γ (implies_forced w φ ψ)
  unfolding implies_forced
  implies_property Γ φ ψ p q = always_property Γ (λ c a. not (φ c a) || ψ c a) (implied_local Γ φ ψ p.monotone q.local)

  pub falsity_property : (Γ : List Ty) → IsProperty w Γ (falsity_forced w)
  unfolding falsity_forced
  falsity_property Γ = locally_property Γ (λ c a. false)

  pub not_property : (Γ : List Ty) (φ : Property) → IsProperty w Γ φ → IsProperty w Γ (not_forced w φ)
  unfolding not_forced
  not_property Γ φ p = always_property Γ (λ c a. not (φ c a) || falsity_forced w c a) (implied_local Γ φ (falsity_forced w) p.monotone (falsity_property Γ).local)

  pub forall_property : (Γ : List Ty) (T : Ty) (φ : Property) → IsProperty w (T ∷ Γ) φ → IsProperty w Γ (forall_forced w T φ)
  unfolding forall_forced along
  forall_property Γ T φ p =
      always_property Γ (λ c a. list_all (λ b. φ c ((T, b) ∷ a)) (values w T c)) (λ c a t h.
      each_all _ (values w T c) (λ b i.
      p.local c ((T, b) ∷ a) (tuple_bound w world Γ T c a b t i) (λ f j.
      all_each (λ b. φ (dom k f) ((T, b) ∷ along w f a)) (values w T (dom k f)) _ (h f j) ((type_presheaf w world T).within c f b (least_arrow c f j) i))))
