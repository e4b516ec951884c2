-- The elements of a sealed type can be read.
use Rattle.std.proofs.Common.{◌≡◌, ℕ, ◌<◌, length, Some, MatchOption, refl, sym, subst}
use denote.Bor.{Bor}
use Rattle.finite_lists.specs.Members.{In}
use Rattle.topos_model.specs.declared.ty.Ty.{Ty, Base, Omega}
use Rattle.topos_model.specs.topologies.Cover.{Site}
use Rattle.topos_model.specs.types.Types.{elements}
use Rattle.topos_model.specs.statements.Needs.{parts}
use Rattle.topos_model.specs.statements.Cells.{is_named}
use Rattle.functor_store.specs.Faithful.{IsFaithful}
use Rattle.omega_object.specs.declared.omega.Omega.{Omega as TruthValues}
use Rattle.omega_object.specs.Tables.{IsOmegaOn}
use Rattle.element_values.specs.declared.elements.Elements.{Elements}
use Rattle.element_values.specs.Known.{IsReadable, IsElement, Knows}
use Rattle.sealed_world.specs.SealedWorlds.{CountedWorld, HasTypes, IsStoreOf}
use Rattle.term_objects.proofs.SealedPresheaves.{member_held}

module _ (w : CountedWorld) (e : Elements) (site : e.site.now ≡ w.site) (store : IsStoreOf w e.store.now) where
  pub knows : Knows e w.functors
  knows = subst (λ s. IsFaithful s w.functors e.store.now) (sym site) store.faithful

  module _ (T : Ty) (named : (n : ℕ) → In (parts T) (Base n) → n < length w.functors) (counted : HasTypes (parts T) w) (lawful : (Ω : Bor TruthValues) → e.omega ≡ Some Ω → IsOmegaOn w.site Ω.now)
      (there : In w.types Omega → (Ω : Bor TruthValues) × (e.omega ≡ Some Ω)) where
    readable : IsReadable e T
    unfolding is_named
    readable = record {
      held = λ P p. member_held w e.store.now store (parts T) P p named counted;
      omega = λ p.
          let (Ω, is) = there (counted Omega p refl) in
          subst (λ o. MatchOption o ⊥ (λ Ω. IsOmegaOn e.site.now Ω.now)) (sym is) (subst (λ s. IsOmegaOn s Ω.now) (sym site) (lawful Ω is));
    }

    pub element_known : (c x : ℕ) → c < w.site.category.objects → x < length (elements w.site w.functors T c) → IsElement e w.functors T c x
    element_known c x object low = record {
      faithful = knows;
      readable = readable;
      object = subst (λ (s : Site). c < s.category.objects) (sym site) object;
      within = subst (λ s. x < length (elements s w.functors T c)) (sym site) low;
    }
