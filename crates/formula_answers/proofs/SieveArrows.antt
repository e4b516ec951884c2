-- The arrows of a truth value.
use Rattle.std.proofs.Common.{◌≡◌, ℕ, List, [], refl, sym, ap, ◌∙◌}
use Rattle.topos_model.specs.declared.ty.Ty.{Ty}
use Rattle.topos_model.specs.declared.value.Val.{Val, out-Val, roll-out-Val, Sv}
use Rattle.topos_model.specs.declared.value.Val.TheOpen.{Sv as IsSv}
use Rattle.topos_model.specs.declared.value.Val.TheViews.{roll-Val}
use Rattle.topos_model.specs.declared.value.Val.TheVariants.{rolls-Sv}
use Rattle.topos_model.specs.topologies.Cover.{Site}
use Rattle.topos_model.specs.types.Types.{Presheaf}
use Rattle.topos_model.specs.types.Values.{Layer, arrows_in, arrows_of}
use Rattle.topos_model.proofs.ValueEquations.{arrows_of-Sv}
use Rattle.functor_store.specs.Faithful.{Stands}

-- a number stands for one value
module _ (s : Site) (functors : List Presheaf) (T : Ty) (c k : ℕ) (u v : Val) (given : Stands s functors T c k u) (other : Stands s functors T c k v) where
  same_value : u ≡ v
  same_value = sym given.is ∙ other.is

  pub arrows_as : (arrows : List ℕ) → u ≡ Sv arrows → arrows ≡ arrows_of v
  arrows_as arrows is = sym (arrows_of-Sv arrows) ∙ ap arrows_of (sym is ∙ same_value)

  no_arrows : ((arrows : List ℕ) → u ≡ Sv arrows → ⊥) → arrows_of u ≡ []
  unfolding arrows_of
  no_arrows not = at (out-Val u) (roll-out-Val u)
    where
      at : (d : Layer) → roll-Val d ≡ u → arrows_in d ≡ []
      at (IsSv arrows) e = absurd (not arrows (sym e ∙ rolls-Sv arrows))
      at _ e = refl

  pub none_as : ((arrows : List ℕ) → u ≡ Sv arrows → ⊥) → [] ≡ arrows_of v
  none_as not = sym (no_arrows not) ∙ ap arrows_of same_value
