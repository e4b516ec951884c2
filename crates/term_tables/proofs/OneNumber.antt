-- A value has one number.
use Rattle.std.proofs.Common.{◌≡◌, ℕ, List, sym, ap, ◌∙◌}
use Rattle.topos_model.specs.declared.ty.Ty.{Ty}
use Rattle.topos_model.specs.declared.value.Val.{Val, Star}
use Rattle.topos_model.specs.topologies.Cover.{Site}
use Rattle.topos_model.specs.types.Types.{Presheaf, elements}
use Rattle.functor_store.specs.Faithful.{Stands}
use Rattle.type_laws.specs.Numbered.{place_of}
use Rattle.type_laws.proofs.Numbering.{place_of_at}
use Rattle.type_laws.proofs.Presheaves.{Distinct-elements}

pub one_number : (s : Site) (functors : List Presheaf) (T : Ty) (c m n : ℕ) (u v : Val) → Stands s functors T c m u → Stands s functors T c n v → u ≡ v → m ≡ n
one_number s functors T c m n u v p q e =
    sym (place_of_at (elements s functors T c) m Star (Distinct-elements s functors T c) p.within)
    ∙ ap (λ w. place_of w (elements s functors T c)) (p.is ∙ e ∙ sym q.is)
    ∙ place_of_at (elements s functors T c) n Star (Distinct-elements s functors T c) q.within
