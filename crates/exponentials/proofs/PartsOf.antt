-- The parts of a type by those of the types that it is made of.
use Rattle.std.proofs.Common.{◌≡◌, ℕ, [], ◌∷◌, ◌++◌, inl, sym, ap, subst, ◌∙◌}
use Rattle.topos_model.specs.declared.ty.Ty.{Ty, Base, One, Omega, Two, Pow, Fun}
use Rattle.finite_lists.specs.Members.{In}
use Rattle.topos_model.specs.statements.Needs.{parts}
use Rattle.topos_model.proofs.NeedsEquations.{parts-Base, parts-One, parts-Omega, parts-Two, parts-Pow, parts-Fun}

pub base_parts : (T : Ty) (n : ℕ) → T ≡ Base n → parts T ≡ (T ∷ [])
base_parts T n e = ap parts e ∙ parts-Base n ∙ ap (λ U. U ∷ []) (sym e)

pub one_parts : (T : Ty) → T ≡ One → parts T ≡ (T ∷ [])
one_parts T e = ap parts e ∙ parts-One ∙ ap (λ U. U ∷ []) (sym e)

pub omega_parts : (T : Ty) → T ≡ Omega → parts T ≡ (T ∷ [])
omega_parts T e = ap parts e ∙ parts-Omega ∙ ap (λ U. U ∷ []) (sym e)

pub base_part : (T : Ty) (n : ℕ) → T ≡ Base n → In (parts T) (Base n)
base_part T n e = subst (λ l. In l (Base n)) (sym (base_parts T n e)) (inl e)

pub omega_part : (T : Ty) → T ≡ Omega → In (parts T) Omega
omega_part T e = subst (λ l. In l Omega) (sym (omega_parts T e)) (inl e)

pub two_parts : (T l r g h : Ty) → T ≡ Two l r → g ≡ l → h ≡ r → parts T ≡ (T ∷ parts g ++ parts h)
two_parts T l r g h e a b = ap parts e ∙ parts-Two l r ∙ ap (λ U. U ∷ parts l ++ parts r) (sym e) ∙ ap (λ x. T ∷ parts x ++ parts r) (sym a) ∙ ap (λ x. T ∷ parts g ++ parts x) (sym b)

pub fun_parts : (T l r g h : Ty) → T ≡ Fun l r → g ≡ l → h ≡ r → parts T ≡ (T ∷ parts g ++ parts h)
fun_parts T l r g h e a b = ap parts e ∙ parts-Fun l r ∙ ap (λ U. U ∷ parts l ++ parts r) (sym e) ∙ ap (λ x. T ∷ parts x ++ parts r) (sym a) ∙ ap (λ x. T ∷ parts g ++ parts x) (sym b)

pub pow_parts : (T l g : Ty) → T ≡ Pow l → g ≡ l → parts T ≡ (T ∷ parts g)
pow_parts T l g e a = ap parts e ∙ parts-Pow l ∙ ap (λ U. U ∷ parts l) (sym e) ∙ ap (λ x. T ∷ parts x) (sym a)
