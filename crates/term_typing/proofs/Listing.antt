-- How the list of types grows.
use Rattle.std.proofs.Common.{◌≡◌, List, [], ◌∷◌, ◌++◌, sym, ap, ◌∙◌, subst}
use Rattle.std.specs.Prelude.{◌↔◌, Result, Ok, Err, OnOk}
use Rattle.std.specs.List.{flat_map}
use Rattle.std.proofs.lemmas.List.{append_assoc, append-nil}
use Rattle.finite_lists.specs.Members.{In}
use Rattle.topos_model.specs.declared.ty.Ty.{Ty}
use Rattle.topos_model.specs.declared.context.MapTy.{MapTy}
use Rattle.topos_model.specs.declared.term.Term.{Term}
use Rattle.topos_model.specs.formulas.Typing.{Typing, typed}
use Rattle.topos_model.specs.statements.Needs.{parts, product, term_needs}
use Rattle.term_typing.specs.Noted.{behind, inside, noted}
use Rattle.term_typing.proofs.CountedTypes.{needs_noted, noted_needed}

-- what holds in any case
pub always : {A E : Type 0} (r : Result A E) (P : Type 0) → P → OnOk r P
always (Ok x) P p = p
always (Err e) P p = tt

pub nothing_listed : (before xs : List Ty) → xs ≡ [] → before ≡ before ++ xs
nothing_listed before xs e = sym (ap (λ l. before ++ l) e ∙ append-nil before)

pub part_listed : (before after xs ys : List Ty) → ys ≡ xs → after ≡ before ++ xs → after ≡ before ++ ys
part_listed before after xs ys e h = h ∙ ap (λ l. before ++ l) (sym e)

pub both_listed : (before after xs ys zs : List Ty) → zs ≡ xs ++ ys → after ≡ before ++ xs ++ ys → after ≡ before ++ zs
both_listed before after xs ys zs e h = part_listed before after (xs ++ ys) zs e (h ∙ append_assoc before xs ys)

behind_found : (types : List Ty) (typing : Typing) (T : Ty) → typing ≡ Ok T → behind types typing ≡ types ++ T ∷ []
unfolding behind
behind_found types typing T h = ap (behind types) h

module _ (maps : List MapTy) (Γ : List Ty) where
  pub whole_listed : (before between after : List Ty) (t : Term) (T U : Ty) → between ≡ before ++ inside maps Γ t → typed maps Γ t ≡ Ok T → after ≡ between ++ U ∷ [] → U ≡ T → after ≡ before ++ noted maps Γ t
  whole_listed before between after t T U e h f p =
      f ∙ ap (λ l. l ++ U ∷ []) e ∙ append_assoc before (inside maps Γ t) (U ∷ []) ∙ ap (λ l. before ++ l) (ap (λ V. inside maps Γ t ++ V ∷ []) p ∙ sym (behind_found (inside maps Γ t) (typed maps Γ t) T h))

  -- what is listed at the end, behind the product of the context
  pub counts_exactly : (start end : List Ty) (P : Ty) (t : Term) → start ≡ P ∷ [] → P ≡ product Γ → end ≡ start ++ noted maps Γ t → (T : Ty) → In (flat_map parts end) T ↔ In (term_needs maps Γ t) T
  counts_exactly start end P t e p h T =
      let q = h ∙ ap (λ l. l ++ noted maps Γ t) (e ∙ ap (λ U. U ∷ []) p) in
      subst (λ l. In (flat_map parts l) T ↔ In (term_needs maps Γ t) T) (sym q) (noted_needed maps Γ t T, needs_noted maps Γ t T)
