-- The elements of each type by facts, and how subsets and functions are read after a restriction.
use Rattle.std.proofs.Common.{◌≡◌, ℕ, ◌<◌, List, [], ◌∷◌, refl, sym, ◌∙◌, ap, subst}
use denote.Hole.Carrier
use Rattle.topos_model.specs.declared.ty.Ty.{Ty, Base, One, Omega, Two, Pow, Fun}
use Rattle.topos_model.specs.declared.ty.Ty.TheBlock.{hidden-the_row-Ty-0}
use Rattle.topos_model.specs.declared.value.Val.{Val, Star, Sv, Sub, Fn}
use Rattle.topos_model.specs.declared.value.Entry.{Entry}
use Rattle.topos_model.specs.declared.value.Assign.{Assign}
use Rattle.finite_lists.specs.Members.{In}
use Rattle.topos_model.specs.categories.Category.{Category, dom}
use Rattle.topos_model.specs.topologies.Cover.{Site}
use Rattle.topos_model.specs.Laws.{IsCategory, IsInto}
use Rattle.topos_model.specs.types.Types.{Presheaf, base_elements, omega_elements, two_elements, pow_elements, fun_elements, functor, elements, restr}
use Rattle.type_laws.proofs.Places.{entry, under, places_In}
use Rattle.type_laws.proofs.TruthValues.{IsClosedSieve, omega_In, In_omega}
use Rattle.type_laws.proofs.Subsets.{IsClosedSubset, pow_In, In_pow, narrowed, narrowed_In, In_narrowed}
use Rattle.type_laws.proofs.Tables.{at_entry}
use Rattle.type_laws.proofs.Functions.{IsNaturalTable, fun_In, In_fun, shifted, at_shifted}
use Rattle.type_laws.proofs.Presheaves.{Distinct-elements}

-- an arrow after the identity of its source
pub under_identity_of : (s : Site) (c h : ℕ) (w : Val) → IsCategory s.category → IsInto s.category c h → under s h (entry (dom s.category h) w) ≡ entry h w
under_identity_of s c h w laws i = ap (λ x. entry x w) (laws.right_neutral c h i)

module _ (s : Site) (functors : List Presheaf) where
  abbrev k : Category
  k = s.category

  abbrev el : Ty → ℕ → List Val
  el T = elements s functors T

  abbrev rs : Ty → ℕ → Val → Val
  rs T = restr s functors T

  opened : Unit {0}
  unfolding elements hidden-the_row-Ty-0 Carrier.hidden
  opened = tt

  pub elements-Base : (n c : ℕ) → el (Base n) c ≡ base_elements (functor s functors n) c
  unfolding opened
  elements-Base n c = refl

  pub elements-One : (c : ℕ) → el One c ≡ Star ∷ []
  unfolding opened
  elements-One c = refl

  pub elements-Omega : (c : ℕ) → el Omega c ≡ omega_elements s c
  unfolding opened
  elements-Omega c = refl

  pub elements-Two : (S T : Ty) (c : ℕ) → el (Two S T) c ≡ two_elements (el S) (el T) c
  unfolding opened
  elements-Two S T c = refl

  pub elements-Pow : (T : Ty) (c : ℕ) → el (Pow T) c ≡ pow_elements s (el T) (rs T) c
  unfolding opened
  elements-Pow T c = refl

  pub elements-Fun : (S T : Ty) (c : ℕ) → el (Fun S T) c ≡ fun_elements s (el S) (rs S) (el T) (rs T) c
  unfolding opened
  elements-Fun S T c = refl

  pub ruleset elements_rules = (elements-Base, elements-One, elements-Omega, elements-Two, elements-Pow, elements-Fun)

  -- v is an element of Omega exactly if it is a closed sieve
  pub elements_Omega : (c : ℕ) (v : Val) → In (el Omega c) v → (S : List ℕ) × IsClosedSieve s c S × (Sv S ≡ v)
  elements_Omega c v h = In_omega s c v (subst (λ l. In l v) (elements-Omega c) h)

  pub Omega_elements : (c : ℕ) (S : List ℕ) → IsClosedSieve s c S → In (el Omega c) (Sv S)
  Omega_elements c S h = subst (λ l. In l (Sv S)) (sym (elements-Omega c)) (omega_In s c S h)

  -- v is an element of Pow T exactly if it is a closed sublist of the places
  pub elements_Pow : (T : Ty) (c : ℕ) (v : Val) → In (el (Pow T) c) v → (l : List Entry) × IsClosedSubset s (el T) (rs T) c l × (Sub l ≡ v)
  elements_Pow T c v h = In_pow s (el T) (rs T) c v (subst (λ l. In l v) (elements-Pow T c) h)

  pub Pow_elements : (T : Ty) (c : ℕ) (l : List Entry) → IsClosedSubset s (el T) (rs T) c l → In (el (Pow T) c) (Sub l)
  Pow_elements T c l h = subst (λ x. In x (Sub l)) (sym (elements-Pow T c)) (pow_In s (el T) (rs T) c l h)

  -- v is an element of S -> T exactly if it is a natural assignment
  pub elements_Fun : (S T : Ty) (c : ℕ) (v : Val) → In (el (Fun S T) c) v → (l : List Assign) × IsNaturalTable s (el S) (rs S) (el T) (rs T) c l × (Fn l ≡ v)
  elements_Fun S T c v h = In_fun s (el S) (rs S) (el T) (rs T) (Distinct-elements s functors S) c v (subst (λ l. In l v) (elements-Fun S T c) h)

  pub Fun_elements : (S T : Ty) (c : ℕ) (l : List Assign) → IsNaturalTable s (el S) (rs S) (el T) (rs T) c l → In (el (Fun S T) c) (Fn l)
  Fun_elements S T c l h = subst (λ x. In x (Fn l)) (sym (elements-Fun S T c)) (fun_In s (el S) (rs S) (el T) (rs T) (Distinct-elements s functors S) c l h)

-- (identity, w) in l.h exactly if (h, w) in l
pub read_subset : (s : Site) (values : ℕ → List Val) (restrict : ℕ → Val → Val) (c h : ℕ) (w : Val) (l : List Entry) →
    IsCategory s.category → IsInto s.category c h → In (narrowed s values restrict h l) (entry (dom s.category h) w) → In l (entry h w)
read_subset s values restrict c h w l laws i m =
    subst (λ e. In l e) (under_identity_of s c h w laws i) (In_narrowed s values restrict h l (entry (dom s.category h) w) m).1

pub subset_read : (s : Site) (values : ℕ → List Val) (restrict : ℕ → Val → Val) (c h : ℕ) (w : Val) (l : List Entry) →
    IsCategory s.category → dom s.category h < s.category.objects → IsInto s.category c h → In (values (dom s.category h)) w → In l (entry h w) → In (narrowed s values restrict h l) (entry (dom s.category h) w)
subset_read s values restrict c h w l laws low i j m =
    let id = laws.identity (dom s.category h) low in
    narrowed_In s values restrict h l (entry (dom s.category h) w)
    (places_In s values (dom s.category h) (entry (dom s.category h) w) id.0 (subst (λ d. In (values d) w) (sym id.1) j))
    (subst (λ e. In l e) (sym (under_identity_of s c h w laws i)) m)

-- (θ.h)(identity, w) is θ(h, w)
pub read_function : (s : Site) (values : ℕ → List Val) (restrict : ℕ → Val → Val) (values' : ℕ → List Val) (restrict' : ℕ → Val → Val) (c h : ℕ) (w : Val) (l : List Assign) →
    IsCategory s.category → dom s.category h < s.category.objects → IsInto s.category c h → In (values (dom s.category h)) w →
    at_entry (shifted s values restrict values' restrict' h l) (entry (dom s.category h) w) ≡ at_entry l (entry h w)
read_function s values restrict values' restrict' c h w l laws low i j =
    let id = laws.identity (dom s.category h) low in
    at_shifted s values restrict values' restrict' h l (entry (dom s.category h) w) (places_In s values (dom s.category h) (entry (dom s.category h) w) id.0 (subst (λ d. In (values d) w) (sym id.1) j))
    ∙ ap (at_entry l) (under_identity_of s c h w laws i)
