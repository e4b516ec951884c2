-- The numbers of a sealed type restrict as the elements of the type do.
use Rattle.std.proofs.Common.{◌≡◌, ℕ, ◌<◌, List, length, get_or, refl, sym, ap, subst, ◌∙◌}
use Rattle.finite_lists.specs.Members.{In, Distinct}
use Rattle.topos_model.specs.declared.ty.Ty.{Ty, Base}
use Rattle.topos_model.specs.declared.value.Val.{Val, Star}
use Rattle.topos_model.specs.categories.Category.{Category, dom, compose}
use Rattle.topos_model.specs.topologies.Cover.{Site}
use Rattle.topos_model.specs.Laws.{IsCategory, IsInto}
use Rattle.topos_model.specs.types.Types.{Presheaf, functor, elements, restr}
use Rattle.topos_model.specs.statements.Needs.{parts}
use Rattle.functor_store.specs.Store.{Functor, Store, functor_at, size_at, restriction_along}
use Rattle.functor_store.specs.Faithful.{Holds, HasElements, IsFaithful, Stands}
use Rattle.sieve_table.proofs.SieveMembers.{object, domain, goes, comes}
use Rattle.place_closures.specs.Pairs.{AreRestricted}
use Rattle.type_laws.proofs.Places.{IsPresheaf}
use Rattle.type_laws.proofs.Numbering.{place_of_at, get_In}
use Rattle.type_laws.proofs.Presheaves.{Distinct-elements, base_presheaf, type_presheaf}
use Rattle.type_laws.specs.Numbered.{place_of}
use Rattle.sealed_types.specs.Sealed.{sizes_in, restrictions_in}
use Rattle.sealed_types.specs.Laws.{SealedTypesRestrict, SealedTypesCanBeAsked}

-- elements with one value have one number
one_number : (xs : List Val) (m n : ℕ) → Distinct xs → m < length xs → n < length xs → get_or xs m Star ≡ get_or xs n Star → m ≡ n
one_number xs m n d low low' e = sym (place_of_at xs m Star d low) ∙ ap (λ v. place_of v xs) e ∙ place_of_at xs n Star d low'

-- a type whose functors are sealed is a presheaf
pub held_presheaf : (s : Site) (functors : List Presheaf) (store : Store) (T : Ty) → IsCategory s.category → IsFaithful s functors store → ((n : ℕ) → In (parts T) (Base n) → Holds store (Base n)) →
    IsPresheaf s.category (elements s functors T) (restr s functors T)
held_presheaf s functors store T laws h named = type_presheaf s functors laws T (λ n i. base_presheaf s.category (functor s functors n) (h.named n (named n i)).1)

pub sealed_presheaf : (s : Site) (functors : List Presheaf) (store : Store) (id : ℕ) → IsCategory s.category → IsFaithful s functors store → id < length store.sealed →
    IsPresheaf s.category (elements s functors (functor_at store.sealed id).key) (restr s functors (functor_at store.sealed id).key)
sealed_presheaf s functors store id laws h low = held_presheaf s functors store (functor_at store.sealed id).key laws h (λ n. h.parts_held (functor_at store.sealed id).key n (id, low, refl))

module _ (s : Site) (functors : List Presheaf) (laws : IsCategory s.category) (T : Ty) (presheaf : IsPresheaf s.category (elements s functors T) (restr s functors T)) (F : Functor) (h : HasElements s functors T F) where
  abbrev k : Category
  k = s.category

  abbrev along : ℕ → ℕ → ℕ
  along f n = restriction_along k.ends F f n

  abbrev value : ℕ → ℕ → Val
  value c n = get_or (elements s functors T c) n Star

  below : (c n : ℕ) → c < k.objects → n < size_at F c → n < length (elements s functors T c)
  below c n low inside = subst (λ m. n < m) (h.sizes c low) inside

  stands : (c f n : ℕ) → IsInto k c f → n < size_at F c → Stands s functors T (dom k f) (along f n) (restr s functors T f (value c n))
  stands c f n i inside =
      subst (λ d. Stands s functors T (dom k f) (along f n) (restr s functors T f (value d n))) i.1 (h.restrictions f n i.0 (subst (λ d. n < size_at F d) (sym i.1) inside))

  within : (c f n : ℕ) → IsInto k c f → n < size_at F c → along f n < size_at F (dom k f)
  within c f n i inside = subst (λ m. along f n < m) (sym (h.sizes (dom k f) (domain k laws i))) (stands c f n i inside).within

  pub restricted : AreRestricted k (size_at F) (restriction_along k.ends F)
  restricted = record {
    within = within;
    identity = λ c n low inside.
        let id = laws.identity c low in
        let there = stands c c n id.0 inside in
        let is : value c (along c n) ≡ value c n = ap (λ d. value d (along c n)) (sym id.1) ∙ there.is ∙ presheaf.identity c (value c n) low (get_In (elements s functors T c) n Star (below c n low inside)) in
        one_number (elements s functors T c) (along c n) n (Distinct-elements s functors T c) (subst (λ d. along c n < length (elements s functors T d)) id.1 there.within) (below c n low inside) is;
    composite = λ c f g n i j inside.
        let low = object k laws i in
        let inside' = within c f n i inside in
        let first = stands c f n i inside in
        let second = stands (dom k f) g (along f n) j inside' in
        let whole = stands c (compose k f g) n (goes k laws i j) inside in
        let e : dom k (compose k f g) ≡ dom k g = comes k laws i j in
        let member = get_In (elements s functors T c) n Star (below c n low inside) in
        let is : value (dom k g) (along g (along f n)) ≡ value (dom k g) (along (compose k f g) n) =
        second.is ∙ ap (restr s functors T g) first.is ∙ presheaf.composite c f g (value c n) i j member ∙ sym whole.is ∙ ap (λ d. value d (along (compose k f g) n)) e in
        one_number (elements s functors T (dom k g)) (along g (along f n)) (along (compose k f g) n) (Distinct-elements s functors T (dom k g)) second.within
        (subst (λ d. along (compose k f g) n < length (elements s functors T d)) e whole.within) is;
  }

-- a sealed type has as many numbers as elements, and each number restricts as its element
module _ (s : Site) (functors : List Presheaf) (store : Store) (id : ℕ) (h : IsFaithful s functors store) (low : id < length store.sealed) where
  abbrev key : Ty
  key = (functor_at store.sealed id).key

  pub sealed_size : (c : ℕ) → c < s.category.objects → sizes_in store id c ≡ length (elements s functors (functor_at store.sealed id).key c)
  sealed_size c object = (h.held id low).sizes c object

  pub sealed_stands : (c f n : ℕ) → IsInto s.category c f → n < sizes_in store id c →
      Stands s functors (functor_at store.sealed id).key (dom s.category f) (restrictions_in store id f n) (restr s functors (functor_at store.sealed id).key f (get_or (elements s functors (functor_at store.sealed id).key c) n Star))
  sealed_stands c f n i inside =
      let F = functor_at store.sealed id in
      let k = s.category in
      subst (λ ends. Stands s functors key (dom k f) (restriction_along ends F f n) (restr s functors key f (get_or (elements s functors key c) n Star))) (sym h.ends)
      (subst (λ d. Stands s functors key (dom k f) (restriction_along k.ends F f n) (restr s functors key f (get_or (elements s functors key d) n Star))) i.1
      ((h.held id low).restrictions f n i.0 (subst (λ d. n < size_at F d) (sym i.1) inside)))

pub sealed_restricted : SealedTypesRestrict
sealed_restricted s functors store id laws h low =
    let F = functor_at store.sealed id in
    subst (λ ends. AreRestricted s.category (size_at F) (restriction_along ends F)) (sym h.ends) (restricted s functors laws F.key (sealed_presheaf s functors store id laws h low) F (h.held id low))

pub sealed_asked : SealedTypesCanBeAsked
sealed_asked s functors store id h low =
    let F = functor_at store.sealed id in
    record {
      count = λ c l. (low, subst (λ n. c < n) (sym h.objects) l);
      restrict = λ c f x i l.
          let e : (get_or store.ends f (0, 0)).1 ≡ c = ap (λ (ends : List (ℕ × ℕ)). (get_or ends f (0, 0)).1) h.ends ∙ i.1 in
          (low, subst (λ (ends : List (ℕ × ℕ)). f < length ends) (sym h.ends) i.0, subst (λ d. x < size_at F d) (sym e) l);
    }
