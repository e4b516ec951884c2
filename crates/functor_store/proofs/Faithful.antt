-- How a store stays faithful to a site.
use Rattle.std.proofs.Common.{◌≡◌, ℕ, ◌<◌, List, [], ◌∷◌, ◌++◌, length, get_or, refl, sym, ap, subst, ◌∙◌, arith, inl, inr, Option}
use Rattle.std.proofs.lemmas.Bool.{cases_lt}
use Rattle.std.proofs.lemmas.List.{get_or_append_left, get_or_push, length_push}
use Rattle.topos_model.specs.declared.ty.Ty.{Ty, Base, One}
use Rattle.topos_model.specs.declared.value.Val.{Star}
use Rattle.finite_lists.specs.Members.{In}
use Rattle.topos_model.specs.categories.Category.{cod}
use Rattle.topos_model.specs.topologies.Cover.{Site}
use Rattle.topos_model.specs.Laws.{IsFunctor}
use Rattle.topos_model.specs.types.Types.{Presheaf, functor, elements, restr}
use Rattle.topos_model.specs.statements.Needs.{parts}
use Rattle.functor_store.specs.Store.{Functor, Store, functor_at, size_at, element_at, restriction_along}
use Rattle.functor_store.specs.Faithful.{Holds, HasElements, IsFaithful}

module _ (s : Site) (functors : List Presheaf) where
  -- a store with no functor
  pub faithful_empty : (budget charges : ℕ) (building : Option Functor) →
      IsFaithful s functors (record { objects = s.category.objects; ends = s.category.ends; budget = budget; charges = charges; sealed = []; building = building })
  faithful_empty budget charges building = record {
    objects = refl;
    ends = refl;
    named = λ n h. absurd (omega (arith, h.1));
    parts_held = λ T n h i. absurd (omega (arith, h.1));
    held = λ id l. absurd (omega (arith, l));
  }

  -- neither charges nor a build change what is sealed
  pub faithful_kept : (store : Store) (charges : ℕ) (building : Option Functor) → IsFaithful s functors store → IsFaithful s functors (record store { charges = charges; building = building })
  faithful_kept store charges building h = record { objects = h.objects; ends = h.ends; named = h.named; parts_held = h.parts_held; held = h.held }

  -- a functor that is sealed last
  pub held_before : (store : Store) (F : Functor) (T : Ty) → Holds store T → Holds (record store { sealed = store.sealed ++ F ∷ [] }) T
  unfolding functor_at
  held_before store F T h =
      (h.0, omega (arith, h.1, length_push store.sealed F), ap (λ G. G.key) (get_or_append_left store.sealed (F ∷ []) _ h.0 h.1) ∙ h.2)

  pub held_last : (store : Store) (F : Functor) → Holds (record store { sealed = store.sealed ++ F ∷ [] }) F.key
  unfolding functor_at
  held_last store F = (length store.sealed, omega (arith, length_push store.sealed F), ap (λ G. G.key) (get_or_push store.sealed F _ (length store.sealed) refl))

  -- at a place of the longer list, what holds of each functor that was there and of the last one
  at_each : (P : Functor → Type 0) (sealed : List Functor) (F : Functor) → ((id : ℕ) → id < length sealed → P (functor_at sealed id)) → P F → (id : ℕ) → id < length (sealed ++ F ∷ []) → P (functor_at (sealed ++ F ∷ []) id)
  unfolding functor_at
  at_each P sealed F all one id l =
      let n = length_push sealed F in
      elim (cases_lt id (length sealed)) [
        | inl b ↦ subst P (sym (get_or_append_left sealed (F ∷ []) _ id b)) (all id b)
        | inr b ↦ subst P (sym (get_or_push sealed F _ id (omega (arith, l, b, n)))) one
      ]

  pub faithful_sealed : (store : Store) (F : Functor) → IsFaithful s functors store → HasElements s functors F.key F
      → ((n : ℕ) → F.key ≡ Base n → (n < length functors) × IsFunctor s.category (functor s functors n))
      → ((n : ℕ) → In (parts F.key) (Base n) → Holds (record store { sealed = store.sealed ++ F ∷ [] }) (Base n))
      → IsFaithful s functors (record store { sealed = store.sealed ++ F ∷ [] })
  faithful_sealed store F h one names parts_of =
      let Named : Functor → Type 0 = λ G. (n : ℕ) → G.key ≡ Base n → (n < length functors) × IsFunctor s.category (functor s functors n) in
      let Parts : Functor → Type 0 = λ G. (n : ℕ) → In (parts G.key) (Base n) → Holds (record store { sealed = store.sealed ++ F ∷ [] }) (Base n) in
      let Elements : Functor → Type 0 = λ G. HasElements s functors G.key G in
      let all_named = at_each Named store.sealed F (λ id l n e. h.named n (id, l, e)) names in
      let all_parts = at_each Parts store.sealed F (λ id l n i. held_before store F (Base n) (h.parts_held _ n (id, l, refl) i)) parts_of in
      record {
        objects = h.objects;
        ends = h.ends;
        named = λ n there. all_named there.0 there.1 n there.2;
        parts_held = λ T n there i. all_parts there.0 there.1 n (subst (λ U. In (parts U) (Base n)) (sym there.2) i);
        held = at_each Elements store.sealed F h.held one;
      }

  -- one element at each object, which restricts to the one element, has the elements of One
  pub one_elements : (F : Functor) → length F.rows ≡ s.category.objects → ((c : ℕ) → c < s.category.objects → size_at F c ≡ 1)
      → ((f k : ℕ) → f < length s.category.ends → k < size_at F (cod s.category f) → restriction_along s.category.ends F f k ≡ 0)
      → ((c k : ℕ) → c < s.category.objects → k < size_at F c → element_at F c k ≡ []) → HasElements s functors One F
  unfolding elements restr
  one_elements F objects sizes along rows = record {
    objects = objects;
    sizes = sizes;
    restrictions = λ f k l m. record { within = omega (arith, along f k l m); is = ap (λ x. get_or (Star ∷ []) x Star) (along f k l m) };
    rows = rows;
  }
