-- Presheaves that are declared later change nothing of the types that name earlier ones.
use Rattle.std.proofs.Common.{◌≡◌, ℕ, ◌<◌, List, ◌++◌, length, get_or, map, sum, cond, ◌+◌, ◌*◌, inl, inr, refl, sym, ap, ap₂, subst, ◌∙◌, arith}
use Rattle.std.proofs.lemmas.List.{get_or_append_left, length-append}
use Rattle.finite_lists.specs.Members.{In}
use Rattle.finite_lists.proofs.Lists.{In-append_left, In-append_right, map_same}
use Rattle.topos_model.specs.declared.ty.Ty.{Ty, Base, One, Omega, Two', Pow', Fun', more_of-Ty as only, end_of-Ty as end}
use Rattle.topos_model.specs.declared.value.Val.{Val, Star}
use Rattle.topos_model.specs.categories.Category.{dom, cod, into}
use Rattle.topos_model.specs.topologies.Cover.{Site}
use Rattle.topos_model.specs.Laws.{IsFunctor}
use Rattle.topos_model.specs.types.Types.{Presheaf, functor, elements, restr, base_elements, base_along, two_elements, two_along, pow_elements, pow_along, fun_elements, fun_along, places, in_entries, at_place}
use Rattle.topos_model.specs.types.Values.{entries_of, assigns_of}
use Rattle.topos_model.specs.statements.Needs.{parts}
use Rattle.topos_model.specs.statements.Cells.{width, cells_of, objects_of}
use Rattle.functor_store.specs.Store.{Functor, Store, functor_at, restriction_along, element_at}
use Rattle.functor_store.specs.Faithful.{Holds, Stands, IsRow, HasElements, IsFaithful, place_at}

module _ (s : Site) (functors more : List Presheaf) where
  -- both lists have the same presheaves under the numbers that the type names
  abbrev pub Agree : Ty → Type 0
  Agree T = (n : ℕ) → In (parts T) (Base n) → functor s functors n ≡ functor s more n

  abbrev Same : Ty → Type 0
  Same T = (elements s functors T ≡ elements s more T) × (restr s functors T ≡ restr s more T)

  pub type_agrees : (T : Ty) → Agree T → Same T
  unfolding elements restr parts
  type_agrees (Base n) h = let e = h n (inl refl) in (ap base_elements e, ap base_along e)
  type_agrees One h = (refl, refl)
  type_agrees Omega h = (refl, refl)
  type_agrees (Two' a (only S end) b (only T end)) h =
      let left = type_agrees S (λ n i. h n (inr (In-append_left (parts S) (parts T) (Base n) i))) in
      let right = type_agrees T (λ n i. h n (inr (In-append_right (parts S) (parts T) (Base n) i))) in
      (ap₂ two_elements left.0 right.0, ap₂ two_along left.1 right.1)
  type_agrees (Pow' a (only T end)) h =
      let of = type_agrees T (λ n i. h n (inr i)) in
      (ap₂ (pow_elements s) of.0 of.1, ap (pow_along s) of.0)
  type_agrees (Fun' a (only S end) b (only T end)) h =
      let from = type_agrees S (λ n i. h n (inr (In-append_left (parts S) (parts T) (Base n) i))) in
      let to = type_agrees T (λ n i. h n (inr (In-append_right (parts S) (parts T) (Base n) i))) in (
        ap₂ (λ el rs. fun_elements s el rs (elements s functors T) (restr s functors T)) from.0 from.1
            ∙ ap₂ (λ el rs. fun_elements s (elements s more S) (restr s more S) el rs) to.0 to.1,
        ap (fun_along s) from.0,
      )

  stands_agree : (T : Ty) (c k : ℕ) (v v' : Val) → Agree T → v ≡ v' → Stands s functors T c k v → Stands s more T c k v'
  stands_agree T c k v v' h e st =
      let el = (type_agrees T h).0 in
      record { within = subst (λ (f : ℕ → List Val). k < length (f c)) el st.within; is = sym (ap (λ (f : ℕ → List Val). get_or (f c) k Star) el) ∙ st.is ∙ e }

  row_agrees : (T : Ty) (c : ℕ) (v : Val) (row : List ℕ) → Agree T → IsRow s functors T c v row → IsRow s more T c v row
  unfolding parts
  row_agrees (Pow' a (only T end)) c v row h e =
      let el = (type_agrees T (λ n i. h n (inr i))).0 in
      e ∙ ap (λ (f : ℕ → List Val). map (λ e. cond (in_entries e.arrow e.val (entries_of v)) 1 0) (places s f c)) el
  row_agrees (Fun' a (only S end) b (only T end)) c v row h r =
      let left : Agree S = λ n i. h n (inr (In-append_left (parts S) (parts T) (Base n) i)) in
      let right : Agree T = λ n i. h n (inr (In-append_right (parts S) (parts T) (Base n) i)) in
      let same : places s (elements s functors S) c ≡ places s (elements s more S) c = ap (λ (f : ℕ → List Val). places s f c) (type_agrees S left).0 in
      record {
        each_place = r.each_place ∙ ap length same;
        values = λ i low.
            let at : place_at s functors S c i ≡ place_at s more S c i = ap (λ l. get_or l i (record { arrow = 0; val = Star })) same in
            subst (λ e. Stands s more T (dom s.category e.arrow) (get_or row i 0) (at_place e.arrow e.val (assigns_of v))) at
            (stands_agree T (dom s.category (place_at s functors S c i).arrow) (get_or row i 0) (at_place (place_at s functors S c i).arrow (place_at s functors S c i).val (assigns_of v)) _ right refl (r.values i low));
      }
  row_agrees (Base n) c v row h e = e
  row_agrees One c v row h e = e
  row_agrees Omega c v row h e = e
  row_agrees (Two' a (only S end) b (only T end)) c v row h e = e

  elements_agree : (T : Ty) (F : Functor) → Agree T → HasElements s functors T F → HasElements s more T F
  elements_agree T F h has =
      let same = type_agrees T h in
      record {
        objects = has.objects;
        sizes = λ c low. has.sizes c low ∙ ap (λ (f : ℕ → List Val). length (f c)) same.0;
        restrictions = λ f k low inside.
            stands_agree T (dom s.category f) (restriction_along s.category.ends F f k) _ _ h
            (ap₂ (λ (el : ℕ → List Val) (rs : ℕ → Val → Val). rs f (get_or (el (cod s.category f)) k Star)) same.0 same.1) (has.restrictions f k low inside);
        rows = λ c k low inside.
            subst (λ v. IsRow s more T c v (element_at F c k)) (ap (λ (f : ℕ → List Val). get_or (f c) k Star) same.0)
            (row_agrees T c _ (element_at F c k) h (has.rows c k low inside));
      }

  width_agrees : (T : Ty) (c : ℕ) → Agree T → width s functors T c ≡ width s more T c
  unfolding width parts
  width_agrees (Pow' a (only T end)) c h = ap (λ (f : ℕ → List Val). length (places s f c)) (type_agrees T (λ n i. h n (inr i))).0
  width_agrees (Fun' a (only S end) b (only T end)) c h =
      ap (λ (f : ℕ → List Val). length (places s f c)) (type_agrees S (λ n i. h n (inr (In-append_left (parts S) (parts T) (Base n) i)))).0
  width_agrees (Base n) c h = refl
  width_agrees One c h = refl
  width_agrees Omega c h = refl
  width_agrees (Two' a (only S end) b (only T end)) c h = refl

  cells_agree : (T : Ty) → Agree T → cells_of s functors T ≡ cells_of s more T
  unfolding cells_of
  cells_agree T h =
      ap sum (map_same _ _ (objects_of s.category) (λ c i.
      ap₂ (λ (f : ℕ → List Val) w. length (f c) * (1 + length (into s.category c) + w)) (type_agrees T h).0 (width_agrees T c h)))

-- the presheaves before those that are declared later
earlier : (s : Site) (functors later : List Presheaf) (n : ℕ) → n < length functors → functor s functors n ≡ functor s (functors ++ later) n
earlier s functors later n low = sym (get_or_append_left functors later _ n low)

-- a store is faithful to the presheaves that it names, whatever is declared behind them
pub faithful_later : (s : Site) (functors later : List Presheaf) (store : Store) → IsFaithful s functors store → IsFaithful s (functors ++ later) store
faithful_later s functors later store h = record {
  objects = h.objects;
  ends = h.ends;
  named = λ n there.
      let r = h.named n there in
      (omega (arith, r.0, length-append functors later), subst (IsFunctor s.category) (earlier s functors later n r.0) r.1);
  parts_held = h.parts_held;
  held = λ id low.
      elements_agree s functors (functors ++ later) (functor_at store.sealed id).key (functor_at store.sealed id)
      (λ n i. earlier s functors later n (h.named n (h.parts_held _ n (id, low, refl) i)).0) (h.held id low);
}

-- and the cells of the types that it holds are the same
pub cells_later : (s : Site) (functors later : List Presheaf) (store : Store) (T : Ty) → IsFaithful s functors store → Holds store T → cells_of s functors T ≡ cells_of s (functors ++ later) T
cells_later s functors later store T h there =
    let agree : Agree s functors (functors ++ later) T = λ n i. earlier s functors later n (h.named n (h.parts_held T n there i)).0 in
    cells_agree s functors (functors ++ later) T agree
