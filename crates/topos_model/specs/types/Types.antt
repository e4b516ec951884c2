-- The elements of a type at an object, and their restriction (I, IV, VI).
use Rattle.std.specs.Prelude.{ℕ, Bool, cond, ◌&&◌, ◌||◌, not, List, [], ◌∷◌, map, get_or, eqb, filter, flat_map}
use Rattle.std.specs.List.{list_any, list_all, range_with_len}
use Rattle.topos_model.specs.declared.ty.Ty.{Ty, Base, One, Omega, Two', Pow', Fun', more_of-Ty as only, end_of-Ty as end}
use Rattle.topos_model.specs.declared.value.Val.{Val, El, Star, Two, Sv, Sub, Fn}
use Rattle.topos_model.specs.declared.value.Entry.{Entry}
use Rattle.topos_model.specs.declared.value.Assign.{Assign}
use Rattle.finite_lists.specs.Sublists.{sublists}
use Rattle.topos_model.specs.categories.Category.{has, into, dom, compose, sieves, pull}
use Rattle.topos_model.specs.topologies.Cover.{Site, covers}
use Rattle.topos_model.specs.types.Values.{same, same_numbers, number_of, first_of, second_of, arrows_of, entries_of, assigns_of}

-- a finite presheaf: the number of elements at each object, and for each arrow f the restriction of each element at cod f
pub record Presheaf : Type 0 where
  pub sizes : List ℕ
  pub along : List (List ℕ)

unfoldable pub in_entries : ℕ → Val → List Entry → Bool
in_entries f w l = list_any (λ e. eqb e.arrow f && same e.val w) l

-- the entry of an assignment at (f, w)
unfoldable pub at_place : ℕ → Val → List Assign → Val
at_place f w [] = Star
at_place f w (a ∷ rest) = cond (eqb a.arrow f && same a.val w) a.to (at_place f w rest)

-- all assignments on the places, lexicographic
unfoldable pub assignments : (ℕ → List Val) → List Entry → List (List Assign)
assignments values [] = [] ∷ []
assignments values (e ∷ places) =
    flat_map (λ v. map (λ rest. record { arrow = e.arrow; val = e.val; to = v } ∷ rest) (assignments values places)) (values e.arrow)

-- each former: its elements at an object, and restriction along an arrow, from those of its parts
unfoldable pub base_elements : Presheaf → ℕ → List Val
base_elements X c = map El (range_with_len 0 (get_or X.sizes c 0))

unfoldable pub base_along : Presheaf → ℕ → Val → Val
base_along X f v = El (get_or (get_or X.along f []) (number_of v) 0)

unfoldable pub two_elements : (ℕ → List Val) → (ℕ → List Val) → ℕ → List Val
two_elements values values' c = flat_map (λ u. map (λ v. Two u v) (values' c)) (values c)

unfoldable pub two_along : (ℕ → Val → Val) → (ℕ → Val → Val) → ℕ → Val → Val
two_along restrict restrict' f v = Two (restrict f (first_of v)) (restrict' f (second_of v))

module _ (s : Site) where
  -- all (f, w) with f into c and w a value at dom f
  unfoldable pub places : (ℕ → List Val) → ℕ → List Entry
  places values c = flat_map (λ f. map (λ w. record { arrow = f; val = w }) (values (dom s.category f))) (into s.category c)

  -- (f, w) in l implies (f.g, w.g) in l
  unfoldable pub closed_below : (ℕ → Val → Val) → List Entry → Bool
  closed_below restrict l =
      list_all (λ e. list_all (λ g. in_entries (compose s.category e.arrow g) (restrict g e.val) l) (into s.category (dom s.category e.arrow))) l

  -- (f, w) is in l where (f.g, w.g) is in l for each g of a cover
  unfoldable pub closed_under_covers : (ℕ → Val → Val) → List Entry → List Entry → Bool
  closed_under_covers restrict all l =
      list_all (λ e. in_entries e.arrow e.val l || not (list_any (λ cover. list_all (λ g. in_entries (compose s.category e.arrow g) (restrict g e.val) l) cover) (covers s (dom s.category e.arrow)))) all

  -- each f into c along which the sieve pulls back to a cover is in it
  unfoldable pub is_closed_sieve : ℕ → List ℕ → Bool
  is_closed_sieve c sieve =
      list_all (λ f. has f sieve || not (list_any (same_numbers (pull s.category f sieve)) (covers s (dom s.category f)))) (into s.category c)

  -- an assignment that commutes with restriction
  unfoldable pub is_natural : (ℕ → Val → Val) → (ℕ → Val → Val) → List Assign → Bool
  is_natural restrict restrict' l =
      list_all (λ a. list_all (λ g. same (restrict' g a.to) (at_place (compose s.category a.arrow g) (restrict g a.val) l)) (into s.category (dom s.category a.arrow))) l

  unfoldable pub omega_elements : ℕ → List Val
  omega_elements c = map Sv (filter (is_closed_sieve c) (sieves s.category c))

  unfoldable pub omega_along : ℕ → Val → Val
  omega_along f v = Sv (pull s.category f (arrows_of v))

  unfoldable pub pow_elements : (ℕ → List Val) → (ℕ → Val → Val) → ℕ → List Val
  pow_elements values restrict c =
      map Sub (filter (λ l. closed_below restrict l && closed_under_covers restrict (places values c) l) (sublists (places values c)))

  unfoldable pub pow_along : (ℕ → List Val) → ℕ → Val → Val
  pow_along values f v =
      Sub (filter (λ e. in_entries (compose s.category f e.arrow) e.val (entries_of v)) (places values (dom s.category f)))

  unfoldable pub fun_elements : (ℕ → List Val) → (ℕ → Val → Val) → (ℕ → List Val) → (ℕ → Val → Val) → ℕ → List Val
  fun_elements values restrict values' restrict' c =
      map Fn (filter (is_natural restrict restrict') (assignments (λ f. values' (dom s.category f)) (places values c)))

  unfoldable pub fun_along : (ℕ → List Val) → ℕ → Val → Val
  fun_along values f v =
      Fn (map (λ e. record { arrow = e.arrow; val = e.val; to = at_place (compose s.category f e.arrow) e.val (assigns_of v) }) (places values (dom s.category f)))

module _ (s : Site) (functors : List Presheaf) where
  abbrev pub functor : ℕ → Presheaf
  functor n = get_or functors n (record { sizes = []; along = [] })

  unfoldable mutual
    pub elements : Ty → ℕ → List Val
    elements (Base n) c = base_elements (functor n) c
    elements One c = Star ∷ []
    elements Omega c = omega_elements s c
    elements (Two' _ (only S end) _ (only T end)) c = two_elements (elements S) (elements T) c
    elements (Pow' _ (only T end)) c = pow_elements s (elements T) (restr T) c
    elements (Fun' _ (only S end) _ (only T end)) c = fun_elements s (elements S) (restr S) (elements T) (restr T) c

    pub restr : Ty → ℕ → Val → Val
    restr (Base n) f v = base_along (functor n) f v
    restr One f v = Star
    restr Omega f v = omega_along s f v
    restr (Two' _ (only S end) _ (only T end)) f v = two_along (restr S) (restr T) f v
    restr (Pow' _ (only T end)) f v = pow_along s (elements T) f v
    restr (Fun' _ (only S end) _ (only T end)) f v = fun_along s (elements S) f v
