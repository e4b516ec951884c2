-- The building functor while its elements and their restrictions are pushed.
use Rattle.std.proofs.Common.{◌≡◌, ℕ, ◌+◌, ◌<◌, ◌≤◌, inl, inr, List, [], ◌∷◌, ◌++◌, length, get_or, map, replicate, Option, Some, None, refl, sym, ap, ◌∙◌, arith}
use Rattle.std.proofs.lemmas.Bool.{cases_lt}
use Rattle.std.proofs.lemmas.List.{get_or-replicate, length-replicate, length-take-le, get_or_past, length-map}
use Rattle.topos_model.specs.declared.ty.Ty.{Ty}
use Rattle.functor_store.specs.Store.{Functor, Store, cells, into, cost, cost_from, cost_built, bare, push_at, size_at, with_row, with_restrictions, sealed_with, IsNext, IsFirstOpen, IsWhole, IfBuilding}
use Rattle.functor_store.proofs.Held.{cost_push}
use Rattle.sealed_functors.specs.declared.rows.ElementRows.{ElementRows}
use Rattle.sealed_functors.specs.Rows.{element_rows, restriction_rows, functor_from, up_to, with_all_rows, with_all_restrictions, IsBare}
use Rattle.sealed_functors.proofs.Groups.{length-parts, mapped_at, length-up_to, before, here, after, up_to_none, up_to_more, up_to_cost}

pub bare_is : (key : Ty) (objects : ℕ) → IsBare objects (bare key objects)
unfolding bare
bare_is key objects = record { rows = refl; restrictions = refl }

none_in : (m o : ℕ) (gs : List (List (List ℕ))) → gs ≡ replicate m [] → get_or gs o [] ≡ []
none_in m o gs e =
    ap (λ g. get_or g o []) e ∙ elim (cases_lt o m) [
      | inl b ↦ get_or-replicate m o [] [] b
      | inr b ↦ get_or_past (replicate m []) o [] (omega (arith, length-replicate {A = List (List ℕ)} m [], b))
    ]

-- elements
module _ (gs : List (List (List ℕ))) (n : ℕ) (long : length gs ≡ n) where
  pub rows_begin : (b : Option Functor) → IfBuilding b (IsBare n) → b ≡ with_all_rows b (up_to gs 0 0)
  unfolding with_all_rows
  rows_begin None h = absurd h
  rows_begin (Some F) h = ap (λ r. Some (record F { rows = r })) (h.rows ∙ sym (up_to_none gs n long))

  pub rows_next : (b : Option Functor) (c k : ℕ) → IfBuilding b (IsBare n) → IfBuilding (with_all_rows b (up_to gs c k)) (λ F. IsNext F c)
  unfolding with_all_rows
  rows_next None c k h = h
  rows_next (Some F) c k h = record { nothing_after = λ o a. after gs c k o a; unrestricted = λ o. none_in n o F.restrictions h.restrictions }

  pub rows_more : (b : Option Functor) (c k : ℕ) (row : List ℕ) → c < n → k < length (get_or gs c []) → row ≡ get_or (get_or gs c []) k [] →
      with_row (with_all_rows b (up_to gs c k)) c row ≡ with_all_rows b (up_to gs c (k + 1))
  unfolding with_all_rows with_row
  rows_more None c k row low inside is = refl
  rows_more (Some F) c k row low inside is = ap (λ r. Some (record F { rows = r })) (up_to_more gs c k row (omega (arith, low, long)) inside is)

  -- the cells of what is pushed, with one element more, are within those of all
  pub rows_cells : (s : Store) (b : Option Functor) (c k : ℕ) (row : List ℕ) → IfBuilding b (IsBare n) → c < n → k < length (get_or gs c []) → row ≡ get_or (get_or gs c []) k [] →
      cells (record s { building = with_all_rows b (up_to gs c k) }) + 1 + into s.ends c + length row ≤ cells (record s { building = with_all_rows b gs })
  unfolding with_all_rows cells cost_built cost
  rows_cells s None c k row h low inside is = absurd h
  rows_cells s (Some F) c k row h low inside is =
      let push = cost_push s.ends 0 c (up_to gs c k) row (omega (arith, low, long, length-up_to gs c k)) in
      let more : cost_from s.ends 0 (push_at (up_to gs c k) c row) ≡ cost_from s.ends 0 (up_to gs c (k + 1)) = ap (cost_from s.ends 0) (up_to_more gs c k row (omega (arith, low, long)) inside is) in
      let all = up_to_cost s.ends gs c (k + 1) (omega (arith, low, long)) in
      let z : into s.ends (0 + c) ≡ into s.ends c = let e : 0 + c ≡ c = omega arith in ap (into s.ends) e in
      omega (arith, push, more, all, z)

  pub rows_building : (b : Option Functor) (c k : ℕ) → IfBuilding b (IsBare n) → IfBuilding (with_all_rows b (up_to gs c k)) (λ _. Unit {0})
  unfolding with_all_rows
  rows_building None c k h = h
  rows_building (Some F) c k h = tt

-- restrictions
module _ (at : List ElementRows) (n : ℕ) (long : length at ≡ n) where
  abbrev rs : List (List (List ℕ))
  rs = map restriction_rows at

  abbrev Pushed : Functor → Type 0
  Pushed F = (F.rows ≡ map element_rows at) × (F.restrictions ≡ replicate n [])

  same_count : (F : Functor) (o : ℕ) → F.rows ≡ map element_rows at → o < n → length (get_or rs o []) ≡ size_at F o
  same_count F o is low =
      ap length (mapped_at restriction_rows at o (omega (arith, low, long))) ∙ length-parts _ _ _
      ∙ sym (ap (λ r. length (get_or r o [])) is ∙ ap length (mapped_at element_rows at o (omega (arith, low, long))) ∙ length-parts _ _ _)

  pub restrictions_begin : (b : Option Functor) → IfBuilding b Pushed → b ≡ with_all_restrictions b (up_to rs 0 0)
  unfolding with_all_restrictions
  restrictions_begin None h = absurd h
  restrictions_begin (Some F) h = ap (λ r. Some (record F { restrictions = r })) (h.1 ∙ sym (up_to_none rs n (length-map at restriction_rows ∙ long)))

  pub restrictions_first : (b : Option Functor) (c k : ℕ) → IfBuilding b Pushed → c < n → k < length (get_or rs c []) → IfBuilding (with_all_restrictions b (up_to rs c k)) (λ F. IsFirstOpen F c k)
  unfolding with_all_restrictions
  restrictions_first None c k h low inside = h
  restrictions_first (Some F) c k h low inside =
      let l : length rs ≡ n = length-map at restriction_rows ∙ long in
      record {
        before = λ o b. ap length (before rs c k o (omega (arith, b, low, l)) b) ∙ same_count F o h.0 (omega (arith, b, low));
        here = ap length (here rs c k (omega (arith, low, l))) ∙ length-take-le k (get_or rs c []) (omega arith);
        open_here = let e = same_count F c h.0 low in omega (arith, inside, e);
      }

  pub restrictions_more : (b : Option Functor) (c k : ℕ) (row : List ℕ) → c < n → k < length (get_or rs c []) → row ≡ get_or (get_or rs c []) k [] →
      with_restrictions (with_all_restrictions b (up_to rs c k)) c row ≡ with_all_restrictions b (up_to rs c (k + 1))
  unfolding with_all_restrictions with_restrictions
  restrictions_more None c k row low inside is = refl
  restrictions_more (Some F) c k row low inside is =
      let l : length rs ≡ n = length-map at restriction_rows ∙ long in ap (λ r. Some (record F { restrictions = r })) (up_to_more rs c k row (omega (arith, low, l)) inside is)

  pub restrictions_building : (b : Option Functor) (c k : ℕ) → IfBuilding b Pushed → IfBuilding (with_all_restrictions b (up_to rs c k)) (λ _. Unit {0})
  unfolding with_all_restrictions
  restrictions_building None c k h = h
  restrictions_building (Some F) c k h = tt

-- the whole functor
module _ (key : Ty) (at : List ElementRows) (n : ℕ) (long : length at ≡ n) where
  abbrev pushed : Option Functor
  pushed = with_all_restrictions (with_all_rows (Some (bare key n)) (map element_rows at)) (map restriction_rows at)

  pub all_pushed : pushed ≡ Some (functor_from key at)
  unfolding with_all_restrictions with_all_rows bare functor_from
  all_pushed = refl

  pub all_whole : IsWhole (functor_from key at)
  unfolding functor_from
  all_whole o =
      elim (cases_lt o n) [
        | inl low ↦
            ap length (mapped_at restriction_rows at o (omega (arith, low, long))) ∙ length-parts _ _ _
            ∙ sym (ap length (mapped_at element_rows at o (omega (arith, low, long))) ∙ length-parts _ _ _)
        | inr high ↦
            ap length (get_or_past (map restriction_rows at) o [] (omega (arith, high, long, length-map at restriction_rows)))
            ∙ sym (ap length (get_or_past (map element_rows at) o [] (omega (arith, high, long, length-map at element_rows))))
      ]

  pub all_sealed : (Fs : List Functor) → sealed_with Fs (Some (functor_from key at)) ≡ Fs ++ functor_from key at ∷ []
  unfolding sealed_with
  all_sealed Fs = refl

  pub rows_pushed : IfBuilding (with_all_rows (Some (bare key n)) (map element_rows at)) (λ F. (F.rows ≡ map element_rows at) × (F.restrictions ≡ replicate n []))
  unfolding with_all_rows bare
  rows_pushed = (refl, refl)

  pub rows_cost : (s : Store) → cells (record s { building = with_all_rows (Some (bare key n)) (map element_rows at) }) ≡ cells (record s { building = None }) + cost s.ends (functor_from key at)
  unfolding with_all_rows bare cells cost_built cost functor_from
  rows_cost s = omega arith

-- what is pushed first
pub pushed_after : (b : Option Functor) (n : ℕ) (gs : List (List (List ℕ))) → IfBuilding b (IsBare n) → IfBuilding (with_all_rows b gs) (λ F. (F.rows ≡ gs) × (F.restrictions ≡ replicate n []))
unfolding with_all_rows
pushed_after None n gs h = absurd h
pushed_after (Some F) n gs h = (refl, h.restrictions)
