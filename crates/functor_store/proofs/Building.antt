-- The steps of a build, for the loops that push elements and restrictions.
use Rattle.std.proofs.Common.{◌≡◌, ℕ, ◌+◌, ◌<◌, ◌≤◌, List, [], ◌∷◌, ◌++◌, length, get_or, replicate, refl, sym, ap, ◌∙◌, arith, inl, inr}
use Rattle.std.proofs.lemmas.Bool.{cases_lt, cases_eq}
use Rattle.std.proofs.lemmas.List.{get_or-set_same, get_or-set_other, get_or_past, get_or-replicate, get_or_append_left, get_or_push, length_push, length-set, length-replicate}
use Rattle.topos_model.specs.declared.ty.Ty.{Ty}
use Rattle.functor_store.specs.Store.{Functor, bare, push_at, size_at, element_at, IsNext, IsFirstOpen, IsWhole}
use Rattle.functor_store.specs.Building.{IsRestrictedTo}

-- groups, of which one has a member more
pub pushed_here : {X : Type 0} (gs : List (List X)) (c : ℕ) (x : X) → c < length gs → get_or (push_at gs c x) c [] ≡ get_or gs c [] ++ x ∷ []
unfolding push_at
pushed_here gs c x l = get_or-set_same gs c (get_or gs c [] ++ x ∷ []) [] l

pub pushed_elsewhere : {X : Type 0} (gs : List (List X)) (c o : ℕ) (x : X) → (o ≡ c → ⊥) → get_or (push_at gs c x) o [] ≡ get_or gs o []
unfolding push_at
pushed_elsewhere gs c o x ne = get_or-set_other gs c o (get_or gs c [] ++ x ∷ []) [] ne

pub length-push_at : {X : Type 0} (gs : List (List X)) (c : ℕ) (x : X) → length (push_at gs c x) ≡ length gs
unfolding push_at
length-push_at gs c x = length-set gs c (get_or gs c [] ++ x ∷ [])

pub length_pushed_here : {X : Type 0} (gs : List (List X)) (c : ℕ) (x : X) → c < length gs → length (get_or (push_at gs c x) c []) ≡ length (get_or gs c []) + 1
length_pushed_here gs c x l = ap length (pushed_here gs c x l) ∙ length_push (get_or gs c []) x

-- elements
module _ (F : Functor) (c : ℕ) (row : List ℕ) where
  -- the functor with an element more at c
  abbrev pub grown : Functor
  grown = record F { rows = push_at F.rows c row }

  pub size_grown : c < length F.rows → size_at grown c ≡ size_at F c + 1
  size_grown l = length_pushed_here F.rows c row l

  pub size_elsewhere : (o : ℕ) → (o ≡ c → ⊥) → size_at grown o ≡ size_at F o
  size_elsewhere o ne = ap length (pushed_elsewhere F.rows c o row ne)

  pub element_grown : c < length F.rows → element_at grown c (size_at F c) ≡ row
  element_grown l = ap (λ g. get_or g (size_at F c) []) (pushed_here F.rows c row l) ∙ get_or_push (get_or F.rows c []) row [] (size_at F c) refl

  pub element_before : (k : ℕ) → c < length F.rows → k < size_at F c → element_at grown c k ≡ element_at F c k
  element_before k l m = ap (λ g. get_or g k []) (pushed_here F.rows c row l) ∙ get_or_append_left (get_or F.rows c []) (row ∷ []) [] k m

  pub element_elsewhere : (o k : ℕ) → (o ≡ c → ⊥) → element_at grown o k ≡ element_at F o k
  element_elsewhere o k ne = ap (λ g. get_or g k []) (pushed_elsewhere F.rows c o row ne)

  -- the next element goes to the same object
  pub next_kept : IsNext F c → IsNext grown c
  next_kept h = record { nothing_after = λ o l. pushed_elsewhere F.rows c o row (λ e. absurd (omega (arith, l, e))) ∙ h.nothing_after o l; unrestricted = h.unrestricted }

-- or to a later one
pub next_later : (F : Functor) (c d : ℕ) → c ≤ d → IsNext F c → IsNext F d
next_later F c d le h = record { nothing_after = λ o l. h.nothing_after o (omega (arith, l, le)); unrestricted = h.unrestricted }

none_at : (m o : ℕ) → get_or (replicate {A = List (List ℕ)} m []) o [] ≡ []
none_at m o = elim (cases_lt o m) [
  | inl b ↦ get_or-replicate m o [] [] b
  | inr b ↦ get_or_past (replicate m []) o [] (omega (arith, length-replicate {A = List (List ℕ)} m [], b))
]

-- the first element goes to any object
pub next_begun : (key : Ty) (objects c : ℕ) → IsNext (bare key objects) c
unfolding bare
next_begun key objects c = record { nothing_after = λ o l. none_at objects o; unrestricted = none_at objects }

-- restrictions
module _ (F : Functor) (c k : ℕ) where
  pub open_from : IsRestrictedTo F c k → k < size_at F c → IsFirstOpen F c k
  open_from h l = record { before = h.before; here = h.here; open_here = l }

  pub restricted_one : (row : List ℕ) → c < length F.restrictions → IsRestrictedTo F c k → k < size_at F c → IsRestrictedTo (record F { restrictions = push_at F.restrictions c row }) c (k + 1)
  restricted_one row l h m =
      let here = h.here in
      record {
        before = λ o b. ap length (pushed_elsewhere F.restrictions c o row (λ e. absurd (omega (arith, b, e)))) ∙ h.before o b;
        here = length_pushed_here F.restrictions c row l ∙ ap (λ n. n + 1) here;
        within = omega (arith, m);
        after = λ o b. pushed_elsewhere F.restrictions c o row (λ e. absurd (omega (arith, b, e))) ∙ h.after o b;
      }

-- nothing has restrictions yet
pub restricted_none : (F : Functor) → ((o : ℕ) → get_or F.restrictions o [] ≡ []) → IsRestrictedTo F 0 0
restricted_none F none = record { before = λ o l. absurd (omega (arith, l)); here = ap length (none 0); within = omega arith; after = λ o l. none o }

-- all elements at c have theirs
pub restricted_object : (F : Functor) (c : ℕ) → IsRestrictedTo F c (size_at F c) → IsRestrictedTo F (c + 1) 0
restricted_object F c h =
    record {
      before = λ o l. elim (cases_eq o c) [
        | inl e ↦ ap (λ x. length (get_or F.restrictions x [])) e ∙ h.here ∙ ap (size_at F) (sym e)
        | inr ne ↦ h.before o (omega (arith, l, ne))
      ];
      here = ap length (h.after (c + 1) (omega arith));
      within = omega arith;
      after = λ o l. h.after o (omega (arith, l));
    }

-- all elements at all objects have theirs
pub whole_from : (F : Functor) (objects : ℕ) → length F.rows ≡ objects → IsRestrictedTo F objects 0 → IsWhole F
whole_from F objects few h o =
    elim (cases_lt o objects) [
      | inl b ↦ h.before o b
      | inr b ↦
          let none : size_at F o ≡ 0 = ap length (get_or_past F.rows o [] (omega (arith, few, b))) in
          elim (cases_eq o objects) [
            | inl e ↦ ap (λ x. length (get_or F.restrictions x [])) e ∙ h.here ∙ sym none
            | inr ne ↦ ap length (h.after o (omega (arith, b, ne))) ∙ sym none
          ]
    ]
