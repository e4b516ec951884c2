-- Assignments on a list of places: each is the table of its own look-ups, and each table of values is one.
use Rattle.std.proofs.Common.{◌≡◌, ℕ, Bool, true, ◌&&◌, ◌⊎◌, inl, inr, List, [], ◌∷◌, map, refl, sym, ◌∙◌, ap, subst, eqb}
use Rattle.std.proofs.lemmas.Bool.{eqb-true, eq-eqb, and_parts, and_from, cond-true, cond-false, cases_Bool}
use Rattle.topos_model.specs.declared.value.Val.{Val, Star}
use Rattle.topos_model.specs.declared.value.Entry.{Entry}
use Rattle.topos_model.specs.declared.value.Assign.{Assign}
use Rattle.finite_lists.specs.Members.{In, Distinct}
use Rattle.topos_model.specs.types.Types.{assignments, at_place}
use Rattle.topos_model.specs.types.Values.{same}
use Rattle.type_laws.proofs.Same.{same_equal, same_self}
use Rattle.finite_lists.proofs.Lists.{In-map, In-map_from, In-flat_map, In-flat_map_from, map_same}
use Rattle.finite_lists.proofs.DistinctLists.{Distinct-map, Distinct-flat_map}
use Rattle.type_laws.proofs.Places.{entry_equal}

abbrev pub row : (Entry → Val) → Entry → Assign
row t e = record { arrow = e.arrow; val = e.val; to = t e }

-- the assignment of t e to each place e
abbrev pub tabulate : (Entry → Val) → List Entry → List Assign
tabulate t ps = map (row t) ps

abbrev pub at_entry : List Assign → Entry → Val
at_entry l e = at_place e.arrow e.val l

abbrev test : Entry → Entry → Bool
test e x = eqb e.arrow x.arrow && same e.val x.val

test_equal : (e x : Entry) → test e x ≡ true → e ≡ x
test_equal e x h = let b = and_parts _ _ h in entry_equal e.arrow x.arrow e.val x.val (eqb-true _ _ b.0) (same_equal _ _ b.1)

equal_test : (e x : Entry) → e ≡ x → test e x ≡ true
equal_test e x h = subst (λ y. test e y ≡ true) h (and_from _ _ (eq-eqb e.arrow e.arrow refl) (same_self e.val))

abbrev mark : Entry → Val → Assign
mark e v = record { arrow = e.arrow; val = e.val; to = v }

pub at_here : (e x : Entry) (v : Val) (l : List Assign) → e ≡ x → at_entry (mark e v ∷ l) x ≡ v
unfolding at_place
at_here e x v l h = cond-true _ v (at_entry l x) (equal_test e x h)

pub at_later : (e x : Entry) (v : Val) (l : List Assign) → (e ≡ x → ⊥) → at_entry (mark e v ∷ l) x ≡ at_entry l x
unfolding at_place
at_later e x v l h =
    elim (cases_Bool (test e x)) [
      | inl passes ↦ absurd (h (test_equal e x passes))
      | inr off ↦ cond-false _ v (at_entry l x) off
    ]

same_or_not : (e x : Entry) → (e ≡ x) ⊎ (e ≡ x → ⊥)
same_or_not e x =
    elim (cases_Bool (test e x)) [
      | inl passes ↦ inl (test_equal e x passes)
      | inr off ↦ inr (λ h. let passes = equal_test e x h in cc)
    ]

pub at_tabulate : (t : Entry → Val) (ps : List Entry) (x : Entry) → In ps x → at_entry (tabulate t ps) x ≡ t x
at_tabulate t [] x h = absurd h
at_tabulate t (e ∷ ps) x (inl s) = at_here e x (t e) (tabulate t ps) s ∙ ap t s
at_tabulate t (e ∷ ps) x (inr h) =
    elim (same_or_not e x) [
      | inl s ↦ at_here e x (t e) (tabulate t ps) s ∙ ap t s
      | inr off ↦ at_later e x (t e) (tabulate t ps) off ∙ at_tabulate t ps x h
    ]

pub tabulate_In : (values : ℕ → List Val) (t : Entry → Val) (ps : List Entry) → ((e : Entry) → In ps e → In (values e.arrow) (t e)) → In (assignments values ps) (tabulate t ps)
unfolding assignments
tabulate_In values t [] h = inl refl
tabulate_In values t (e ∷ ps) h =
    In-flat_map _ (values e.arrow) (t e) _ (h e (inl refl)) (In-map (λ rest. mark e (t e) ∷ rest) (assignments values ps) _ (tabulate_In values t ps (λ x i. h x (inr i))))

-- an assignment on e ∷ ps: a value at e, before an assignment on ps
pub assignment_cases : (values : ℕ → List Val) (e : Entry) (ps : List Entry) (l : List Assign) → In (assignments values (e ∷ ps)) l →
    (v : Val) × (rest : List Assign) × In (values e.arrow) v × In (assignments values ps) rest × (mark e v ∷ rest ≡ l)
unfolding assignments
assignment_cases values e ps l h =
    let m = In-flat_map_from (λ v. map (λ rest. mark e v ∷ rest) (assignments values ps)) (values e.arrow) l h in
    let n = In-map_from (λ rest. mark e m.0 ∷ rest) (assignments values ps) l m.2 in
    (m.0, n.0, m.1, n.1, n.2)

pub at_within : (values : ℕ → List Val) (ps : List Entry) (l : List Assign) (x : Entry) → In (assignments values ps) l → In ps x → In (values x.arrow) (at_entry l x)
at_within values [] l x h i = absurd i
at_within values (e ∷ ps) l x h i =
    let m = assignment_cases values e ps l h in
    subst (λ l. In (values x.arrow) (at_entry l x)) m.4
    (elim (same_or_not e x) [
      | inl s ↦
          subst (λ v. In (values x.arrow) v) (sym (at_here e x m.0 m.1 s)) (subst (λ y. In (values y.arrow) m.0) s m.2)
      | inr off ↦
          subst (λ v. In (values x.arrow) v) (sym (at_later e x m.0 m.1 off)) (at_within values ps m.1 x m.3 (elim i [ inl s ↦ absurd (off s) | inr j ↦ j ]))
    ])

pub assignment_table : (values : ℕ → List Val) (ps : List Entry) (l : List Assign) → Distinct ps → In (assignments values ps) l → tabulate (at_entry l) ps ≡ l
unfolding assignments
assignment_table values [] l d (inl s) = s
assignment_table values [] l d (inr h) = absurd h
assignment_table values (e ∷ ps) l d h =
    let m = assignment_cases values e ps l h in
    subst (λ l. tabulate (at_entry l) (e ∷ ps) ≡ l) m.4
    (ap (λ v. mark e v ∷ tabulate (at_entry (mark e m.0 ∷ m.1)) ps) (at_here e e m.0 m.1 refl)
    ∙ ap (λ r. mark e m.0 ∷ r)
    (map_same (row (at_entry (mark e m.0 ∷ m.1))) (row (at_entry m.1)) ps (λ x i. ap (mark x) (at_later e x m.0 m.1 (λ s. d.0 (subst (λ y. In ps y) (sym s) i))))
    ∙ assignment_table values ps m.1 d.1 m.3))

-- a value with P at each place gives an assignment with P at each place
pub choose : (values : ℕ → List Val) (ps : List Entry) (P : Entry → Val → Type 0) → ((e : Entry) → In ps e → (v : Val) × In (values e.arrow) v × P e v) →
    (l : List Assign) × In (assignments values ps) l × ((e : Entry) → In ps e → P e (at_entry l e))
unfolding assignments
choose values [] P h = ([], inl refl, λ e i. absurd i)
choose values (e ∷ ps) P h =
    let first : (v : Val) × In (values e.arrow) v × P e v = h e (inl refl) in
    let rest : (l : List Assign) × In (assignments values ps) l × ((e : Entry) → In ps e → P e (at_entry l e)) = choose values ps P (λ x i. h x (inr i)) in (
      mark e first.0 ∷ rest.0,
      In-flat_map _ (values e.arrow) first.0 _ first.1 (In-map (λ l. mark e first.0 ∷ l) (assignments values ps) rest.0 rest.1),
      λ x i.
          elim (same_or_not e x) [
            | inl s ↦ subst (P x) (sym (at_here e x first.0 rest.0 s)) (subst (λ y. P y first.0) s first.2)
            | inr off ↦ subst (P x) (sym (at_later e x first.0 rest.0 off)) (rest.2 x (elim i [ inl s ↦ absurd (off s) | inr j ↦ j ]))
          ],
    )

pub Distinct-assignments : (values : ℕ → List Val) (ps : List Entry) → ((f : ℕ) → Distinct (values f)) → Distinct (assignments values ps)
unfolding assignments
Distinct-assignments values [] d = (λ h. h, tt)
Distinct-assignments values (e ∷ ps) d =
    Distinct-flat_map _ (values e.arrow) (d e.arrow)
    (λ v i. Distinct-map (λ rest. mark e v ∷ rest) (assignments values ps) (λ l m h. cc) (Distinct-assignments values ps d))
    (λ u v l h j.
    let m = In-map_from (λ rest. mark e u ∷ rest) (assignments values ps) l h in
    let n = In-map_from (λ rest. mark e v ∷ rest) (assignments values ps) l j in
    ap (first_to Star) (m.2 ∙ sym n.2))
  where
    first_to : Val → List Assign → Val
    first_to d [] = d
    first_to d (a ∷ l) = a.to
