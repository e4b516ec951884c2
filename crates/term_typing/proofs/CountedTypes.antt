-- The types that the pass over a term lists, with their parts, are those that the term counts.
use Rattle.std.proofs.Common.{◌≡◌, inl, inr, List, [], ◌∷◌, ◌++◌, refl, sym, subst}
use Rattle.std.specs.List.{flat_map}
use Rattle.std.proofs.lemmas.Grind.{flat_map-append}
use Rattle.finite_lists.specs.Members.{In}
use Rattle.finite_lists.proofs.Lists.{In-append_left, In-append_right, In-append_cases, In-flat_map, In-flat_map_from}
use Rattle.topos_model.specs.declared.ty.Ty.{Ty}
use Rattle.topos_model.specs.declared.context.MapTy.{MapTy}
use Rattle.topos_model.specs.declared.term.Term.{Term, Pair', Fst', Snd', App', Eval', Lam', Compr', Eq', Member', And', Or', Implies', Not', Forall', Exists', Unique', more_of-Term as only, end_of-Term as end}
use Rattle.topos_model.specs.formulas.Typing.{typed}
use Rattle.topos_model.specs.statements.Needs.{parts, product, inner, found, term_needs}
use Rattle.topos_model.proofs.NeedsEquations.{parts-Two}
use Rattle.term_typing.specs.Noted.{behind, inside, noted}

-- each member of one list is one of the other
abbrev pub Within : List Ty → List Ty → Type 0
Within xs ys = (U : Ty) → In xs U → In ys U

-- the same of the parts of the members
abbrev pub Counts : List Ty → List Ty → Type 0
Counts xs ys = Within (flat_map parts xs) (flat_map parts ys)

both_within : (xs ys zs ws : List Ty) → Within xs zs → Within ys ws → Within (xs ++ ys) (zs ++ ws)
both_within xs ys zs ws h k U i = elim (In-append_cases xs ys U i) [ inl a ↦ In-append_left zs ws U (h U a) | inr b ↦ In-append_right zs ws U (k U b) ]

within_counts : (xs ys : List Ty) → Within xs ys → Counts xs ys
within_counts xs ys h T i = let (U, j, k) = In-flat_map_from parts xs T i in In-flat_map parts ys U T (h U j) k

counts_cases : (xs ys zs : List Ty) → Counts xs zs → Counts ys zs → Counts (xs ++ ys) zs
counts_cases xs ys zs h k T i =
    let (U, j, p) = In-flat_map_from parts (xs ++ ys) T i in
    elim (In-append_cases xs ys U j) [ inl a ↦ h T (In-flat_map parts xs U T a p) | inr b ↦ k T (In-flat_map parts ys U T b p) ]

-- a type of the context is a part of the product
pub context_part : (Γ : List Ty) (U T : Ty) → In Γ U → In (parts U) T → In (parts (product Γ)) T
context_part [] U T i j = absurd i
context_part (S ∷ []) U T i j = elim i [ inl e ↦ subst (λ V. In (parts V) T) (sym e) j | inr none ↦ absurd none ]
context_part (S ∷ R ∷ Γ) U T i j =
    subst (λ l. In l T) (sym (parts-Two (product (R ∷ Γ)) S)) (inr (elim i [
      | inl e ↦ In-append_right (parts (product (R ∷ Γ))) (parts S) T (subst (λ V. In (parts V) T) (sym e) j)
      | inr k ↦ In-append_left (parts (product (R ∷ Γ))) (parts S) T (context_part (R ∷ Γ) U T k j)
    ]))

module _ (maps : List MapTy) where
  -- what a subterm counts
  abbrev pub own : List Ty × Term → List Ty
  own s = found (typed maps s.0 s.1) ++ product s.0 ∷ s.0

  abbrev pub owns : List (List Ty × Term) → List Ty
  owns l = flat_map own l

  -- what is listed is counted, from the proper subterms to the term
  listed_whole : (Γ : List Ty) (t : Term) → Within (inside maps Γ t) (owns (inner Γ t)) → Within (noted maps Γ t) (owns ((Γ, t) ∷ inner Γ t))
  unfolding behind
  listed_whole Γ t h U i = elim (In-append_cases (inside maps Γ t) (found (typed maps Γ t)) U i) [
    | inl a ↦ In-append_right (own (Γ, t)) (owns (inner Γ t)) U (h U a)
    | inr b ↦ In-append_left (own (Γ, t)) (owns (inner Γ t)) U (In-append_left (found (typed maps Γ t)) (product Γ ∷ Γ) U b)
  ]

  listed_both : (Γ : List Ty) (t u : Term) → Within (inside maps Γ t) (owns (inner Γ t)) → Within (inside maps Γ u) (owns (inner Γ u)) → Within (noted maps Γ t ++ noted maps Γ u) (owns ((Γ, t) ∷ inner Γ t ++ (Γ, u) ∷ inner Γ u))
  listed_both Γ t u h k =
      subst (Within (noted maps Γ t ++ noted maps Γ u)) (sym (flat_map-append own ((Γ, t) ∷ inner Γ t) ((Γ, u) ∷ inner Γ u)))
      (both_within (noted maps Γ t) (noted maps Γ u) (owns ((Γ, t) ∷ inner Γ t)) (owns ((Γ, u) ∷ inner Γ u)) (listed_whole Γ t h) (listed_whole Γ u k))

  own_product : (Γ : List Ty) (t : Term) → In (own (Γ, t)) (product Γ)
  own_product Γ t = In-append_right (found (typed maps Γ t)) (product Γ ∷ Γ) (product Γ) (inl refl)

  with_product : (Γ : List Ty) (t : Term) → Within (inside maps Γ t) (owns (inner Γ t)) → Within (product Γ ∷ noted maps Γ t) (owns ((Γ, t) ∷ inner Γ t))
  with_product Γ t h U i = elim i [
    | inl e ↦ In-append_left (own (Γ, t)) (owns (inner Γ t)) U (subst (In (own (Γ, t))) e (own_product Γ t))
    | inr j ↦ listed_whole Γ t h U j
  ]

  listed_one : (Γ : List Ty) (t : Term) (xs : List Ty) (l : List (List Ty × Term)) → xs ≡ noted maps Γ t → l ≡ ((Γ, t) ∷ inner Γ t) → Within (inside maps Γ t) (owns (inner Γ t)) → Within xs (owns l)
  listed_one Γ t xs l e f h = rw (e, f) (listed_whole Γ t h)

  listed_two : (Γ : List Ty) (t u : Term) (xs : List Ty) (l : List (List Ty × Term)) → xs ≡ noted maps Γ t ++ noted maps Γ u → l ≡ ((Γ, t) ∷ inner Γ t) ++ (Γ, u) ∷ inner Γ u → Within (inside maps Γ t) (owns (inner Γ t)) → Within (inside maps Γ u) (owns (inner Γ u)) → Within xs (owns l)
  listed_two Γ t u xs l e f h k = rw (e, f) (listed_both Γ t u h k)

  listed_bound : (Γ : List Ty) (S : Ty) (t : Term) (xs : List Ty) (l : List (List Ty × Term)) → xs ≡ product (S ∷ Γ) ∷ noted maps (S ∷ Γ) t → l ≡ ((S ∷ Γ, t) ∷ inner (S ∷ Γ) t) → Within (inside maps (S ∷ Γ) t) (owns (inner (S ∷ Γ) t)) → Within xs (owns l)
  listed_bound Γ S t xs l e f h = rw (e, f) (with_product (S ∷ Γ) t h)

  listed : (Γ : List Ty) (t : Term) → Within (inside maps Γ t) (owns (inner Γ t))
  unfolding inside inner
  listed Γ (Pair' m (only t end) n (only u end)) = listed_two Γ t u (inside maps Γ (Pair' m (only t end) n (only u end))) (inner Γ (Pair' m (only t end) n (only u end))) refl refl (listed Γ t) (listed Γ u)
  listed Γ (Fst' m (only t end)) = listed_one Γ t (inside maps Γ (Fst' m (only t end))) (inner Γ (Fst' m (only t end))) refl refl (listed Γ t)
  listed Γ (Snd' m (only t end)) = listed_one Γ t (inside maps Γ (Snd' m (only t end))) (inner Γ (Snd' m (only t end))) refl refl (listed Γ t)
  listed Γ (App' k m (only t end)) = listed_one Γ t (inside maps Γ (App' k m (only t end))) (inner Γ (App' k m (only t end))) refl refl (listed Γ t)
  listed Γ (Eval' m (only t end) n (only u end)) = listed_two Γ t u (inside maps Γ (Eval' m (only t end) n (only u end))) (inner Γ (Eval' m (only t end) n (only u end))) refl refl (listed Γ t) (listed Γ u)
  listed Γ (Lam' S m (only t end)) = listed_bound Γ S t (inside maps Γ (Lam' S m (only t end))) (inner Γ (Lam' S m (only t end))) refl refl (listed (S ∷ Γ) t)
  listed Γ (Compr' S m (only t end)) = listed_bound Γ S t (inside maps Γ (Compr' S m (only t end))) (inner Γ (Compr' S m (only t end))) refl refl (listed (S ∷ Γ) t)
  listed Γ (Eq' m (only t end) n (only u end)) = listed_two Γ t u (inside maps Γ (Eq' m (only t end) n (only u end))) (inner Γ (Eq' m (only t end) n (only u end))) refl refl (listed Γ t) (listed Γ u)
  listed Γ (Member' m (only t end) n (only u end)) = listed_two Γ t u (inside maps Γ (Member' m (only t end) n (only u end))) (inner Γ (Member' m (only t end) n (only u end))) refl refl (listed Γ t) (listed Γ u)
  listed Γ (And' m (only t end) n (only u end)) = listed_two Γ t u (inside maps Γ (And' m (only t end) n (only u end))) (inner Γ (And' m (only t end) n (only u end))) refl refl (listed Γ t) (listed Γ u)
  listed Γ (Or' m (only t end) n (only u end)) = listed_two Γ t u (inside maps Γ (Or' m (only t end) n (only u end))) (inner Γ (Or' m (only t end) n (only u end))) refl refl (listed Γ t) (listed Γ u)
  listed Γ (Implies' m (only t end) n (only u end)) = listed_two Γ t u (inside maps Γ (Implies' m (only t end) n (only u end))) (inner Γ (Implies' m (only t end) n (only u end))) refl refl (listed Γ t) (listed Γ u)
  listed Γ (Not' m (only t end)) = listed_one Γ t (inside maps Γ (Not' m (only t end))) (inner Γ (Not' m (only t end))) refl refl (listed Γ t)
  listed Γ (Forall' S m (only t end)) = listed_bound Γ S t (inside maps Γ (Forall' S m (only t end))) (inner Γ (Forall' S m (only t end))) refl refl (listed (S ∷ Γ) t)
  listed Γ (Exists' S m (only t end)) = listed_bound Γ S t (inside maps Γ (Exists' S m (only t end))) (inner Γ (Exists' S m (only t end))) refl refl (listed (S ∷ Γ) t)
  listed Γ (Unique' S m (only t end)) = listed_bound Γ S t (inside maps Γ (Unique' S m (only t end))) (inner Γ (Unique' S m (only t end))) refl refl (listed (S ∷ Γ) t)
  listed Γ _ = λ U i. i

  -- what is counted is listed, from the proper subterms to the term
  counted_own : (Γ : List Ty) (t : Term) → Counts (own (Γ, t)) (product Γ ∷ noted maps Γ t)
  unfolding behind
  counted_own Γ t T i =
      let (U, j, k) = In-flat_map_from parts (own (Γ, t)) T i in
      elim (In-append_cases (found (typed maps Γ t)) (product Γ ∷ Γ) U j) [
        | inl a ↦ In-flat_map parts (product Γ ∷ noted maps Γ t) U T (inr (In-append_right (inside maps Γ t) (found (typed maps Γ t)) U a)) k
        | inr b ↦ elim b [
          | inl e ↦ In-flat_map parts (product Γ ∷ noted maps Γ t) U T (inl e) k
          | inr c ↦ In-append_left (parts (product Γ)) (flat_map parts (noted maps Γ t)) T (context_part Γ U T c k)
        ]
      ]

  counted_whole : (Γ : List Ty) (t : Term) → Counts (owns (inner Γ t)) (product Γ ∷ inside maps Γ t) → Counts (owns ((Γ, t) ∷ inner Γ t)) (product Γ ∷ noted maps Γ t)
  unfolding behind
  counted_whole Γ t h =
      counts_cases (own (Γ, t)) (owns (inner Γ t)) (product Γ ∷ noted maps Γ t) (counted_own Γ t)
      (λ T i. within_counts (product Γ ∷ inside maps Γ t) (product Γ ∷ noted maps Γ t) (λ U j. elim j [ inl e ↦ inl e | inr k ↦ inr (In-append_left (inside maps Γ t) (found (typed maps Γ t)) U k) ]) T (h T i))

  counted_both : (Γ : List Ty) (t u : Term) → Counts (owns (inner Γ t)) (product Γ ∷ inside maps Γ t) → Counts (owns (inner Γ u)) (product Γ ∷ inside maps Γ u) → Counts (owns ((Γ, t) ∷ inner Γ t ++ (Γ, u) ∷ inner Γ u)) (product Γ ∷ noted maps Γ t ++ noted maps Γ u)
  counted_both Γ t u h k =
      let all = product Γ ∷ noted maps Γ t ++ noted maps Γ u in
      subst (λ l. Counts l all) (sym (flat_map-append own ((Γ, t) ∷ inner Γ t) ((Γ, u) ∷ inner Γ u)))
      (counts_cases (owns ((Γ, t) ∷ inner Γ t)) (owns ((Γ, u) ∷ inner Γ u)) all
      (λ T i. within_counts (product Γ ∷ noted maps Γ t) all (λ U j. elim j [ inl e ↦ inl e | inr a ↦ inr (In-append_left (noted maps Γ t) (noted maps Γ u) U a) ]) T (counted_whole Γ t h T i))
      (λ T i. within_counts (product Γ ∷ noted maps Γ u) all (λ U j. elim j [ inl e ↦ inl e | inr b ↦ inr (In-append_right (noted maps Γ t) (noted maps Γ u) U b) ]) T (counted_whole Γ u k T i)))

  counted_under : (Γ : List Ty) (S : Ty) (t : Term) → Counts (owns (inner (S ∷ Γ) t)) (product (S ∷ Γ) ∷ inside maps (S ∷ Γ) t) → Counts (owns ((S ∷ Γ, t) ∷ inner (S ∷ Γ) t)) (product Γ ∷ product (S ∷ Γ) ∷ noted maps (S ∷ Γ) t)
  counted_under Γ S t h T i =
      In-append_right (parts (product Γ)) (flat_map parts (product (S ∷ Γ) ∷ noted maps (S ∷ Γ) t)) T (counted_whole (S ∷ Γ) t h T i)

  counts_one : (Γ : List Ty) (t : Term) (xs : List Ty) (l : List (List Ty × Term)) → xs ≡ noted maps Γ t → l ≡ ((Γ, t) ∷ inner Γ t) → Counts (owns (inner Γ t)) (product Γ ∷ inside maps Γ t) → Counts (owns l) (product Γ ∷ xs)
  counts_one Γ t xs l e f h = rw (e, f) (counted_whole Γ t h)

  counts_two : (Γ : List Ty) (t u : Term) (xs : List Ty) (l : List (List Ty × Term)) → xs ≡ noted maps Γ t ++ noted maps Γ u → l ≡ ((Γ, t) ∷ inner Γ t) ++ (Γ, u) ∷ inner Γ u → Counts (owns (inner Γ t)) (product Γ ∷ inside maps Γ t) → Counts (owns (inner Γ u)) (product Γ ∷ inside maps Γ u) → Counts (owns l) (product Γ ∷ xs)
  counts_two Γ t u xs l e f h k = rw (e, f) (counted_both Γ t u h k)

  counts_bound : (Γ : List Ty) (S : Ty) (t : Term) (xs : List Ty) (l : List (List Ty × Term)) → xs ≡ product (S ∷ Γ) ∷ noted maps (S ∷ Γ) t → l ≡ ((S ∷ Γ, t) ∷ inner (S ∷ Γ) t) → Counts (owns (inner (S ∷ Γ) t)) (product (S ∷ Γ) ∷ inside maps (S ∷ Γ) t) → Counts (owns l) (product Γ ∷ xs)
  counts_bound Γ S t xs l e f h = rw (e, f) (counted_under Γ S t h)

  counts : (Γ : List Ty) (t : Term) → Counts (owns (inner Γ t)) (product Γ ∷ inside maps Γ t)
  unfolding inside inner
  counts Γ (Pair' m (only t end) n (only u end)) = counts_two Γ t u (inside maps Γ (Pair' m (only t end) n (only u end))) (inner Γ (Pair' m (only t end) n (only u end))) refl refl (counts Γ t) (counts Γ u)
  counts Γ (Fst' m (only t end)) = counts_one Γ t (inside maps Γ (Fst' m (only t end))) (inner Γ (Fst' m (only t end))) refl refl (counts Γ t)
  counts Γ (Snd' m (only t end)) = counts_one Γ t (inside maps Γ (Snd' m (only t end))) (inner Γ (Snd' m (only t end))) refl refl (counts Γ t)
  counts Γ (App' k m (only t end)) = counts_one Γ t (inside maps Γ (App' k m (only t end))) (inner Γ (App' k m (only t end))) refl refl (counts Γ t)
  counts Γ (Eval' m (only t end) n (only u end)) = counts_two Γ t u (inside maps Γ (Eval' m (only t end) n (only u end))) (inner Γ (Eval' m (only t end) n (only u end))) refl refl (counts Γ t) (counts Γ u)
  counts Γ (Lam' S m (only t end)) = counts_bound Γ S t (inside maps Γ (Lam' S m (only t end))) (inner Γ (Lam' S m (only t end))) refl refl (counts (S ∷ Γ) t)
  counts Γ (Compr' S m (only t end)) = counts_bound Γ S t (inside maps Γ (Compr' S m (only t end))) (inner Γ (Compr' S m (only t end))) refl refl (counts (S ∷ Γ) t)
  counts Γ (Eq' m (only t end) n (only u end)) = counts_two Γ t u (inside maps Γ (Eq' m (only t end) n (only u end))) (inner Γ (Eq' m (only t end) n (only u end))) refl refl (counts Γ t) (counts Γ u)
  counts Γ (Member' m (only t end) n (only u end)) = counts_two Γ t u (inside maps Γ (Member' m (only t end) n (only u end))) (inner Γ (Member' m (only t end) n (only u end))) refl refl (counts Γ t) (counts Γ u)
  counts Γ (And' m (only t end) n (only u end)) = counts_two Γ t u (inside maps Γ (And' m (only t end) n (only u end))) (inner Γ (And' m (only t end) n (only u end))) refl refl (counts Γ t) (counts Γ u)
  counts Γ (Or' m (only t end) n (only u end)) = counts_two Γ t u (inside maps Γ (Or' m (only t end) n (only u end))) (inner Γ (Or' m (only t end) n (only u end))) refl refl (counts Γ t) (counts Γ u)
  counts Γ (Implies' m (only t end) n (only u end)) = counts_two Γ t u (inside maps Γ (Implies' m (only t end) n (only u end))) (inner Γ (Implies' m (only t end) n (only u end))) refl refl (counts Γ t) (counts Γ u)
  counts Γ (Not' m (only t end)) = counts_one Γ t (inside maps Γ (Not' m (only t end))) (inner Γ (Not' m (only t end))) refl refl (counts Γ t)
  counts Γ (Forall' S m (only t end)) = counts_bound Γ S t (inside maps Γ (Forall' S m (only t end))) (inner Γ (Forall' S m (only t end))) refl refl (counts (S ∷ Γ) t)
  counts Γ (Exists' S m (only t end)) = counts_bound Γ S t (inside maps Γ (Exists' S m (only t end))) (inner Γ (Exists' S m (only t end))) refl refl (counts (S ∷ Γ) t)
  counts Γ (Unique' S m (only t end)) = counts_bound Γ S t (inside maps Γ (Unique' S m (only t end))) (inner Γ (Unique' S m (only t end))) refl refl (counts (S ∷ Γ) t)
  counts Γ _ = λ T i. absurd i

  pub needs_noted : (Γ : List Ty) (t : Term) (T : Ty) → In (term_needs maps Γ t) T → In (flat_map parts (product Γ ∷ noted maps Γ t)) T
  unfolding term_needs
  needs_noted Γ t T i = counted_whole Γ t (counts Γ t) T i

  pub noted_needed : (Γ : List Ty) (t : Term) (T : Ty) → In (flat_map parts (product Γ ∷ noted maps Γ t)) T → In (term_needs maps Γ t) T
  unfolding term_needs
  noted_needed Γ t T i = within_counts (product Γ ∷ noted maps Γ t) (owns ((Γ, t) ∷ inner Γ t)) (with_product Γ t (listed Γ t)) T i
