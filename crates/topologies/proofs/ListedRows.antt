-- Listed sieves as they are kept: one more family, one more object, and one more sieve.
use Rattle.std.proofs.Common.{◌≡◌, ℕ, zero, suc, ◌+◌, ◌<◌, ◌≤◌, true, false, cond, inl, inr, List, [], ◌∷◌, ◌++◌, length, get_or, drop, map, eqb, refl, sym, ap, subst, ◌∙◌, add-one, add-zero, zero-add, append_assoc, append-nil, arith}
use Rattle.std.specs.List.{range_with_len, flat_map}
use Rattle.std.proofs.Math.Seq.{drop-cons}
use Rattle.std.proofs.Math.ListN.{drop_of_length-le}
use Rattle.std.proofs.lemmas.List.{map-append}
use Rattle.std.proofs.lemmas.Bool.{eq-eqb, ne_eqb}
use Rattle.finite_lists.specs.Members.{In}
use Rattle.topos_model.specs.declared.raw.Family.{Family}
use Rattle.topos_model.specs.categories.Category.{Category, into, compose, generated}
use Rattle.topos_model.specs.topologies.TopologyFaults.{intersection, listed_sieves}
use Rattle.fin_category.specs.Masks.{all_added}
use Rattle.fin_category.proofs.ArrowLists.{same_members, In-all_added, In-all_added_from}
use Rattle.sieve_table.specs.declared.sieve.Sieve.{Sieve}
use Rattle.sieve_table.specs.Sieves.{sieve_arrows}
use Rattle.sieve_table.proofs.SieveComposites.{In-composites, In-composites_from, Rises-composites}
use Rattle.topos_model.proofs.ArrowsInto.{In-into_from}
use Rattle.finite_lists.proofs.Lists.{In-filter_from}
use Rattle.topos_model.specs.Laws.{IsInto}
use Rattle.topologies.specs.Candidates.{kept_as, listed_at, common_arrows}

-- a set of arrows generates what its list does
pub generated-set : (k : Category) (c : ℕ) (gs : List ℕ) → ((g : ℕ) → In gs g → g < 512) → generated k c (all_added [] gs) ≡ generated k c gs
unfolding generated
generated-set k c gs low =
    same_members _ _ (Rises-composites k (into k) c (all_added [] gs)) (Rises-composites k (into k) c gs)
    (λ h i.
    let (f, g, j, l, e) = In-composites_from k (into k) c (all_added [] gs) h i in
    let h' : IsInto k c (compose k f g) = subst (IsInto k c) (sym e) (In-into_from k c h (In-filter_from _ (into k c) h i).0) in
    subst (λ x. In (generated k c gs) x) e (In-composites k (into k) c gs f g h' (elim (In-all_added_from [] gs f j) [ inl n ↦ absurd n | inr m ↦ m ]) l))
    (λ h i.
    let (f, g, j, l, e) = In-composites_from k (into k) c gs h i in
    let h' : IsInto k c (compose k f g) = subst (IsInto k c) (sym e) (In-into_from k c h (In-filter_from _ (into k c) h i).0) in
    subst (λ x. In (generated k c (all_added [] gs)) x) e (In-composites k (into k) c (all_added [] gs) f g h' (In-all_added [] gs f (low f j) (inr j)) l))

module _ (k : Category) (c : ℕ) where
  listed_at-here : (family : Family) (rest : List Family) → eqb family.at c ≡ true → listed_at k (family ∷ rest) c ≡ (c, generated k c family.arrows) ∷ listed_at k rest c
  unfolding listed_sieves
  listed_at-here family rest e = rw e refl

  listed_at-other : (family : Family) (rest : List Family) → eqb family.at c ≡ false → listed_at k (family ∷ rest) c ≡ listed_at k rest c
  unfolding listed_sieves
  listed_at-other family rest e = rw e refl

  listed_at-none : listed_at k [] c ≡ []
  unfolding listed_sieves
  listed_at-none = refl

  left : (families : List Family) (i : ℕ) (family : Family) → i < length families → family ≡ get_or families i family → drop i families ≡ family ∷ drop (i + 1) families
  left families i family low is = drop-cons families i family low ∙ ap (λ f. f ∷ drop (suc i) families) (sym is) ∙ ap (λ j. family ∷ drop j families) (sym (add-one i))

  -- one more family of c
  pub listed-here : (families : List Family) (i : ℕ) (family : Family) (old new : List Sieve) (l : Sieve) → i < length families → family ≡ get_or families i family → family.at ≡ c →
      new ≡ old ++ l ∷ [] → l.at ≡ c → sieve_arrows l ≡ generated k c family.arrows →
      map kept_as new ++ listed_at k (drop (i + 1) families) c ≡ map kept_as old ++ listed_at k (drop i families) c
  listed-here families i family old new l low is at more lat arrows =
      let rest = listed_at k (drop (i + 1) families) c in
      let p : ◌≡◌ {A = ℕ × List ℕ} (kept_as l) (c, generated k c family.arrows) = ap (λ (x : ℕ). (x, sieve_arrows l)) lat ∙ ap (λ (S : List ℕ). (c, S)) arrows in
      ap (λ xs. map kept_as xs ++ rest) more ∙ ap (λ xs. xs ++ rest) (map-append kept_as old (l ∷ [])) ∙ append_assoc (map kept_as old) (kept_as l ∷ []) rest
      ∙ ap (λ x. map kept_as old ++ x ∷ rest) p
      ∙ ap (λ xs. map kept_as old ++ xs) (sym (listed_at-here family (drop (i + 1) families) (eq-eqb family.at c at)))
      ∙ ap (λ fs. map kept_as old ++ listed_at k fs c) (sym (left families i family low is))

  -- one more of another object
  pub listed-other : (families : List Family) (i : ℕ) (family : Family) (old : List Sieve) → i < length families → family ≡ get_or families i family → (family.at ≡ c → ⊥) →
      map kept_as old ++ listed_at k (drop (i + 1) families) c ≡ map kept_as old ++ listed_at k (drop i families) c
  listed-other families i family old low is other =
      ap (λ xs. map kept_as old ++ xs) (sym (listed_at-other family (drop (i + 1) families) (ne_eqb family.at c other)))
      ∙ ap (λ fs. map kept_as old ++ listed_at k fs c) (sym (left families i family low is))

  pub listed-end : (families : List Family) (i : ℕ) (old : List Sieve) → length families ≤ i → map kept_as old ++ listed_at k (drop i families) c ≡ map kept_as old
  listed-end families i old high =
      ap (λ fs. map kept_as old ++ listed_at k fs c) (drop_of_length-le families high) ∙ ap (λ xs. map kept_as old ++ xs) listed_at-none ∙ append-nil (map kept_as old)

-- the lists of the numbers up to n, joined
joined : {A : Type 0} (F : ℕ → List A) (a n : ℕ) → flat_map F (range_with_len a (suc n)) ≡ flat_map F (range_with_len a n) ++ F (a + n)
joined F a zero = append-nil (F a) ∙ ap F (sym (add-zero a))
joined F a (suc n) =
    let e : a + 1 + n ≡ a + suc n = omega arith in
    ap (λ xs. F a ++ xs) (joined F (a + 1) n ∙ ap (λ m. flat_map F (range_with_len (a + 1) n) ++ F m) e) ∙ sym (append_assoc (F a) (flat_map F (range_with_len (a + 1) n)) (F (a + suc n)))

pub joined-more : {A : Type 0} (F : ℕ → List A) (n : ℕ) → flat_map F (range_with_len 0 (n + 1)) ≡ flat_map F (range_with_len 0 n) ++ F n
joined-more F n = ap (λ m. flat_map F (range_with_len 0 m)) (add-one n) ∙ joined F 0 n ∙ ap (λ m. flat_map F (range_with_len 0 n) ++ F m) (zero-add n)

module _ (c : ℕ) where
  common_left : (S : List ℕ) (ls : List Sieve) (i : ℕ) (d : Sieve) → i < length ls →
      common_arrows c (cond (eqb (get_or ls i d).at c) (intersection S (sieve_arrows (get_or ls i d))) S) (drop (i + 1) ls) ≡ common_arrows c S (drop i ls)
  unfolding common_arrows
  common_left S ls i d low =
      ap (λ j. common_arrows c (cond (eqb (get_or ls i d).at c) (intersection S (sieve_arrows (get_or ls i d))) S) (drop j ls)) (add-one i)
      ∙ sym (ap (common_arrows c S) (drop-cons ls i d low))

  -- one more sieve of c, one of another object, and none
  pub common-here : (S T : List ℕ) (ls : List Sieve) (i : ℕ) (d : Sieve) → i < length ls → (get_or ls i d).at ≡ c → T ≡ intersection S (sieve_arrows (get_or ls i d)) →
      common_arrows c T (drop (i + 1) ls) ≡ common_arrows c S (drop i ls)
  common-here S T ls i d low e t =
      ap (λ U. common_arrows c U (drop (i + 1) ls)) (t ∙ ap (λ b. cond b (intersection S (sieve_arrows (get_or ls i d))) S) (sym (eq-eqb (get_or ls i d).at c e))) ∙ common_left S ls i d low

  pub common-other : (S : List ℕ) (ls : List Sieve) (i : ℕ) (d : Sieve) → i < length ls → ((get_or ls i d).at ≡ c → ⊥) → common_arrows c S (drop (i + 1) ls) ≡ common_arrows c S (drop i ls)
  common-other S ls i d low e =
      ap (λ U. common_arrows c U (drop (i + 1) ls)) (ap (λ b. cond b (intersection S (sieve_arrows (get_or ls i d))) S) (sym (ne_eqb (get_or ls i d).at c e))) ∙ common_left S ls i d low

  pub common-end : (S : List ℕ) (ls : List Sieve) (i : ℕ) → length ls ≤ i → common_arrows c S (drop i ls) ≡ S
  unfolding common_arrows
  common-end S ls i high = ap (common_arrows c S) (drop_of_length-le ls high)
