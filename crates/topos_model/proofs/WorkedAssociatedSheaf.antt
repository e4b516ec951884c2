-- A worked example: the associated sheaf of a presheaf on an idempotent, with its universal property.
use Rattle.std.proofs.Common.{◌≡◌, ℕ, zero, suc, ◌<◌, inl, inr, List, [], ◌∷◌, length, get_or, refl, sym, ◌∙◌, ap, subst, arith}
use Rattle.finite_lists.specs.Members.{In}
use Rattle.finite_lists.specs.Rising.{Rising, SublistBelow}
use Rattle.finite_lists.specs.Sublists.{sublists}
use Rattle.topos_model.specs.categories.Category.{into, dom, compose, is_sieve, sieves, generated, pull}
use Rattle.topos_model.specs.topologies.Cover.{is_cover, is_dense, is_listed, covers}
use Rattle.topos_model.specs.types.Types.{Presheaf}
use Rattle.topos_model.specs.Laws.{IsInto, act, size}
use Rattle.topos_model.specs.categories.Listed.{all_ends, composable, listed_composite, listed_category}
use Rattle.topos_model.specs.presheaves.Maps.{Components, component, IsNatural, after, apply, ExactlyOne}
use Rattle.topos_model.specs.topologies.Sheaves.{IsMatching, IsAmalgamation, IsSheaf, element_at}
use Rattle.topos_model.specs.topologies.PlusConstruction.{IsAssociated, pairs, trace, traces}
use Rattle.topos_model.proofs.ShortLists.{one_component, two_entries}
use Rattle.topos_model.proofs.WorkedPlus.{idempotent, X, X_traces_rise}
use Rattle.topos_model.proofs.WorkedSheafOnIdempotent.{k, A, e, target, object, two_at, A_functor, A_sheaf, e_natural}

-- what the example computes with
opened : Unit {0}
unfolding sublists into is_sieve sieves generated pull is_cover is_dense is_listed covers all_ends composable listed_composite listed_category pairs trace traces after
opened = tt

three_entries : (r : List ℕ) → length r ≡ 3 → r ≡ get_or r 0 0 ∷ get_or r 1 0 ∷ get_or r 2 0 ∷ []
three_entries [] p = absurd (omega (p, arith))
three_entries (x ∷ r) p = ap (λ (s : List ℕ). x ∷ s) (two_entries r (omega (p, arith)))

module _ (F : Presheaf) (m : Components) (sheaf : IsSheaf idempotent F) (natural : IsNatural k X F m) where
  -- where m sends x
  abbrev to : ℕ → ℕ
  to x = apply m 0 x

  to_below : (x : ℕ) → x < 3 → to x < size F 0
  unfolding opened
  to_below x low = natural.within 0 x (omega arith) low

  b_fixed : act F 1 (to 1) ≡ to 1
  unfolding opened
  b_fixed = sym (natural.commutes 0 1 1 (omega arith, refl) (omega arith))

  a_to_b : act F 1 (to 0) ≡ to 1
  unfolding opened
  a_to_b = sym (natural.commutes 0 1 0 (omega arith, refl) (omega arith))

  b_family : IsMatching k F (1 ∷ []) (to 1 ∷ [])
  unfolding opened
  b_family = record { count = refl; within = within; agree = agree }
    where
      within : (f : ℕ) → In {A = ℕ} (1 ∷ []) f → element_at (1 ∷ []) (to 1 ∷ []) f < size F (dom k f)
      within f (inl p) = subst (λ g. element_at (1 ∷ []) (to 1 ∷ []) g < size F (dom k g)) p (to_below 1 (omega arith))
      within f (inr n) = absurd n

      along : (g : ℕ) → g < 2 → act F g (to 1) ≡ element_at (1 ∷ []) (to 1 ∷ []) (compose k 1 g)
      along zero low = sym (natural.commutes 0 0 1 (omega arith, refl) (omega arith))
      along (suc zero) low = b_fixed
      along (suc (suc g)) low = absurd (omega (low, arith))

      agree : (f g : ℕ) → In {A = ℕ} (1 ∷ []) f → IsInto k (dom k f) g → act F g (element_at (1 ∷ []) (to 1 ∷ []) f) ≡ element_at (1 ∷ []) (to 1 ∷ []) (compose k f g)
      agree f g (inl p) i = subst (λ h. act F g (element_at (1 ∷ []) (to 1 ∷ []) h) ≡ element_at (1 ∷ []) (to 1 ∷ []) (compose k h g)) p (along g i.0)
      agree f g (inr n) i = absurd n

  amalgamates : (x : ℕ) → x < 3 → act F 1 (to x) ≡ to 1 → IsAmalgamation F 0 (1 ∷ []) (to 1 ∷ []) (to x)
  amalgamates x low p = record { within = to_below x low; restricts = restricts }
    where
      restricts : (f : ℕ) → In {A = ℕ} (1 ∷ []) f → act F f (to x) ≡ element_at (1 ∷ []) (to 1 ∷ []) f
      restricts f (inl q) = subst (λ g. act F g (to x) ≡ element_at (1 ∷ []) (to 1 ∷ []) g) q p
      restricts f (inr n) = absurd n

  -- a and b agree on a cover, so every sheaf identifies them
  a_is_b : to 0 ≡ to 1
  unfolding opened
  a_is_b =
      let one : ExactlyOne (IsAmalgamation F 0 (1 ∷ []) (to 1 ∷ [])) = sheaf 0 (1 ∷ []) (to 1 ∷ []) (omega arith) (inl refl) b_family in
      one.2 (to 0) (amalgamates 0 (omega arith) a_to_b) ∙ sym (one.2 (to 1) (amalgamates 1 (omega arith) b_fixed))

  m_is : m ≡ (to 1 ∷ to 1 ∷ to 2 ∷ []) ∷ []
  unfolding opened
  m_is =
      one_component m natural.objects
      ∙ ap (λ r. r ∷ []) (three_entries (get_or m 0 []) (natural.total 0 (omega arith)))
      ∙ ap (λ x. (x ∷ to 1 ∷ to 2 ∷ []) ∷ []) a_is_b

  abbrev factor : Components
  factor = (to 2 ∷ to 1 ∷ []) ∷ []

  factor_natural : IsNatural k A F factor
  unfolding opened
  factor_natural = record {
    objects = refl;
    total = λ c low. subst (λ d. length (get_or factor d []) ≡ size A d) (object c low) refl;
    within = λ c x c1 low. let p = object c c1 in subst (λ d. apply factor d x < size F d) p (within x (two_at c x p low));
    commutes = λ c f x i low. let p = target c f i in subst (λ d. apply factor (dom k f) (act A f x) ≡ act F f (apply factor d x)) p (along f x i.0 (two_at c x p low));
  }
    where
      within : (x : ℕ) → x < 2 → apply factor 0 x < size F 0
      within zero low = to_below 2 (omega arith)
      within (suc zero) low = to_below 1 (omega arith)
      within (suc (suc x)) low = absurd (omega (low, arith))

      along : (f x : ℕ) → f < 2 → x < 2 → apply factor (dom k f) (act A f x) ≡ act F f (apply factor 0 x)
      along zero zero l h = natural.commutes 0 0 2 (omega arith, refl) (omega arith)
      along zero (suc zero) l h = natural.commutes 0 0 1 (omega arith, refl) (omega arith)
      along (suc zero) zero l h = natural.commutes 0 1 2 (omega arith, refl) (omega arith)
      along (suc zero) (suc zero) l h = natural.commutes 0 1 1 (omega arith, refl) (omega arith)
      along zero (suc (suc x)) l h = absurd (omega (h, arith))
      along (suc zero) (suc (suc x)) l h = absurd (omega (h, arith))
      along (suc (suc f)) x l h = absurd (omega (l, arith))

  factors : ExactlyOne (λ n. IsNatural k A F n × (after n e ≡ m))
  unfolding opened
  factors = (factor, (factor_natural, sym m_is), unique)
    where
      unique : (n : Components) → IsNatural k A F n × (after n e ≡ m) → n ≡ factor
      unique n other =
          let composite : after (component n 0 ∷ []) e ≡ m = sym (ap (λ l. after l e) (one_component n other.0.objects)) ∙ other.1 in
          one_component n other.0.objects
          ∙ ap (λ r. r ∷ []) (two_entries (get_or n 0 []) (other.0.total 0 (omega arith)))
          ∙ ap (λ x. (x ∷ apply n 0 1 ∷ []) ∷ []) (ap (λ r. apply r 0 2) composite)
          ∙ ap (λ x. (to 2 ∷ x ∷ []) ∷ []) (ap (λ r. apply r 0 1) composite)

associated : IsAssociated idempotent X A e
unfolding opened
associated = record {
  functor = A_functor;
  sheaf = A_sheaf;
  natural = e_natural;
  factors = λ F m functor sheaf natural. factors F m sheaf natural;
  order = λ c low. subst (λ d. Rising (SublistBelow (pairs k X d)) (traces k X A e d)) (object c low) X_traces_rise;
}

-- the terminal presheaf identifies too much
one_point_not_associated : IsAssociated idempotent X (record { sizes = 1 ∷ []; along = (0 ∷ []) ∷ (0 ∷ []) ∷ [] }) ((0 ∷ 0 ∷ 0 ∷ []) ∷ []) → ⊥
unfolding opened
one_point_not_associated wrong =
    let n = wrong.factors A e A_functor A_sheaf e_natural in
    let composite : after (component n.0 0 ∷ []) ((0 ∷ 0 ∷ 0 ∷ []) ∷ []) ≡ e = sym (ap (λ l. after l ((0 ∷ 0 ∷ 0 ∷ []) ∷ [])) (one_component n.0 n.1.0.objects)) ∙ n.1.1 in
    let from_a : apply n.0 0 0 ≡ 1 = ap (λ r. apply r 0 0) composite in
    let from_c : apply n.0 0 0 ≡ 0 = ap (λ r. apply r 0 2) composite in
    absurd (omega (from_a, from_c, arith))
