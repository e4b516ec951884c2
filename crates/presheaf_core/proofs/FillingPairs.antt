-- The pair that fills a restriction: what it says, and the search for it along the arrows.
use Rattle.std.proofs.Common.{◌≡◌, ℕ, zero, suc, ◌<◌, ◌≤◌, Bool, true, false, ◌&&◌, ◌⊎◌, inl, inr, eqb, ltb, leb, length, map, filter, Some, None, refl, sym, ap, subst, ◌∙◌, arith}
use Rattle.std.specs.List.{range_with_len}
use Rattle.std.proofs.lemmas.Bool.{and_parts, and_left, and_right, eqb-true, ltb-true, leb-true, lt-ltb, le-ltb, le-leb}
use Rattle.finite_lists.specs.Members.{In}
use Rattle.finite_lists.specs.First.{first, some_if}
use Rattle.finite_lists.proofs.FirstAnswers.{first_some_each, first_same, first_none, first-map, first-flat_map, some_if-some}
use Rattle.fin_category.proofs.Composable.{In-composable_from}
use Rattle.topos_model.specs.categories.Category.{Category, dom, compose, into, arrows}
use Rattle.topos_model.specs.categories.Listed.{meet, composable}
use Rattle.topos_model.specs.Laws.{IsCategory}
use Rattle.topos_model.specs.categories.Filling.{fills, filling_pair, IsFilling}
use Rattle.presheaf_core.specs.Filling.{pair_at, pair_from}

gt-leb : (m n : ℕ) → n < m → leb m n ≡ false
gt-leb m n h = at (leb m n) refl
  where
    at : (b : Bool) → leb m n ≡ b → leb m n ≡ false
    at false e = e
    at true e = absurd (omega (arith, leb-true m n e))

pub fills_is : (k : Category) (f : ℕ) (p : ℕ × ℕ) → In (composable k.ends) p → fills k f p.0 p.1 ≡ true → IsFilling k f p
unfolding fills
fills_is k f p i t =
    let c = In-composable_from k.ends p.0 p.1 i in
    let a = and_parts _ _ t in
    let b = and_parts _ _ a.0 in
    let d = and_parts _ _ b.0 in
    let e = and_parts _ _ d.0 in
    ((c.0, (c.1, eqb-true _ _ c.2)), leb-true _ _ e.0, ltb-true _ _ e.1, leb-true _ _ d.1, ltb-true _ _ b.1, eqb-true _ _ a.1)

pub filling_is : (k : Category) (f : ℕ) (p : ℕ × ℕ) → filling_pair k f ≡ Some p → IsFilling k f p
unfolding filling_pair
filling_is k f p e =
    let r : (q : ℕ × ℕ) × In (composable k.ends) q × (some_if (fills k f q.0 q.1) q ≡ Some p) = first_some_each (λ (q : ℕ × ℕ). some_if (fills k f q.0 q.1) q) (composable k.ends) p e in
    let s = some_if-some (fills k f r.0.0 r.0.1) r.0 p r.2 in
    let same : r.0 ≡ p = cc in
    subst (IsFilling k f) same (fills_is k f r.0 r.1 s.0)

pub filling_by_rows : (k : Category) (f : ℕ) → filling_pair k f ≡ first (pair_from k f) (arrows k)
unfolding filling_pair pair_from composable into
filling_by_rows k f =
    first-flat_map (λ (p : ℕ × ℕ). some_if (fills k f p.0 p.1) p) (λ (g : ℕ). map (λ (h : ℕ). (g, h)) (filter (meet k.ends g) (range_with_len 0 (length k.ends)))) (range_with_len 0 (length k.ends))
    ∙ first_same _ _ (range_with_len 0 (length k.ends)) (λ g i. first-map (λ (p : ℕ × ℕ). some_if (fills k f p.0 p.1) p) (λ (h : ℕ). (g, h)) (filter (meet k.ends g) (range_with_len 0 (length k.ends))))

-- whether h fills f with a declared g before f, part by part
module _ (k : Category) (f g h : ℕ) where
  fills_cases : (a b c d e : Bool) → leb k.objects g ≡ a → ltb g f ≡ b → leb k.objects h ≡ c → ltb h f ≡ d → eqb (compose k g h) f ≡ e → fills k f g h ≡ (a && b && c && d && e)
  unfolding fills
  fills_cases a b c d e p q r s t = rw (p, q, r, s, t) refl

  pub fills_not-declared : h < k.objects → false ≡ fills k f g h
  unfolding fills
  fills_not-declared low = sym (and_left _ (eqb (compose k g h) f) (and_left _ (ltb h f) (and_right (leb k.objects g && ltb g f) (leb k.objects h) (gt-leb k.objects h low))))

  pub fills_not-before : f ≤ h → false ≡ fills k f g h
  unfolding fills
  fills_not-before high = sym (and_left _ (eqb (compose k g h) f) (and_right (leb k.objects g && ltb g f && leb k.objects h) (ltb h f) (le-ltb h f high)))

  pub fills_composite : k.objects ≤ g → g < f → k.objects ≤ h → h < f → eqb (compose k g h) f ≡ fills k f g h
  fills_composite p q r s = sym (fills_cases true true true true (eqb (compose k g h) f) (le-leb _ _ p) (lt-ltb _ _ q) (le-leb _ _ r) (lt-ltb _ _ s) refl)

-- no pair begins with an identity, or with an arrow from f on
pub pair_from-none : (k : Category) (f g : ℕ) → (g < k.objects) ⊎ (f ≤ g) → pair_from k f g ≡ None
unfolding pair_from fills
pair_from-none k f g out =
    first_none (pair_at k f g) (into k (dom k g)) (λ h i.
    ap (λ b. some_if b (g, h)) (and_left _ (eqb (compose k g h) f) (and_left _ (ltb h f) (and_left _ (leb k.objects h) (off out)))))
  where
    off : (g < k.objects) ⊎ (f ≤ g) → (leb k.objects g && ltb g f) ≡ false
    off (inl low) = and_left _ (ltb g f) (gt-leb k.objects g low)
    off (inr high) = and_right (leb k.objects g) (ltb g f) (le-ltb g f high)

-- there are at least as many arrows as objects
pub identities_are_arrows : (k : Category) → IsCategory k → k.objects ≤ length k.ends
identities_are_arrows k law = at k.objects refl
  where
    at : (n : ℕ) → k.objects ≡ n → k.objects ≤ length k.ends
    at zero e = omega arith
    at (suc n) e = let low = (law.identity n (omega arith)).0.0 in omega arith
