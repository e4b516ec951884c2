-- The numbers of pairs and of their parts.
use Rattle.std.proofs.Common.{◌≡◌, ℕ, zero, suc, ◌+◌, ◌*◌, ◌/◌, ◌%◌, ◌<◌, ◌≤◌, List, length, sym, ap, subst, ◌∙◌, arith, inl, inr}
use Rattle.std.proofs.Math.Nat.{mul-le-mul_right}
use Rattle.std.proofs.lemmas.Bool.{cases_lt}
use Rattle.std.proofs.lemmas.Nat.{div-add-mod'}
use Rattle.topos_model.specs.declared.ty.Ty.{Ty, Two}
use Rattle.topos_model.specs.declared.value.Val.{Val, Two as Pair}
use Rattle.topos_model.specs.topologies.Cover.{Site}
use Rattle.topos_model.specs.types.Types.{Presheaf, elements}
use Rattle.topos_model.specs.types.Values.{first_of, second_of}
use Rattle.topos_model.proofs.ValueEquations.{first_of-Two, second_of-Two}
use Rattle.functor_store.specs.Faithful.{Stands}
use Rattle.type_rows.specs.TypeRows.{value_at}
use Rattle.product_objects.proofs.ProductElements.{pair_below, length-pairs, pair_value}

module _ (s : Site) (functors : List Presheaf) (S T : Ty) (c : ℕ) where
  abbrev n : ℕ
  n = length (elements s functors T c)

  -- the number of a pair
  pub pair_stands : (a b m : ℕ) (u v : Val) → m ≡ length (elements s functors T c) → Stands s functors S c a u → Stands s functors T c b v →
      Stands s functors (Two S T) c (a * m + b) (Pair u v)
  pair_stands a b m u v e p q =
      let low = p.within in
      let low' : b < m = let h = q.within in omega (arith, e, h) in
      record {
        within = subst (λ l. a * m + b < l) (ap (λ x. length (elements s functors S c) * x) e ∙ sym (length-pairs s functors S T c)) (pair_below (length (elements s functors S c)) m a b low low');
        is = pair_value s functors S T c m a b e low low' ∙ ap (λ x. Pair x (value_at s functors T c b)) p.is ∙ ap (Pair u) q.is;
      }

  pub pair_few : (a b m : ℕ) (u v : Val) → m ≡ length (elements s functors T c) → Stands s functors S c a u → Stands s functors T c b v → a * m + b < length (elements s functors (Two S T) c)
  pair_few a b m u v e p q = (pair_stands a b m u v e p q).within

  module _ (k m : ℕ) (v : Val) (e : m ≡ length (elements s functors T c)) (h : Stands s functors (Two S T) c k v) where
    below : k < length (elements s functors S c) * m
    below = subst (λ l. k < l) (length-pairs s functors S T c ∙ ap (λ x. length (elements s functors S c) * x) (sym e)) h.within

    pub some : 0 < m
    some = positive m below
      where
        positive : (m : ℕ) → k < length (elements s functors S c) * m → 0 < m
        positive zero low = absurd (let z : length (elements s functors S c) * zero ≡ 0 = omega arith in omega (arith, low, z))
        positive (suc m) low = omega arith

    quotient : k / m < length (elements s functors S c)
    quotient =
        elim (cases_lt (k / m) (length (elements s functors S c))) [
          | inl l ↦ l
          | inr l ↦ absurd (let b : length (elements s functors S c) * m ≤ k / m * m = mul-le-mul_right m l in omega (arith, b, below, div-add-mod' k m))
        ]

    rest : k % m < m
    rest = let p = some in omega arith

    parts : Pair (value_at s functors S c (k / m)) (value_at s functors T c (k % m)) ≡ v
    parts = sym (pair_value s functors S T c m (k / m) (k % m) e quotient rest) ∙ ap (value_at s functors (Two S T) c) (div-add-mod' k m) ∙ h.is

    pub first_stands : Stands s functors S c (k / m) (first_of v)
    first_stands = record { within = quotient; is = sym (first_of-Two _ _) ∙ ap first_of parts }

    pub second_stands : Stands s functors T c (k % m) (second_of v)
    second_stands = record { within = let r = rest in omega (arith, r, e); is = sym (second_of-Two _ _) ∙ ap second_of parts }
