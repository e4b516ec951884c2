-- The product of a context, one variable after another.
use Rattle.std.proofs.Common.{◌≡◌, ℕ, ◌<◌, List, [], ◌∷◌, ◌++◌, length, reverse, take, get_or, refl, ap, ◌∙◌, ◌+◌, arith}
use Rattle.std.proofs.lemmas.List.{take_more, reverse-append, length-take-le, length-reverse}
use Rattle.topos_model.specs.declared.ty.Ty.{Ty, Two}
use Rattle.topos_model.specs.statements.Needs.{product}

product_more : (T : Ty) (Γ : List Ty) → 0 < length Γ → product (T ∷ Γ) ≡ Two (product Γ) T
product_more T [] some = absurd (none some)
  where
    none : 0 < 0 → ⊥
    none h = omega (arith, h)
product_more T (U ∷ Γ) some = refl

pub product_next : (types : List Ty) (i : ℕ) (T : Ty) → 0 < i → i < length types → get_or types i T ≡ T → product (reverse (take (i + 1) types)) ≡ Two (product (reverse (take i types))) T
product_next types i T some low is =
    let long : 0 < length (reverse (take i types)) = let e = length-reverse (take i types) in let l = length-take-le i types (omega (arith, low)) in omega (arith, e, l, some) in
    ap (λ l. product (reverse l)) (take_more types i T low ∙ ap (λ U. take i types ++ U ∷ []) is) ∙ ap product (reverse-append (take i types) (T ∷ [])) ∙ product_more T (reverse (take i types)) long

pub product_first : (types : List Ty) (T : Ty) → 0 < length types → get_or types 0 T ≡ T → product (reverse (take 1 types)) ≡ T
product_first [] T some is = absurd (none some)
  where
    none : 0 < 0 → ⊥
    none h = omega (arith, h)
product_first (U ∷ types) T some is = ap (λ l. product (reverse (U ∷ l))) (nothing types) ∙ is
  where
    nothing : (l : List Ty) → take 0 l ≡ []
    nothing [] = refl
    nothing (x ∷ l) = refl
