use Rattle.std.proofs.Common.{◌≡◌, Bool, true, false, ◌||◌, ◌&&◌, not, List, [], ◌∷◌, refl, ap, ◌∙◌, sym, nat_eq}
use Rattle.std.specs.List.{list_any, list_all}
use Rattle.truth_tables.specs.Tables.{decided}
use Rattle.truth_tables.proofs.quantifiers.Quantifier.decides.Goals as goal

any_true : (same : Bool → Bool) → ((b : Bool) → same b ≡ b) → (bs : List Bool) → list_any same bs ≡ list_any (λ b. b) bs
any_true same h [] = refl
any_true same h (b ∷ bs) = rw (h b, any_true same h bs) refl

no_false : (same : Bool → Bool) → ((b : Bool) → same b ≡ not b) → (bs : List Bool) → not (list_any same bs) ≡ list_all (λ b. b) bs
no_false same h [] = refl
no_false same h (b ∷ bs) = rw (h b) (at b (no_false same h bs))
  where
    at : (b : Bool) → not (list_any same bs) ≡ list_all (λ b. b) bs → not (not b || list_any same bs) ≡ (b && list_all (λ b. b) bs)
    at true e = e
    at false e = refl

pub returns-in-Some : goal.returns-in-Some
unfolding decided
returns-in-Some c =
    c.contains.ensures.value ∙ any_true _ (elim [ true ↦ refl | false ↦ refl ]) c.args.truths.now ∙ ap (λ q. decided q c.args.truths.now) (sym c.in-Some.is)

pub returns-in-Every : goal.returns-in-Every
unfolding decided
returns-in-Every c =
    ap not c.contains-in-Every.ensures.value ∙ no_false _ (elim [ true ↦ refl | false ↦ refl ]) c.args.truths.now ∙ ap (λ q. decided q c.args.truths.now) (sym c.in-Every.is)

pub returns-in-One : goal.returns-in-One
unfolding decided
returns-in-One c = ap (λ n. nat_eq n 1) c.count.ensures ∙ ap (λ q. decided q c.args.truths.now) (sym c.in-One.is)
