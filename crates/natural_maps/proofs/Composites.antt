-- Composites of maps, one object more.
use Rattle.std.proofs.Common.{◌≡◌, ℕ, ◌+◌, ◌<◌, List, [], ◌∷◌, ◌++◌, length, take, refl, ap, ◌∙◌, arith}
use Rattle.std.proofs.lemmas.List.{take_more, length-take-le}
use Rattle.topos_model.specs.presheaves.Maps.{Components, component, after_component, after}

pub after-append : (n m : Components) (s r : List ℕ) → length n ≡ length m → after (n ++ s ∷ []) (m ++ r ∷ []) ≡ after n m ++ after_component s r ∷ []
unfolding after
after-append [] [] s r e = refl
after-append [] (b ∷ m) s r e = absurd (omega arith)
after-append (a ∷ n) [] s r e = absurd (omega arith)
after-append (a ∷ n) (b ∷ m) s r e = ap (λ l. after_component a b ∷ l) (after-append n m s r (omega arith))

pub after_more : (n m : Components) (c : ℕ) → c < length n → length m ≡ length n → after (take (c + 1) n) (take (c + 1) m) ≡ after (take c n) (take c m) ++ after_component (component n c) (component m c) ∷ []
after_more n m c low same =
    ap (λ l. after l (take (c + 1) m)) (take_more n c [] low) ∙ ap (after (take c n ++ component n c ∷ [])) (take_more m c [] (omega arith))
    ∙ after-append (take c n) (take c m) (component n c) (component m c) (omega (arith, length-take-le c n (omega arith), length-take-le c m (omega arith)))

pub after_none : [] ≡ after [] []
unfolding after
after_none = refl
