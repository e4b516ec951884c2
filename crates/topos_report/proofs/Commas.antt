-- Lists with commas, an item at a time.
use Rattle.std.proofs.Common.{◌≡◌, ℕ, ◌+◌, ◌<◌, List, [], ◌∷◌, ◌++◌, length, get_or, take, sym, ◌∙◌, ap, append_assoc, arith}
use Rattle.std.proofs.lemmas.List.{take_more, length-take, append-nil}
use Rattle.std.specs.Prelude.{codes}
use Rattle.std.proofs.lemmas.Grind.{flat_map-append}
use Rattle.topos_report.specs.Lists.{comma_separated, separator}

pub comma_separated-last : {X : Type 0} (spelling : X → List ℕ) (xs : List X) (x : X) →
    comma_separated spelling (xs ++ x ∷ []) ≡ comma_separated spelling xs ++ separator (length xs) ++ spelling x
comma_separated-last spelling [] x = simp append-nil
comma_separated-last spelling (y ∷ xs) x =
    rw (flat_map-append (λ z. codes ", " ++ spelling z) xs (x ∷ [])) (simp (append-nil, append_assoc))

pub comma_separated-more : {X : Type 0} (spelling : X → List ℕ) (xs : List X) (i : ℕ) (x : X) → i < length xs → x ≡ get_or xs i x →
    comma_separated spelling (take (i + 1) xs) ≡ comma_separated spelling (take i xs) ++ separator i ++ spelling x
comma_separated-more spelling xs i x h e =
    ap (comma_separated spelling) (take_more xs i x h ∙ ap (λ y. take i xs ++ y ∷ []) (sym e))
    ∙ comma_separated-last spelling (take i xs) x
    ∙ ap (λ n. comma_separated spelling (take i xs) ++ separator n ++ spelling x) (omega (arith, length-take i xs))
