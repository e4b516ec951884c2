-- The chain of the squares with the same later place.
use Rattle.std.proofs.Common.{◌≡◌, ℕ, ◌+◌, ◌<◌, ◌≤◌, List, length, get_or, map, sym, ap, subst, ◌∙◌, arith}
use Rattle.std.proofs.lemmas.List.{get_or-map, length-map, get_or_default}
use Rattle.natural_search.specs.declared.squares.Square.{Square}
use Rattle.natural_search.specs.Squares.{AreChains, last_before}
use Rattle.natural_search.proofs.ChainLinks.{IsLast, last_is}

module _ (key : Square → ℕ) (squares : List Square) where
  -- the same of squares as of their keys
  pub record IsLastSquare (p n next : ℕ) : Type 0 where
    pub low : next ≤ n
    pub key_of : (i : ℕ) (d : Square) → i + 1 ≡ next → key (get_or squares i d) ≡ p
    pub none : (i : ℕ) (d : Square) → next ≤ i → i < n → key (get_or squares i d) ≡ p → ⊥

  of_squares : (p n next : ℕ) → n ≤ length squares → IsLast (map key squares) p n next → IsLastSquare p n next
  of_squares p n next within is = record {
    low = is.low;
    key_of = λ i d e. sym (get_or-map key squares i d 0 (omega (arith, is.low, e))) ∙ is.key i e;
    none = λ i d a b e. is.none i a b (get_or-map key squares i d 0 (omega arith) ∙ e);
  }

  module _ (count : ℕ) (heads links : List ℕ) (are : AreChains count (map key squares) heads links) where
    -- a chain begins at the last square with its key
    pub chain_first : (p next d : ℕ) → p < count → next ≡ get_or heads p d → IsLastSquare p (length squares) next
    chain_first p next d low read =
        let e : next ≡ last_before (map key squares) p (length squares) = read ∙ get_or_default heads p d 0 (omega (arith, are.first_places)) ∙ are.first p low ∙ ap (last_before (map key squares) p) (length-map squares key) in
        of_squares p (length squares) next (omega arith) (subst (IsLast (map key squares) p (length squares)) (sym e) (last_is (map key squares) p (length squares)))

    -- and goes on with the last one before
    pub chain_next : (p i next d : ℕ) (s : Square) → i < length squares → key (get_or squares i s) ≡ p → next ≡ get_or links i d → IsLastSquare p i next
    chain_next p i next d s low same read =
        let n : length (map key squares) ≡ length squares = length-map squares key in
        let at : get_or (map key squares) i 0 ≡ p = get_or-map key squares i s 0 low ∙ same in
        let e : next ≡ last_before (map key squares) p i = read ∙ get_or_default links i d 0 (omega (arith, are.next_places, n, low)) ∙ are.next i (omega (arith, n, low)) ∙ ap (λ q. last_before (map key squares) q i) at in
        of_squares p i next (omega arith) (subst (IsLast (map key squares) p i) (sym e) (last_is (map key squares) p i))

    pub links_within : (i : ℕ) → i < length squares → i < length links
    links_within i low = let n : length (map key squares) ≡ length squares = length-map squares key in omega (arith, are.next_places, n, low)
