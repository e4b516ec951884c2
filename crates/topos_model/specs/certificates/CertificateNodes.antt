-- The nodes of a certificate, and tests of their lists.
use Rattle.std.specs.Prelude.{ℕ, Bool, true, false, ◌&&◌, not, List, [], ◌∷◌, length, filter, eqb, Option, Some, None}
use Rattle.topos_model.specs.declared.value.Val.{Val}
use Rattle.topos_model.specs.declared.answer.WhyNode.{WhyNode, out-WhyNode}
use Rattle.topos_model.specs.types.Values.{same}

abbrev pub same_truth : Bool → Bool → Bool
same_truth true b = b
same_truth false b = not b

abbrev pub same_side : Option ℕ → Option ℕ → Bool
same_side None None = true
same_side (Some m) (Some n) = eqb m n
same_side _ _ = false

abbrev pub same_extra : Option Val → Option Val → Bool
same_extra None None = true
same_extra (Some u) (Some v) = same u v
same_extra _ _ = false

-- the parts of a node
unfoldable pub side_of : WhyNode → Option ℕ
side_of n = (out-WhyNode n).side

unfoldable pub arrow_of : WhyNode → ℕ
arrow_of n = (out-WhyNode n).arrow

unfoldable pub extra_of : WhyNode → Option Val
extra_of n = (out-WhyNode n).extra

unfoldable pub verdict : WhyNode → Bool
verdict n = (out-WhyNode n).yes

unfoldable pub kids_of : WhyNode → List WhyNode
kids_of n = (out-WhyNode n).kids

-- a node with this part of its parent's formula, this arrow, this bound element and this verdict
unfoldable pub agrees : Option ℕ → ℕ → Option Val → Bool → WhyNode → Bool
agrees side f extra answer n = same_side (side_of n) side && eqb (arrow_of n) f && same_extra (extra_of n) extra && same_truth (verdict n) answer

-- each test on its node, in order
abbrev pub meet_tests : List (WhyNode → Bool) → List WhyNode → Bool
meet_tests [] [] = true
meet_tests (test ∷ tests) (n ∷ ns) = test n && meet_tests tests ns
meet_tests _ _ = false

abbrev pub no_kids : WhyNode → Bool
no_kids n = meet_tests [] (kids_of n)

-- how many children along f say yes
unfoldable pub count_yes : ℕ → List WhyNode → ℕ
count_yes f kids = length (filter (λ n. eqb (arrow_of n) f && verdict n) kids)
