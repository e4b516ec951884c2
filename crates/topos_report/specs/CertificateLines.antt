-- The lines of a certificate: each node before its children.
use Rattle.std.specs.Prelude.{ℕ, suc, zero, ◌+◌, Bool, true, false, List, [], ◌++◌, codes, decimal, flat_map, Option, Some, None}
use Rattle.topos_model.specs.declared.ty.Ty.{Ty, One}
use Rattle.topos_model.specs.declared.term.Term.{Term, And', Or', Implies', Not', Forall', Exists', Unique', more_of-Term as only, end_of-Term as end}
use Rattle.topos_model.specs.declared.value.Val.{Val}
use Rattle.topos_model.specs.declared.answer.WhyNode.{WhyNode}
use Rattle.topos_model.specs.declared.doc.Doc.{Doc}
use Rattle.topos_model.specs.certificates.CertificateNodes.{side_of, arrow_of, extra_of, verdict, kids_of}
use Rattle.topos_report.specs.Names.{arrow_name}
use Rattle.topos_report.specs.Values.{ends_of, value_text}

-- yes or no
unfoldable pub verdict_text : Bool → List ℕ
verdict_text true = codes " yes"
verdict_text false = codes " no"

-- the part of a formula of two parts
unfoldable pub side_text : Option ℕ → List ℕ
side_text None = []
side_text (Some zero) = codes " left"
side_text (Some (suc n)) = codes " right"

module _ (doc : Doc) where
  -- an element of the bound variable's type at the object c
  unfoldable pub extra_text : Ty → ℕ → Option Val → List ℕ
  extra_text T c None = []
  extra_text T c (Some v) = codes " with " ++ value_text doc T c v

  -- what stands behind the depth of a child: its arrow, its element and its side
  unfoldable pub child_text : Ty → WhyNode → List ℕ
  child_text T n = codes " " ++ arrow_name doc (arrow_of n) ++ extra_text T (ends_of doc (arrow_of n)).0 (extra_of n) ++ side_text (side_of n)

  -- the line of one node
  unfoldable pub node_line : ℕ → List ℕ → WhyNode → List ℕ
  node_line depth text n = decimal depth ++ text ++ verdict_text (verdict n) ++ codes "\n"

  -- the left part, or the right one
  abbrev pub by_side : (WhyNode → List ℕ) → (WhyNode → List ℕ) → WhyNode → List ℕ
  by_side left right n = elim (side_of n) [ None ↦ left n | Some s ↦ elim s [ zero ↦ left n | suc r ↦ right n ] ]

  -- a node on a formula and the nodes below it, by what stands behind its depth
  unfoldable pub node_lines : Term → ℕ → List ℕ → WhyNode → List ℕ
  node_lines (And' _ (only φ end) _ (only ψ end)) depth text n =
      node_line depth text n ++ flat_map (by_side (λ kid. node_lines φ (depth + 1) (child_text One kid) kid) (λ kid. node_lines ψ (depth + 1) (child_text One kid) kid)) (kids_of n)
  node_lines (Or' _ (only φ end) _ (only ψ end)) depth text n =
      node_line depth text n ++ flat_map (by_side (λ kid. node_lines φ (depth + 1) (child_text One kid) kid) (λ kid. node_lines ψ (depth + 1) (child_text One kid) kid)) (kids_of n)
  node_lines (Implies' _ (only φ end) _ (only ψ end)) depth text n =
      node_line depth text n ++ flat_map (by_side (λ kid. node_lines φ (depth + 1) (child_text One kid) kid) (λ kid. node_lines ψ (depth + 1) (child_text One kid) kid)) (kids_of n)
  node_lines (Not' _ (only φ end)) depth text n = node_line depth text n ++ flat_map (λ kid. node_lines φ (depth + 1) (child_text One kid) kid) (kids_of n)
  node_lines (Forall' T _ (only φ end)) depth text n = node_line depth text n ++ flat_map (λ kid. node_lines φ (depth + 1) (child_text T kid) kid) (kids_of n)
  node_lines (Exists' T _ (only φ end)) depth text n = node_line depth text n ++ flat_map (λ kid. node_lines φ (depth + 1) (child_text T kid) kid) (kids_of n)
  node_lines (Unique' T _ (only φ end)) depth text n = node_line depth text n ++ flat_map (λ kid. node_lines φ (depth + 1) (child_text T kid) kid) (kids_of n)
  node_lines _ depth text n = node_line depth text n
