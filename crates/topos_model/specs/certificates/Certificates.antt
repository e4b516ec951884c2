-- Certificates of forcing: each node has a verdict on a formula, and its children, on parts of the formula, are the reasons for it (VI.6, VI.7).
use Rattle.std.specs.Prelude.{ℕ, Bool, true, false, cond, ◌&&◌, ◌||◌, not, List, [], ◌∷◌, length, map, filter, flat_map, eqb, Option, Some, None}
use Rattle.std.specs.List.{list_any, list_all}
use Rattle.topos_model.specs.declared.ty.Ty.{Ty}
use Rattle.topos_model.specs.declared.term.Term.{Term, Truth, Falsity, And', Or', Implies', Not', Forall', Exists', Unique', more_of-Term as only, end_of-Term as end}
use Rattle.topos_model.specs.declared.value.Val.{Val}
use Rattle.topos_model.specs.declared.answer.WhyNode.{WhyNode}
use Rattle.topos_model.specs.certificates.CertificateNodes.{same_truth, verdict, kids_of, agrees, meet_tests, no_kids, count_yes}
use Rattle.topos_model.specs.topologies.LeastCovers.{least}
use Rattle.topos_model.specs.formulas.Forcing.{World, Assigned, onto, source, along, values, forces}

-- a test of the nodes on a formula, at each object and tuple
abbrev pub Check : Type 0
Check = ℕ → Assigned → WhyNode → Bool

module _ (w : World) where
  -- whether the empty sieve covers c
  abbrev pub is_empty : ℕ → Bool
  is_empty c = eqb (length (least w.site c)) 0

  -- the arrows into c whose domain the empty sieve does not cover
  unfoldable pub inhabited : ℕ → List ℕ
  inhabited c = filter (λ f. not (is_empty (source w f))) (onto w c)

  -- a child along f on a part, the left one, the right one or the only one; and on a part at an element b
  unfoldable pub on_part : Option ℕ → Check → Bool → Assigned → ℕ → WhyNode → Bool
  on_part side φ answer a f n = agrees side f None answer n && φ (source w f) (along w f a) n

  abbrev pub on_left : Check → Bool → Assigned → ℕ → WhyNode → Bool
  on_left φ = on_part (Some 0) φ

  abbrev pub on_right : Check → Bool → Assigned → ℕ → WhyNode → Bool
  on_right φ = on_part (Some 1) φ

  unfoldable pub on_element : Ty → Check → Bool → Assigned → ℕ → Val → WhyNode → Bool
  on_element T φ answer a f b n = agrees None f (Some b) answer n && φ (source w f) ((T, b) ∷ along w f a) n

  -- a child along f for each element, with any verdict
  abbrev pub on_all : Ty → Check → Assigned → ℕ → List (WhyNode → Bool)
  on_all T φ a f = map (λ b n. on_element T φ (verdict n) a f b n) (values w T (source w f))

  -- the rows of the table
  unfoldable pub and_shown : Check → Check → Check
  and_shown φ ψ c a n = cond (verdict n)
      (meet_tests (on_left φ true a c ∷ on_right ψ true a c ∷ []) (kids_of n))
      (meet_tests (on_left φ false a c ∷ []) (kids_of n) || meet_tests (on_right ψ false a c ∷ []) (kids_of n))

  unfoldable pub or_shown : Check → Check → Check
  or_shown φ ψ c a n = cond (verdict n)
      (meet_tests (map (λ f n. on_left φ true a f n || on_right ψ true a f n) (least w.site c)) (kids_of n))
      (list_any (λ f. meet_tests (on_left φ false a f ∷ on_right ψ false a f ∷ []) (kids_of n)) (least w.site c))

  unfoldable pub implies_shown : Check → Check → Check
  implies_shown φ ψ c a n = cond (verdict n)
      (meet_tests (map (λ f n. on_left φ false a f n || on_right ψ true a f n) (onto w c)) (kids_of n))
      (list_any (λ f. meet_tests (on_left φ true a f ∷ on_right ψ false a f ∷ []) (kids_of n)) (onto w c))

  unfoldable pub not_shown : Check → Check
  not_shown φ c a n = cond (verdict n)
      (meet_tests (map (on_part None φ false a) (inhabited c)) (kids_of n))
      (list_any (λ f. meet_tests (on_part None φ true a f ∷ []) (kids_of n)) (inhabited c))

  unfoldable pub exists_shown : Ty → Check → Check
  exists_shown T φ c a n = cond (verdict n)
      (meet_tests (map (λ f n. list_any (λ b. on_element T φ true a f b n) (values w T (source w f))) (least w.site c)) (kids_of n))
      (list_any (λ f. meet_tests (map (on_element T φ false a f) (values w T (source w f))) (kids_of n)) (least w.site c))

  unfoldable pub forall_shown : Ty → Check → Check
  forall_shown T φ c a n = cond (verdict n)
      (meet_tests (flat_map (λ f. map (on_element T φ true a f) (values w T (source w f))) (onto w c)) (kids_of n))
      (list_any (λ f. list_any (λ b. meet_tests (on_element T φ false a f b ∷ []) (kids_of n)) (values w T (source w f))) (onto w c))

  unfoldable pub unique_shown : Ty → Check → Check
  unique_shown T φ c a n = cond (verdict n)
      (meet_tests (flat_map (on_all T φ a) (onto w c)) (kids_of n) && list_all (λ f. eqb (count_yes f (kids_of n)) 1) (onto w c))
      (list_any (λ f. meet_tests (on_all T φ a f) (kids_of n) && not (eqb (count_yes f (kids_of n)) 1)) (onto w c))

  -- the children of a node give its verdict, and so on below them
  unfoldable pub shows : Term → Check
  shows Truth c a n = verdict n && no_kids n
  shows Falsity c a n = same_truth (verdict n) (is_empty c) && no_kids n
  shows (And' _ (only φ end) _ (only ψ end)) c a n = and_shown (shows φ) (shows ψ) c a n
  shows (Or' _ (only φ end) _ (only ψ end)) c a n = or_shown (shows φ) (shows ψ) c a n
  shows (Implies' _ (only φ end) _ (only ψ end)) c a n = implies_shown (shows φ) (shows ψ) c a n
  shows (Not' _ (only φ end)) c a n = not_shown (shows φ) c a n
  shows (Exists' T _ (only φ end)) c a n = exists_shown T (shows φ) c a n
  shows (Forall' T _ (only φ end)) c a n = forall_shown T (shows φ) c a n
  shows (Unique' T _ (only φ end)) c a n = unique_shown T (shows φ) c a n
  shows φ c a n = same_truth (verdict n) (forces w φ c a) && no_kids n

  -- a certificate of the formula at c: its root stands at the identity
  unfoldable pub is_cert : Term → Check
  is_cert φ c a n = agrees None c None (verdict n) n && shows φ c a n
