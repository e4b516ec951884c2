-- The first certificate of a formula: the true verdict at each node, with the first arrow, the first element and the left part wherever there is a choice.
use Rattle.std.specs.Prelude.{◌≡◌, ℕ, ◌+◌, ◌<◌, Bool, true, false, cond, ◌&&◌, ◌||◌, not, List, [], ◌∷◌, length, map, filter, flat_map, eqb, sum, Option, Some, None, Ok}
use Rattle.std.specs.List.{list_any, list_all, All}
use Rattle.finite_lists.specs.Members.{In}
use Rattle.topos_model.specs.declared.ty.Ty.{Ty, Omega}
use Rattle.topos_model.specs.declared.term.Term.{Term, And', Or', Implies', Not', Forall', Exists', Unique', more_of-Term as only, end_of-Term as end}
use Rattle.topos_model.specs.declared.value.Val.{Val}
use Rattle.topos_model.specs.declared.answer.WhyNode.{WhyNode, roll-WhyNode, fold-WhyNode}
use Rattle.topos_model.specs.declared.context.MapTy.{MapTy}
use Rattle.topos_model.specs.Laws.{IsCategory, IsTopology, IsFunctor}
use Rattle.topos_model.specs.topologies.LeastCovers.{least}
use Rattle.topos_model.specs.formulas.Typing.{typed}
use Rattle.topos_model.specs.formulas.Forcing.{World, Assigned, Property, onto, source, along, values, forces, tuples}
use Rattle.topos_model.specs.certificates.CertificateNodes.{verdict}
use Rattle.topos_model.specs.certificates.Certificates.{inhabited, is_cert}

-- the first member that passes, if any
abbrev pub first_such : {A : Type 0} → (A → Bool) → List A → List A
first_such test [] = []
first_such test (x ∷ rest) = cond (test x) (x ∷ []) (first_such test rest)

-- how many nodes a certificate has
unfoldable pub count_nodes : WhyNode → ℕ
count_nodes n = fold-WhyNode ℕ (λ node. 1 + sum node.kids) n

-- a part of a formula: its truth, and the children of its nodes
pub record Part : Type 0 where
  pub holds : Property
  pub children : ℕ → Assigned → List WhyNode

module _ (w : World) where
  -- a node on a part at an object and a tuple
  unfoldable pub node : Part → Option ℕ → ℕ → Option Val → ℕ → Assigned → WhyNode
  node part side f extra c a = roll-WhyNode (record { side = side; arrow = f; extra = extra; yes = part.holds c a; kids = part.children c a })

  -- the part along f, and at an element b there
  abbrev pub holds_along : Part → Assigned → ℕ → Bool
  holds_along part a f = part.holds (source w f) (along w f a)

  abbrev pub holds_at : Ty → Part → Assigned → ℕ → Val → Bool
  holds_at T part a f b = part.holds (source w f) ((T, b) ∷ along w f a)

  abbrev pub below : Option ℕ → Part → Assigned → ℕ → WhyNode
  below side part a f = node part side f None (source w f) (along w f a)

  abbrev pub left : Part → Assigned → ℕ → WhyNode
  left part a f = below (Some 0) part a f

  abbrev pub right : Part → Assigned → ℕ → WhyNode
  right part a f = below (Some 1) part a f

  abbrev pub below_at : Ty → Part → Assigned → ℕ → Val → WhyNode
  below_at T part a f b = node part None f (Some b) (source w f) ((T, b) ∷ along w f a)

  -- the children along f at each element
  abbrev pub below_all : Ty → Part → Assigned → ℕ → List WhyNode
  below_all T part a f = map (below_at T part a f) (values w T (source w f))

  abbrev pub holds_some : Ty → Part → Assigned → ℕ → Bool
  holds_some T part a f = list_any (holds_at T part a f) (values w T (source w f))

  abbrev pub holds_all : Ty → Part → Assigned → ℕ → Bool
  holds_all T part a f = list_all (holds_at T part a f) (values w T (source w f))

  abbrev pub holds_once : Ty → Part → Assigned → ℕ → Bool
  holds_once T part a f = eqb (length (filter (holds_at T part a f) (values w T (source w f)))) 1

  -- the children for each form and verdict
  unfoldable pub and_children : Part → Part → Bool → ℕ → Assigned → List WhyNode
  and_children φ ψ true c a = left φ a c ∷ right ψ a c ∷ []
  and_children φ ψ false c a = cond (holds_along φ a c) (right ψ a c) (left φ a c) ∷ []

  unfoldable pub or_children : Part → Part → Bool → ℕ → Assigned → List WhyNode
  or_children φ ψ true c a = map (λ f. cond (holds_along φ a f) (left φ a f) (right ψ a f)) (least w.site c)
  or_children φ ψ false c a =
      flat_map (λ f. left φ a f ∷ right ψ a f ∷ []) (first_such (λ f. not (holds_along φ a f || holds_along ψ a f)) (least w.site c))

  unfoldable pub implies_children : Part → Part → Bool → ℕ → Assigned → List WhyNode
  implies_children φ ψ true c a = map (λ f. cond (holds_along φ a f) (right ψ a f) (left φ a f)) (onto w c)
  implies_children φ ψ false c a =
      flat_map (λ f. left φ a f ∷ right ψ a f ∷ []) (first_such (λ f. holds_along φ a f && not (holds_along ψ a f)) (onto w c))

  unfoldable pub not_children : Part → Bool → ℕ → Assigned → List WhyNode
  not_children φ true c a = map (below None φ a) (inhabited w c)
  not_children φ false c a = map (below None φ a) (first_such (holds_along φ a) (inhabited w c))

  unfoldable pub exists_children : Ty → Part → Bool → ℕ → Assigned → List WhyNode
  exists_children T φ true c a =
      flat_map (λ f. map (below_at T φ a f) (first_such (holds_at T φ a f) (values w T (source w f)))) (least w.site c)
  exists_children T φ false c a = flat_map (below_all T φ a) (first_such (λ f. not (holds_some T φ a f)) (least w.site c))

  unfoldable pub forall_children : Ty → Part → Bool → ℕ → Assigned → List WhyNode
  forall_children T φ true c a = flat_map (below_all T φ a) (onto w c)
  forall_children T φ false c a =
      flat_map (λ f. map (below_at T φ a f) (first_such (λ b. not (holds_at T φ a f b)) (values w T (source w f)))) (first_such (λ f. not (holds_all T φ a f)) (onto w c))

  unfoldable pub unique_children : Ty → Part → Bool → ℕ → Assigned → List WhyNode
  unique_children T φ true c a = flat_map (below_all T φ a) (onto w c)
  unique_children T φ false c a = flat_map (below_all T φ a) (first_such (λ f. not (holds_once T φ a f)) (onto w c))

  -- a part with its verdict and the children that it calls for
  abbrev pub make : Property → (Bool → ℕ → Assigned → List WhyNode) → Part
  make holds children = record { holds = holds; children = λ c a. children (holds c a) c a }

  unfoldable pub part_of : Term → Part
  part_of (And' m (only φ end) n (only ψ end)) = make (forces w (And' m (only φ end) n (only ψ end))) (and_children (part_of φ) (part_of ψ))
  part_of (Or' m (only φ end) n (only ψ end)) = make (forces w (Or' m (only φ end) n (only ψ end))) (or_children (part_of φ) (part_of ψ))
  part_of (Implies' m (only φ end) n (only ψ end)) = make (forces w (Implies' m (only φ end) n (only ψ end))) (implies_children (part_of φ) (part_of ψ))
  part_of (Not' m (only φ end)) = make (forces w (Not' m (only φ end))) (not_children (part_of φ))
  part_of (Exists' T m (only φ end)) = make (forces w (Exists' T m (only φ end))) (exists_children T (part_of φ))
  part_of (Forall' T m (only φ end)) = make (forces w (Forall' T m (only φ end))) (forall_children T (part_of φ))
  part_of (Unique' T m (only φ end)) = make (forces w (Unique' T m (only φ end))) (unique_children T (part_of φ))
  part_of φ = make (forces w φ) (λ answer c a. [])

  unfoldable pub first_cert : Term → ℕ → Assigned → WhyNode
  first_cert φ c a = node (part_of φ) None c None c a

-- a certificate is right, and the first one is a certificate
abbrev pub CertificatesAreRight : World → List MapTy → Type 0
CertificatesAreRight w maps =
    (Γ : List Ty) (φ : Term) (c : ℕ) (a : Assigned) → IsCategory w.site.category → IsTopology w.site → All (IsFunctor w.site.category) w.functors →
    typed maps Γ φ ≡ Ok Omega → c < w.site.category.objects → In (tuples w Γ c) a →
    ((n : WhyNode) → is_cert w φ c a n ≡ true → verdict n ≡ forces w φ c a) × (is_cert w φ c a (first_cert w φ c a) ≡ true)
