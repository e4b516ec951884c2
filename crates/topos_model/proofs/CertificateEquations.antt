-- Certificates and the first certificate, a form of term at a time.
use Rattle.std.proofs.Common.{◌≡◌, ℕ, [], ◌&&◌, refl}
use Rattle.topos_model.specs.declared.ty.Ty.{Ty}
use Rattle.topos_model.specs.declared.answer.WhyNode.{WhyNode}
use denote.Hole.Carrier
use Rattle.topos_model.specs.declared.term.Term.{Term, Var, Star, Pair, Fst, Snd, App, Eval, Lam, Compr, Eq, Member, Truth, Falsity, And, Or, Implies, Not, Forall, Exists, Unique}
use Rattle.topos_model.specs.declared.term.Term.TheBlock.{hidden-the_row-Term-0}
use Rattle.topos_model.specs.formulas.Forcing.{World, Assigned, forces}
use Rattle.topos_model.specs.certificates.CertificateNodes.{same_truth, verdict, no_kids}
use Rattle.topos_model.specs.certificates.Certificates.{is_empty, and_shown, or_shown, implies_shown, not_shown, exists_shown, forall_shown, unique_shown, shows}
use Rattle.topos_model.specs.certificates.FirstCertificate.{make, and_children, or_children, implies_children, not_children, exists_children, forall_children, unique_children, part_of}

module _ (w : World) where
  pub shows-Var : (c : ℕ) (a : Assigned) (n : WhyNode) (k : ℕ) → shows w (Var k) c a n ≡ (same_truth (verdict n) (forces w (Var k) c a) && no_kids n)
  unfolding shows part_of hidden-the_row-Term-0 Carrier.hidden
  shows-Var c a n k = refl

  pub shows-Star : (c : ℕ) (a : Assigned) (n : WhyNode) → shows w Star c a n ≡ (same_truth (verdict n) (forces w Star c a) && no_kids n)
  unfolding shows part_of hidden-the_row-Term-0 Carrier.hidden
  shows-Star c a n = refl

  pub shows-Pair : (c : ℕ) (a : Assigned) (n : WhyNode) (t : Term) (u : Term) → shows w (Pair t u) c a n ≡ (same_truth (verdict n) (forces w (Pair t u) c a) && no_kids n)
  unfolding shows part_of hidden-the_row-Term-0 Carrier.hidden
  shows-Pair c a n t u = refl

  pub shows-Fst : (c : ℕ) (a : Assigned) (n : WhyNode) (t : Term) → shows w (Fst t) c a n ≡ (same_truth (verdict n) (forces w (Fst t) c a) && no_kids n)
  unfolding shows part_of hidden-the_row-Term-0 Carrier.hidden
  shows-Fst c a n t = refl

  pub shows-Snd : (c : ℕ) (a : Assigned) (n : WhyNode) (t : Term) → shows w (Snd t) c a n ≡ (same_truth (verdict n) (forces w (Snd t) c a) && no_kids n)
  unfolding shows part_of hidden-the_row-Term-0 Carrier.hidden
  shows-Snd c a n t = refl

  pub shows-App : (c : ℕ) (a : Assigned) (n : WhyNode) (m : ℕ) (t : Term) → shows w (App m t) c a n ≡ (same_truth (verdict n) (forces w (App m t) c a) && no_kids n)
  unfolding shows part_of hidden-the_row-Term-0 Carrier.hidden
  shows-App c a n m t = refl

  pub shows-Eval : (c : ℕ) (a : Assigned) (n : WhyNode) (t : Term) (u : Term) → shows w (Eval t u) c a n ≡ (same_truth (verdict n) (forces w (Eval t u) c a) && no_kids n)
  unfolding shows part_of hidden-the_row-Term-0 Carrier.hidden
  shows-Eval c a n t u = refl

  pub shows-Lam : (c : ℕ) (a : Assigned) (n : WhyNode) (T : Ty) (t : Term) → shows w (Lam T t) c a n ≡ (same_truth (verdict n) (forces w (Lam T t) c a) && no_kids n)
  unfolding shows part_of hidden-the_row-Term-0 Carrier.hidden
  shows-Lam c a n T t = refl

  pub shows-Compr : (c : ℕ) (a : Assigned) (n : WhyNode) (T : Ty) (φ : Term) → shows w (Compr T φ) c a n ≡ (same_truth (verdict n) (forces w (Compr T φ) c a) && no_kids n)
  unfolding shows part_of hidden-the_row-Term-0 Carrier.hidden
  shows-Compr c a n T φ = refl

  pub shows-Eq : (c : ℕ) (a : Assigned) (n : WhyNode) (t : Term) (u : Term) → shows w (Eq t u) c a n ≡ (same_truth (verdict n) (forces w (Eq t u) c a) && no_kids n)
  unfolding shows part_of hidden-the_row-Term-0 Carrier.hidden
  shows-Eq c a n t u = refl

  pub shows-Member : (c : ℕ) (a : Assigned) (n : WhyNode) (t : Term) (u : Term) → shows w (Member t u) c a n ≡ (same_truth (verdict n) (forces w (Member t u) c a) && no_kids n)
  unfolding shows part_of hidden-the_row-Term-0 Carrier.hidden
  shows-Member c a n t u = refl

  pub shows-Truth : (c : ℕ) (a : Assigned) (n : WhyNode) → shows w Truth c a n ≡ (verdict n && no_kids n)
  unfolding shows part_of hidden-the_row-Term-0 Carrier.hidden
  shows-Truth c a n = refl

  pub shows-Falsity : (c : ℕ) (a : Assigned) (n : WhyNode) → shows w Falsity c a n ≡ (same_truth (verdict n) (is_empty w c) && no_kids n)
  unfolding shows part_of hidden-the_row-Term-0 Carrier.hidden
  shows-Falsity c a n = refl

  pub shows-And : (c : ℕ) (a : Assigned) (n : WhyNode) (φ : Term) (ψ : Term) → shows w (And φ ψ) c a n ≡ and_shown w (shows w φ) (shows w ψ) c a n
  unfolding shows part_of hidden-the_row-Term-0 Carrier.hidden
  shows-And c a n φ ψ = refl

  pub shows-Or : (c : ℕ) (a : Assigned) (n : WhyNode) (φ : Term) (ψ : Term) → shows w (Or φ ψ) c a n ≡ or_shown w (shows w φ) (shows w ψ) c a n
  unfolding shows part_of hidden-the_row-Term-0 Carrier.hidden
  shows-Or c a n φ ψ = refl

  pub shows-Implies : (c : ℕ) (a : Assigned) (n : WhyNode) (φ : Term) (ψ : Term) → shows w (Implies φ ψ) c a n ≡ implies_shown w (shows w φ) (shows w ψ) c a n
  unfolding shows part_of hidden-the_row-Term-0 Carrier.hidden
  shows-Implies c a n φ ψ = refl

  pub shows-Not : (c : ℕ) (a : Assigned) (n : WhyNode) (φ : Term) → shows w (Not φ) c a n ≡ not_shown w (shows w φ) c a n
  unfolding shows part_of hidden-the_row-Term-0 Carrier.hidden
  shows-Not c a n φ = refl

  pub shows-Forall : (c : ℕ) (a : Assigned) (n : WhyNode) (T : Ty) (φ : Term) → shows w (Forall T φ) c a n ≡ forall_shown w T (shows w φ) c a n
  unfolding shows part_of hidden-the_row-Term-0 Carrier.hidden
  shows-Forall c a n T φ = refl

  pub shows-Exists : (c : ℕ) (a : Assigned) (n : WhyNode) (T : Ty) (φ : Term) → shows w (Exists T φ) c a n ≡ exists_shown w T (shows w φ) c a n
  unfolding shows part_of hidden-the_row-Term-0 Carrier.hidden
  shows-Exists c a n T φ = refl

  pub shows-Unique : (c : ℕ) (a : Assigned) (n : WhyNode) (T : Ty) (φ : Term) → shows w (Unique T φ) c a n ≡ unique_shown w T (shows w φ) c a n
  unfolding shows part_of hidden-the_row-Term-0 Carrier.hidden
  shows-Unique c a n T φ = refl

  pub ruleset shows_rules = (shows-Var, shows-Star, shows-Pair, shows-Fst, shows-Snd, shows-App, shows-Eval, shows-Lam, shows-Compr, shows-Eq, shows-Member, shows-Truth, shows-Falsity, shows-And, shows-Or, shows-Implies, shows-Not, shows-Forall, shows-Exists, shows-Unique)

module _ (w : World) where
  pub part_of-Var : (k : ℕ) → part_of w (Var k) ≡ (make w (forces w (Var k)) (λ answer c a. []))
  unfolding shows part_of hidden-the_row-Term-0 Carrier.hidden
  part_of-Var k = refl

  pub part_of-Star : part_of w Star ≡ (make w (forces w Star) (λ answer c a. []))
  unfolding shows part_of hidden-the_row-Term-0 Carrier.hidden
  part_of-Star = refl

  pub part_of-Pair : (t : Term) (u : Term) → part_of w (Pair t u) ≡ (make w (forces w (Pair t u)) (λ answer c a. []))
  unfolding shows part_of hidden-the_row-Term-0 Carrier.hidden
  part_of-Pair t u = refl

  pub part_of-Fst : (t : Term) → part_of w (Fst t) ≡ (make w (forces w (Fst t)) (λ answer c a. []))
  unfolding shows part_of hidden-the_row-Term-0 Carrier.hidden
  part_of-Fst t = refl

  pub part_of-Snd : (t : Term) → part_of w (Snd t) ≡ (make w (forces w (Snd t)) (λ answer c a. []))
  unfolding shows part_of hidden-the_row-Term-0 Carrier.hidden
  part_of-Snd t = refl

  pub part_of-App : (m : ℕ) (t : Term) → part_of w (App m t) ≡ (make w (forces w (App m t)) (λ answer c a. []))
  unfolding shows part_of hidden-the_row-Term-0 Carrier.hidden
  part_of-App m t = refl

  pub part_of-Eval : (t : Term) (u : Term) → part_of w (Eval t u) ≡ (make w (forces w (Eval t u)) (λ answer c a. []))
  unfolding shows part_of hidden-the_row-Term-0 Carrier.hidden
  part_of-Eval t u = refl

  pub part_of-Lam : (T : Ty) (t : Term) → part_of w (Lam T t) ≡ (make w (forces w (Lam T t)) (λ answer c a. []))
  unfolding shows part_of hidden-the_row-Term-0 Carrier.hidden
  part_of-Lam T t = refl

  pub part_of-Compr : (T : Ty) (φ : Term) → part_of w (Compr T φ) ≡ (make w (forces w (Compr T φ)) (λ answer c a. []))
  unfolding shows part_of hidden-the_row-Term-0 Carrier.hidden
  part_of-Compr T φ = refl

  pub part_of-Eq : (t : Term) (u : Term) → part_of w (Eq t u) ≡ (make w (forces w (Eq t u)) (λ answer c a. []))
  unfolding shows part_of hidden-the_row-Term-0 Carrier.hidden
  part_of-Eq t u = refl

  pub part_of-Member : (t : Term) (u : Term) → part_of w (Member t u) ≡ (make w (forces w (Member t u)) (λ answer c a. []))
  unfolding shows part_of hidden-the_row-Term-0 Carrier.hidden
  part_of-Member t u = refl

  pub part_of-Truth : part_of w Truth ≡ (make w (forces w Truth) (λ answer c a. []))
  unfolding shows part_of hidden-the_row-Term-0 Carrier.hidden
  part_of-Truth = refl

  pub part_of-Falsity : part_of w Falsity ≡ (make w (forces w Falsity) (λ answer c a. []))
  unfolding shows part_of hidden-the_row-Term-0 Carrier.hidden
  part_of-Falsity = refl

  pub part_of-And : (φ : Term) (ψ : Term) → part_of w (And φ ψ) ≡ make w (forces w (And φ ψ)) (and_children w (part_of w φ) (part_of w ψ))
  unfolding shows part_of hidden-the_row-Term-0 Carrier.hidden
  part_of-And φ ψ = refl

  pub part_of-Or : (φ : Term) (ψ : Term) → part_of w (Or φ ψ) ≡ make w (forces w (Or φ ψ)) (or_children w (part_of w φ) (part_of w ψ))
  unfolding shows part_of hidden-the_row-Term-0 Carrier.hidden
  part_of-Or φ ψ = refl

  pub part_of-Implies : (φ : Term) (ψ : Term) → part_of w (Implies φ ψ) ≡ make w (forces w (Implies φ ψ)) (implies_children w (part_of w φ) (part_of w ψ))
  unfolding shows part_of hidden-the_row-Term-0 Carrier.hidden
  part_of-Implies φ ψ = refl

  pub part_of-Not : (φ : Term) → part_of w (Not φ) ≡ make w (forces w (Not φ)) (not_children w (part_of w φ))
  unfolding shows part_of hidden-the_row-Term-0 Carrier.hidden
  part_of-Not φ = refl

  pub part_of-Forall : (T : Ty) (φ : Term) → part_of w (Forall T φ) ≡ make w (forces w (Forall T φ)) (forall_children w T (part_of w φ))
  unfolding shows part_of hidden-the_row-Term-0 Carrier.hidden
  part_of-Forall T φ = refl

  pub part_of-Exists : (T : Ty) (φ : Term) → part_of w (Exists T φ) ≡ make w (forces w (Exists T φ)) (exists_children w T (part_of w φ))
  unfolding shows part_of hidden-the_row-Term-0 Carrier.hidden
  part_of-Exists T φ = refl

  pub part_of-Unique : (T : Ty) (φ : Term) → part_of w (Unique T φ) ≡ make w (forces w (Unique T φ)) (unique_children w T (part_of w φ))
  unfolding shows part_of hidden-the_row-Term-0 Carrier.hidden
  part_of-Unique T φ = refl

  pub ruleset part_of_rules = (part_of-Var, part_of-Star, part_of-Pair, part_of-Fst, part_of-Snd, part_of-App, part_of-Eval, part_of-Lam, part_of-Compr, part_of-Eq, part_of-Member, part_of-Truth, part_of-Falsity, part_of-And, part_of-Or, part_of-Implies, part_of-Not, part_of-Forall, part_of-Exists, part_of-Unique)
