-- The maps that a term applies, a form of term at a time.
use Rattle.std.proofs.Common.{◌≡◌, ℕ, [], ◌∷◌, ◌++◌, refl}
use Rattle.topos_model.specs.declared.ty.Ty.{Ty}
use denote.Hole.Carrier
use Rattle.topos_model.specs.declared.term.Term.{Term, Var, Star, Pair, Fst, Snd, App, Eval, Lam, Compr, Eq, Member, Truth, Falsity, And, Or, Implies, Not, Forall, Exists, Unique}
use Rattle.topos_model.specs.declared.term.Term.TheBlock.{hidden-the_row-Term-0}
use Rattle.topos_model.specs.statements.StatementFaults.{applied}

pub applied-Var : (k : ℕ) → applied (Var k) ≡ []
unfolding applied hidden-the_row-Term-0 Carrier.hidden
applied-Var k = refl

pub applied-Star : applied Star ≡ []
unfolding applied hidden-the_row-Term-0 Carrier.hidden
applied-Star = refl

pub applied-Pair : (t : Term) (u : Term) → applied (Pair t u) ≡ (applied t ++ applied u)
unfolding applied hidden-the_row-Term-0 Carrier.hidden
applied-Pair t u = refl

pub applied-Fst : (t : Term) → applied (Fst t) ≡ applied t
unfolding applied hidden-the_row-Term-0 Carrier.hidden
applied-Fst t = refl

pub applied-Snd : (t : Term) → applied (Snd t) ≡ applied t
unfolding applied hidden-the_row-Term-0 Carrier.hidden
applied-Snd t = refl

pub applied-App : (m : ℕ) (t : Term) → applied (App m t) ≡ (m ∷ applied t)
unfolding applied hidden-the_row-Term-0 Carrier.hidden
applied-App m t = refl

pub applied-Eval : (t : Term) (u : Term) → applied (Eval t u) ≡ (applied t ++ applied u)
unfolding applied hidden-the_row-Term-0 Carrier.hidden
applied-Eval t u = refl

pub applied-Lam : (T : Ty) (t : Term) → applied (Lam T t) ≡ applied t
unfolding applied hidden-the_row-Term-0 Carrier.hidden
applied-Lam T t = refl

pub applied-Compr : (T : Ty) (φ : Term) → applied (Compr T φ) ≡ applied φ
unfolding applied hidden-the_row-Term-0 Carrier.hidden
applied-Compr T φ = refl

pub applied-Eq : (t : Term) (u : Term) → applied (Eq t u) ≡ (applied t ++ applied u)
unfolding applied hidden-the_row-Term-0 Carrier.hidden
applied-Eq t u = refl

pub applied-Member : (t : Term) (u : Term) → applied (Member t u) ≡ (applied t ++ applied u)
unfolding applied hidden-the_row-Term-0 Carrier.hidden
applied-Member t u = refl

pub applied-Truth : applied Truth ≡ []
unfolding applied hidden-the_row-Term-0 Carrier.hidden
applied-Truth = refl

pub applied-Falsity : applied Falsity ≡ []
unfolding applied hidden-the_row-Term-0 Carrier.hidden
applied-Falsity = refl

pub applied-And : (φ : Term) (ψ : Term) → applied (And φ ψ) ≡ (applied φ ++ applied ψ)
unfolding applied hidden-the_row-Term-0 Carrier.hidden
applied-And φ ψ = refl

pub applied-Or : (φ : Term) (ψ : Term) → applied (Or φ ψ) ≡ (applied φ ++ applied ψ)
unfolding applied hidden-the_row-Term-0 Carrier.hidden
applied-Or φ ψ = refl

pub applied-Implies : (φ : Term) (ψ : Term) → applied (Implies φ ψ) ≡ (applied φ ++ applied ψ)
unfolding applied hidden-the_row-Term-0 Carrier.hidden
applied-Implies φ ψ = refl

pub applied-Not : (φ : Term) → applied (Not φ) ≡ applied φ
unfolding applied hidden-the_row-Term-0 Carrier.hidden
applied-Not φ = refl

pub applied-Forall : (T : Ty) (φ : Term) → applied (Forall T φ) ≡ applied φ
unfolding applied hidden-the_row-Term-0 Carrier.hidden
applied-Forall T φ = refl

pub applied-Exists : (T : Ty) (φ : Term) → applied (Exists T φ) ≡ applied φ
unfolding applied hidden-the_row-Term-0 Carrier.hidden
applied-Exists T φ = refl

pub applied-Unique : (T : Ty) (φ : Term) → applied (Unique T φ) ≡ applied φ
unfolding applied hidden-the_row-Term-0 Carrier.hidden
applied-Unique T φ = refl

pub ruleset applied_rules = (applied-Var, applied-Star, applied-Pair, applied-Fst, applied-Snd, applied-App, applied-Eval, applied-Lam, applied-Compr, applied-Eq, applied-Member, applied-Truth, applied-Falsity, applied-And, applied-Or, applied-Implies, applied-Not, applied-Forall, applied-Exists, applied-Unique)
