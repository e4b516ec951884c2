-- Terms with their variables changed, a form of term at a time.
use Rattle.std.proofs.Common.{◌≡◌, ℕ, suc, refl}
use Rattle.topos_model.specs.declared.ty.Ty.{Ty}
use denote.Hole.Carrier
use Rattle.topos_model.specs.declared.term.Term.{Term, Var, Star, Pair, Fst, Snd, App, Eval, Lam, Compr, Eq, Member, Truth, Falsity, And, Or, Implies, Not, Forall, Exists, Unique}
use Rattle.topos_model.specs.declared.term.Term.TheBlock.{hidden-the_row-Term-0}
use Rattle.topos_model.specs.formulas.TermChange.{changed}

pub changed-Var : (σ : ℕ → ℕ → Term) (d : ℕ) (k : ℕ) → changed σ d (Var k) ≡ σ d k
unfolding changed hidden-the_row-Term-0 Carrier.hidden
changed-Var σ d k = refl

pub changed-Star : (σ : ℕ → ℕ → Term) (d : ℕ) → changed σ d Star ≡ Star
unfolding changed hidden-the_row-Term-0 Carrier.hidden
changed-Star σ d = refl

pub changed-Pair : (σ : ℕ → ℕ → Term) (d : ℕ) (t : Term) (u : Term) → changed σ d (Pair t u) ≡ Pair (changed σ d t) (changed σ d u)
unfolding changed hidden-the_row-Term-0 Carrier.hidden
changed-Pair σ d t u = refl

pub changed-Fst : (σ : ℕ → ℕ → Term) (d : ℕ) (t : Term) → changed σ d (Fst t) ≡ Fst (changed σ d t)
unfolding changed hidden-the_row-Term-0 Carrier.hidden
changed-Fst σ d t = refl

pub changed-Snd : (σ : ℕ → ℕ → Term) (d : ℕ) (t : Term) → changed σ d (Snd t) ≡ Snd (changed σ d t)
unfolding changed hidden-the_row-Term-0 Carrier.hidden
changed-Snd σ d t = refl

pub changed-App : (σ : ℕ → ℕ → Term) (d : ℕ) (m : ℕ) (t : Term) → changed σ d (App m t) ≡ App m (changed σ d t)
unfolding changed hidden-the_row-Term-0 Carrier.hidden
changed-App σ d m t = refl

pub changed-Eval : (σ : ℕ → ℕ → Term) (d : ℕ) (t : Term) (u : Term) → changed σ d (Eval t u) ≡ Eval (changed σ d t) (changed σ d u)
unfolding changed hidden-the_row-Term-0 Carrier.hidden
changed-Eval σ d t u = refl

pub changed-Lam : (σ : ℕ → ℕ → Term) (d : ℕ) (T : Ty) (t : Term) → changed σ d (Lam T t) ≡ Lam T (changed σ (suc d) t)
unfolding changed hidden-the_row-Term-0 Carrier.hidden
changed-Lam σ d T t = refl

pub changed-Compr : (σ : ℕ → ℕ → Term) (d : ℕ) (T : Ty) (φ : Term) → changed σ d (Compr T φ) ≡ Compr T (changed σ (suc d) φ)
unfolding changed hidden-the_row-Term-0 Carrier.hidden
changed-Compr σ d T φ = refl

pub changed-Eq : (σ : ℕ → ℕ → Term) (d : ℕ) (t : Term) (u : Term) → changed σ d (Eq t u) ≡ Eq (changed σ d t) (changed σ d u)
unfolding changed hidden-the_row-Term-0 Carrier.hidden
changed-Eq σ d t u = refl

pub changed-Member : (σ : ℕ → ℕ → Term) (d : ℕ) (t : Term) (u : Term) → changed σ d (Member t u) ≡ Member (changed σ d t) (changed σ d u)
unfolding changed hidden-the_row-Term-0 Carrier.hidden
changed-Member σ d t u = refl

pub changed-Truth : (σ : ℕ → ℕ → Term) (d : ℕ) → changed σ d Truth ≡ Truth
unfolding changed hidden-the_row-Term-0 Carrier.hidden
changed-Truth σ d = refl

pub changed-Falsity : (σ : ℕ → ℕ → Term) (d : ℕ) → changed σ d Falsity ≡ Falsity
unfolding changed hidden-the_row-Term-0 Carrier.hidden
changed-Falsity σ d = refl

pub changed-And : (σ : ℕ → ℕ → Term) (d : ℕ) (φ : Term) (ψ : Term) → changed σ d (And φ ψ) ≡ And (changed σ d φ) (changed σ d ψ)
unfolding changed hidden-the_row-Term-0 Carrier.hidden
changed-And σ d φ ψ = refl

pub changed-Or : (σ : ℕ → ℕ → Term) (d : ℕ) (φ : Term) (ψ : Term) → changed σ d (Or φ ψ) ≡ Or (changed σ d φ) (changed σ d ψ)
unfolding changed hidden-the_row-Term-0 Carrier.hidden
changed-Or σ d φ ψ = refl

pub changed-Implies : (σ : ℕ → ℕ → Term) (d : ℕ) (φ : Term) (ψ : Term) → changed σ d (Implies φ ψ) ≡ Implies (changed σ d φ) (changed σ d ψ)
unfolding changed hidden-the_row-Term-0 Carrier.hidden
changed-Implies σ d φ ψ = refl

pub changed-Not : (σ : ℕ → ℕ → Term) (d : ℕ) (φ : Term) → changed σ d (Not φ) ≡ Not (changed σ d φ)
unfolding changed hidden-the_row-Term-0 Carrier.hidden
changed-Not σ d φ = refl

pub changed-Forall : (σ : ℕ → ℕ → Term) (d : ℕ) (T : Ty) (φ : Term) → changed σ d (Forall T φ) ≡ Forall T (changed σ (suc d) φ)
unfolding changed hidden-the_row-Term-0 Carrier.hidden
changed-Forall σ d T φ = refl

pub changed-Exists : (σ : ℕ → ℕ → Term) (d : ℕ) (T : Ty) (φ : Term) → changed σ d (Exists T φ) ≡ Exists T (changed σ (suc d) φ)
unfolding changed hidden-the_row-Term-0 Carrier.hidden
changed-Exists σ d T φ = refl

pub changed-Unique : (σ : ℕ → ℕ → Term) (d : ℕ) (T : Ty) (φ : Term) → changed σ d (Unique T φ) ≡ Unique T (changed σ (suc d) φ)
unfolding changed hidden-the_row-Term-0 Carrier.hidden
changed-Unique σ d T φ = refl

pub ruleset changed_rules = (changed-Var, changed-Star, changed-Pair, changed-Fst, changed-Snd, changed-App, changed-Eval, changed-Lam, changed-Compr, changed-Eq, changed-Member, changed-Truth, changed-Falsity, changed-And, changed-Or, changed-Implies, changed-Not, changed-Forall, changed-Exists, changed-Unique)
