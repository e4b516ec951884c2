-- Simple terms and plain formulas, a form of term at a time.
use Rattle.std.proofs.Common.{◌≡◌, ℕ, true, false, ◌&&◌, refl}
use Rattle.topos_model.specs.declared.ty.Ty.{Ty}
use denote.Hole.Carrier
use Rattle.topos_model.specs.declared.term.Term.{Term, Var, Star, Pair, Fst, Snd, App, Eval, Lam, Compr, Eq, Member, Truth, Falsity, And, Or, Implies, Not, Forall, Exists, Unique}
use Rattle.topos_model.specs.declared.term.Term.TheBlock.{hidden-the_row-Term-0}
use Rattle.topos_model.specs.formulas.Plain.{is_simple, is_plain}

pub is_simple-Var : (k : ℕ) → is_simple (Var k) ≡ true
unfolding is_simple is_plain hidden-the_row-Term-0 Carrier.hidden
is_simple-Var k = refl

pub is_simple-Star : is_simple Star ≡ true
unfolding is_simple is_plain hidden-the_row-Term-0 Carrier.hidden
is_simple-Star = refl

pub is_simple-Pair : (t : Term) (u : Term) → is_simple (Pair t u) ≡ (is_simple t && is_simple u)
unfolding is_simple is_plain hidden-the_row-Term-0 Carrier.hidden
is_simple-Pair t u = refl

pub is_simple-Fst : (t : Term) → is_simple (Fst t) ≡ is_simple t
unfolding is_simple is_plain hidden-the_row-Term-0 Carrier.hidden
is_simple-Fst t = refl

pub is_simple-Snd : (t : Term) → is_simple (Snd t) ≡ is_simple t
unfolding is_simple is_plain hidden-the_row-Term-0 Carrier.hidden
is_simple-Snd t = refl

pub is_simple-App : (m : ℕ) (t : Term) → is_simple (App m t) ≡ is_simple t
unfolding is_simple is_plain hidden-the_row-Term-0 Carrier.hidden
is_simple-App m t = refl

pub is_simple-Eval : (t : Term) (u : Term) → is_simple (Eval t u) ≡ (is_simple t && is_simple u)
unfolding is_simple is_plain hidden-the_row-Term-0 Carrier.hidden
is_simple-Eval t u = refl

pub is_simple-Lam : (T : Ty) (t : Term) → is_simple (Lam T t) ≡ false
unfolding is_simple is_plain hidden-the_row-Term-0 Carrier.hidden
is_simple-Lam T t = refl

pub is_simple-Compr : (T : Ty) (φ : Term) → is_simple (Compr T φ) ≡ false
unfolding is_simple is_plain hidden-the_row-Term-0 Carrier.hidden
is_simple-Compr T φ = refl

pub is_simple-Eq : (t : Term) (u : Term) → is_simple (Eq t u) ≡ false
unfolding is_simple is_plain hidden-the_row-Term-0 Carrier.hidden
is_simple-Eq t u = refl

pub is_simple-Member : (t : Term) (u : Term) → is_simple (Member t u) ≡ false
unfolding is_simple is_plain hidden-the_row-Term-0 Carrier.hidden
is_simple-Member t u = refl

pub is_simple-Truth : is_simple Truth ≡ false
unfolding is_simple is_plain hidden-the_row-Term-0 Carrier.hidden
is_simple-Truth = refl

pub is_simple-Falsity : is_simple Falsity ≡ false
unfolding is_simple is_plain hidden-the_row-Term-0 Carrier.hidden
is_simple-Falsity = refl

pub is_simple-And : (φ : Term) (ψ : Term) → is_simple (And φ ψ) ≡ false
unfolding is_simple is_plain hidden-the_row-Term-0 Carrier.hidden
is_simple-And φ ψ = refl

pub is_simple-Or : (φ : Term) (ψ : Term) → is_simple (Or φ ψ) ≡ false
unfolding is_simple is_plain hidden-the_row-Term-0 Carrier.hidden
is_simple-Or φ ψ = refl

pub is_simple-Implies : (φ : Term) (ψ : Term) → is_simple (Implies φ ψ) ≡ false
unfolding is_simple is_plain hidden-the_row-Term-0 Carrier.hidden
is_simple-Implies φ ψ = refl

pub is_simple-Not : (φ : Term) → is_simple (Not φ) ≡ false
unfolding is_simple is_plain hidden-the_row-Term-0 Carrier.hidden
is_simple-Not φ = refl

pub is_simple-Forall : (T : Ty) (φ : Term) → is_simple (Forall T φ) ≡ false
unfolding is_simple is_plain hidden-the_row-Term-0 Carrier.hidden
is_simple-Forall T φ = refl

pub is_simple-Exists : (T : Ty) (φ : Term) → is_simple (Exists T φ) ≡ false
unfolding is_simple is_plain hidden-the_row-Term-0 Carrier.hidden
is_simple-Exists T φ = refl

pub is_simple-Unique : (T : Ty) (φ : Term) → is_simple (Unique T φ) ≡ false
unfolding is_simple is_plain hidden-the_row-Term-0 Carrier.hidden
is_simple-Unique T φ = refl

pub ruleset is_simple_rules = (is_simple-Var, is_simple-Star, is_simple-Pair, is_simple-Fst, is_simple-Snd, is_simple-App, is_simple-Eval, is_simple-Lam, is_simple-Compr, is_simple-Eq, is_simple-Member, is_simple-Truth, is_simple-Falsity, is_simple-And, is_simple-Or, is_simple-Implies, is_simple-Not, is_simple-Forall, is_simple-Exists, is_simple-Unique)

pub is_plain-Var : (k : ℕ) → is_plain (Var k) ≡ is_simple (Var k)
unfolding is_simple is_plain hidden-the_row-Term-0 Carrier.hidden
is_plain-Var k = refl

pub is_plain-Star : is_plain Star ≡ is_simple Star
unfolding is_simple is_plain hidden-the_row-Term-0 Carrier.hidden
is_plain-Star = refl

pub is_plain-Pair : (t : Term) (u : Term) → is_plain (Pair t u) ≡ is_simple (Pair t u)
unfolding is_simple is_plain hidden-the_row-Term-0 Carrier.hidden
is_plain-Pair t u = refl

pub is_plain-Fst : (t : Term) → is_plain (Fst t) ≡ is_simple (Fst t)
unfolding is_simple is_plain hidden-the_row-Term-0 Carrier.hidden
is_plain-Fst t = refl

pub is_plain-Snd : (t : Term) → is_plain (Snd t) ≡ is_simple (Snd t)
unfolding is_simple is_plain hidden-the_row-Term-0 Carrier.hidden
is_plain-Snd t = refl

pub is_plain-App : (m : ℕ) (t : Term) → is_plain (App m t) ≡ is_simple (App m t)
unfolding is_simple is_plain hidden-the_row-Term-0 Carrier.hidden
is_plain-App m t = refl

pub is_plain-Eval : (t : Term) (u : Term) → is_plain (Eval t u) ≡ is_simple (Eval t u)
unfolding is_simple is_plain hidden-the_row-Term-0 Carrier.hidden
is_plain-Eval t u = refl

pub is_plain-Lam : (T : Ty) (t : Term) → is_plain (Lam T t) ≡ is_simple (Lam T t)
unfolding is_simple is_plain hidden-the_row-Term-0 Carrier.hidden
is_plain-Lam T t = refl

pub is_plain-Compr : (T : Ty) (φ : Term) → is_plain (Compr T φ) ≡ is_simple (Compr T φ)
unfolding is_simple is_plain hidden-the_row-Term-0 Carrier.hidden
is_plain-Compr T φ = refl

pub is_plain-Eq : (t : Term) (u : Term) → is_plain (Eq t u) ≡ (is_simple t && is_simple u)
unfolding is_simple is_plain hidden-the_row-Term-0 Carrier.hidden
is_plain-Eq t u = refl

pub is_plain-Member : (t : Term) (u : Term) → is_plain (Member t u) ≡ (is_simple t && is_simple u)
unfolding is_simple is_plain hidden-the_row-Term-0 Carrier.hidden
is_plain-Member t u = refl

pub is_plain-Truth : is_plain Truth ≡ true
unfolding is_simple is_plain hidden-the_row-Term-0 Carrier.hidden
is_plain-Truth = refl

pub is_plain-Falsity : is_plain Falsity ≡ true
unfolding is_simple is_plain hidden-the_row-Term-0 Carrier.hidden
is_plain-Falsity = refl

pub is_plain-And : (φ : Term) (ψ : Term) → is_plain (And φ ψ) ≡ (is_plain φ && is_plain ψ)
unfolding is_simple is_plain hidden-the_row-Term-0 Carrier.hidden
is_plain-And φ ψ = refl

pub is_plain-Or : (φ : Term) (ψ : Term) → is_plain (Or φ ψ) ≡ (is_plain φ && is_plain ψ)
unfolding is_simple is_plain hidden-the_row-Term-0 Carrier.hidden
is_plain-Or φ ψ = refl

pub is_plain-Implies : (φ : Term) (ψ : Term) → is_plain (Implies φ ψ) ≡ (is_plain φ && is_plain ψ)
unfolding is_simple is_plain hidden-the_row-Term-0 Carrier.hidden
is_plain-Implies φ ψ = refl

pub is_plain-Not : (φ : Term) → is_plain (Not φ) ≡ is_plain φ
unfolding is_simple is_plain hidden-the_row-Term-0 Carrier.hidden
is_plain-Not φ = refl

pub is_plain-Forall : (T : Ty) (φ : Term) → is_plain (Forall T φ) ≡ is_plain φ
unfolding is_simple is_plain hidden-the_row-Term-0 Carrier.hidden
is_plain-Forall T φ = refl

pub is_plain-Exists : (T : Ty) (φ : Term) → is_plain (Exists T φ) ≡ is_plain φ
unfolding is_simple is_plain hidden-the_row-Term-0 Carrier.hidden
is_plain-Exists T φ = refl

pub is_plain-Unique : (T : Ty) (φ : Term) → is_plain (Unique T φ) ≡ is_plain φ
unfolding is_simple is_plain hidden-the_row-Term-0 Carrier.hidden
is_plain-Unique T φ = refl

pub ruleset is_plain_rules = (is_plain-Var, is_plain-Star, is_plain-Pair, is_plain-Fst, is_plain-Snd, is_plain-App, is_plain-Eval, is_plain-Lam, is_plain-Compr, is_plain-Eq, is_plain-Member, is_plain-Truth, is_plain-Falsity, is_plain-And, is_plain-Or, is_plain-Implies, is_plain-Not, is_plain-Forall, is_plain-Exists, is_plain-Unique)
