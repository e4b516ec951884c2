-- Sequents, and the rules by which one follows from others (VI.5, VI.7).
use Rattle.std.specs.Prelude.{◌≡◌, ℕ, ◌<◌, true, List, [], ◌∷◌, ◌++◌, map, reverse, codes}
use Rattle.finite_lists.specs.Members.{In}
use Rattle.topos_model.specs.declared.ty.Ty.{Ty}
use Rattle.topos_model.specs.declared.term.Term.{Term}
use Rattle.topos_model.specs.declared.derivation.Step.{Step}
use Rattle.topos_model.specs.formulas.TermChange.{lift, substituted}
use Rattle.topos_model.specs.formulas.Forcing.{World, Assigned, tuples, forces}

-- formulas of a context, the innermost variable first, and a formula that they are to imply
pub record Sequent : Type 0 where
  pub context : List Ty
  pub hyps : List Term
  pub concl : Term

abbrev pub sequent_of : Step → Sequent
sequent_of step = record { context = reverse step.ctx.types; hyps = step.hyps; concl = step.concl }

-- at each object and each tuple of the context at which all hypotheses are forced the conclusion is
abbrev pub Holds : World → Sequent → Type 0
Holds w s =
    (c : ℕ) (a : Assigned) → c < w.site.category.objects → In (tuples w s.context c) a →
    ((φ : Term) → In s.hyps φ → forces w φ c a ≡ true) → forces w s.concl c a ≡ true

-- the same hypotheses with another conclusion; with one more hypothesis; and over one more variable
abbrev pub to_show : Sequent → Term → Sequent
to_show s φ = record s { concl = φ }

abbrev pub assuming : Term → Sequent → Sequent
assuming φ s = record s { hyps = s.hyps ++ φ ∷ [] }

abbrev pub over : Ty → Sequent → Sequent
over T s = record { context = T ∷ s.context; hyps = map (lift 0) s.hyps; concl = lift 0 s.concl }

-- t for the last variable
abbrev pub at : Term → Term → Term
at t φ = substituted t 0 φ

pub data Rule : Type 0 where
  Hyp : Rule
  Weaken : Rule
  TruthRule : Rule
  Absurd : Rule
  Both : Rule
  Left : Rule
  Right : Rule
  InLeft : Rule
  InRight : Rule
  Cases : Rule
  Intro : Rule
  Apply : Rule
  NotIntro : Rule
  NotApply : Rule
  AllRule : Rule
  Inst : Rule
  SomeRule : Rule
  Open : Rule
  Refl : Rule
  Subst : Rule
  MemberRule : Rule
  Beta : Rule
  ExtSub : Rule
  ExtFun : Rule
  PropExt : Rule
  PairRule : Rule
  First : Rule
  Second : Rule
  UnitRule : Rule

abbrev pub name_of : Rule → List ℕ
name_of Hyp = codes "hyp"
name_of Weaken = codes "weaken"
name_of TruthRule = codes "truth"
name_of Absurd = codes "absurd"
name_of Both = codes "both"
name_of Left = codes "left"
name_of Right = codes "right"
name_of InLeft = codes "inl"
name_of InRight = codes "inr"
name_of Cases = codes "cases"
name_of Intro = codes "intro"
name_of Apply = codes "apply"
name_of NotIntro = codes "nintro"
name_of NotApply = codes "napply"
name_of AllRule = codes "all"
name_of Inst = codes "inst"
name_of SomeRule = codes "some"
name_of Open = codes "open"
name_of Refl = codes "refl"
name_of Subst = codes "subst"
name_of MemberRule = codes "member"
name_of Beta = codes "beta"
name_of ExtSub = codes "extsub"
name_of ExtFun = codes "extfun"
name_of PropExt = codes "propext"
name_of PairRule = codes "pair"
name_of First = codes "first"
name_of Second = codes "second"
name_of UnitRule = codes "unit"
