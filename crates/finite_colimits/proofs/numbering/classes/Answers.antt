use Rattle.std.proofs.Common.{ℕ, List, length, subst, sym}
use Rattle.finite_colimits.specs.Labels.{HaveClasses, AreNumbered}
use Rattle.finite_colimits.specs.Classes.{IsClasses}
use Rattle.finite_colimits.proofs.LabelSteps.{numbered_classes}
use Rattle.std.proofs.lemmas.Result.{IfOk-weaker}
use Rattle.finite_colimits.proofs.numbering.classes.Goals as goal

pub returns : goal.returns
returns c =
    let have = subst (λ (l : List ℕ). HaveClasses (length c.args.m.now) c.args.m.now c.args.n.now c.args.count l) (sym c.deref.ensures.value) c.in_ok-labels.ensures in
    IfOk-weaker c.numbered.result (λ a. AreNumbered c.deref.result.now (length c.deref.result.now) a.0 a.1) (λ a. IsClasses c.args.m.now c.args.n.now c.args.count a.0 a.1)
    (λ a n. numbered_classes c.args.m.now c.args.n.now c.args.count c.deref.result.now a.0 a.1 have
    (subst (λ (t : ℕ). AreNumbered c.deref.result.now t a.0 a.1) have.places n)) c.numbered.ensures
