use Rattle.std.proofs.Common.{◌≡◌, ◌<◌, sym, ap, subst, ◌∙◌, arith}
use Rattle.std.proofs.lemmas.Option.{get_or_from_slice_get}
use Rattle.finite_lists.specs.Members.{In}
use Rattle.topos_model.specs.categories.Category.{into}
use Rattle.fin_category.specs.ArrowSets.{arrows_in}
use Rattle.omega_object.specs.TruthValues.{closed_sieves}
use Rattle.omega_object.proofs.ClosedSieves.{maximal_in}
use Rattle.omega_object.proofs.Operations.{number_is}
use Rattle.omega_object.proofs.omega.Omega.greatest.Goals as goal

pub returns : goal.returns
returns c = λ s is.
    let x = c.args.c in
    let low : c.args.c < s.category.objects = omega (arith, c.requires.object, is.objects) in
    let e : arrows_in c.get.result.now ≡ into s.category x = ap arrows_in (sym (get_or_from_slice_get c.args.self.now.into x _ _ c.get.ensures)) ∙ is.into_is x low in
    let there = maximal_in s is.category is.topology x in
    number_is s c.args.self.now is x c.number.result _ _ e (c.number.ensures s is (subst (λ U. In (closed_sieves s x) U) (sym e) there))
