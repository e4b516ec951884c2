use Rattle.std.proofs.Common.{◌≡◌, ◌<◌, [], filter, sym, ap, subst, ◌∙◌, arith}
use Rattle.finite_lists.specs.Members.{In}
use Rattle.topos_model.specs.topologies.Cover.{contains}
use Rattle.topos_model.specs.topologies.LeastCovers.{closure}
use Rattle.fin_category.specs.Masks.{all_added}
use Rattle.fin_category.specs.ArrowSets.{arrows_in}
use Rattle.sieve_table.proofs.SieveMembers.{empty-sieve}
use Rattle.omega_object.specs.TruthValues.{closed_sieves}
use Rattle.omega_object.specs.Tables.{mask_at}
use Rattle.omega_object.proofs.ClosedSieves.{closure_in}
use Rattle.omega_object.proofs.Operations.{closed_is, number_is}
use Rattle.omega_object.proofs.omega.Omega.least.Goals as goal

pub returns : goal.returns
returns c = λ s is.
    let x = c.args.c in
    let low : c.args.c < s.category.objects = omega (arith, c.requires.object, is.objects) in
    let sieve = empty-sieve s.category x in
    let e : arrows_in c.closed.result ≡ closure s x [] =
    c.closed.ensures ∙ ap (λ U. all_added [] (filter (λ f. contains (mask_at c.args.self.now.covers f) U) (mask_at c.args.self.now.into x))) c.empty.ensures ∙ closed_is s c.args.self.now is x [] low sieve in
    let there = closure_in s is.category is.topology x [] sieve in
    number_is s c.args.self.now is x c.number.result _ _ e (c.number.ensures s is (subst (λ U. In (closed_sieves s x) U) (sym e) there))
