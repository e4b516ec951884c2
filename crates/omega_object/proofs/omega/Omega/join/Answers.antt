use Rattle.std.proofs.Common.{◌≡◌, ◌<◌, [], filter, sym, ap, subst, ◌∙◌, arith}
use Rattle.finite_lists.specs.Members.{In}
use Rattle.topos_model.specs.topologies.Cover.{contains}
use Rattle.topos_model.specs.topologies.LeastCovers.{closure}
use Rattle.fin_category.specs.Masks.{all_added, union}
use Rattle.fin_category.specs.ArrowSets.{arrows_in}
use Rattle.omega_object.specs.TruthValues.{closed_sieves, sieve_at}
use Rattle.omega_object.specs.Tables.{mask_at}
use Rattle.omega_object.proofs.ClosedSieves.{closed_sieve, closure_in}
use Rattle.omega_object.proofs.Operations.{sieve_is, sieve_in, joined_sieve, closed_is, number_is}
use Rattle.omega_object.proofs.omega.Omega.join.Goals as goal

pub returns : goal.returns
returns c = λ s is.
    let x = c.args.c in
    let low : c.args.c < s.category.objects = omega (arith, c.requires.object, is.objects) in
    let S = sieve_at s c.args.c c.args.a in
    let T = sieve_at s c.args.c c.args.b in
    let eS : arrows_in c.sieve.result ≡ S = c.sieve.ensures ∙ sieve_is s c.args.self.now is c.args.c c.args.a low c.requires.first in
    let eT : arrows_in c.sieve-2.result ≡ T = c.sieve-2.ensures ∙ sieve_is s c.args.self.now is c.args.c c.args.b low c.requires.second in
    let inS = sieve_in s c.args.self.now is c.args.c c.args.a low c.requires.first in
    let inT = sieve_in s c.args.self.now is c.args.c c.args.b low c.requires.second in
    let sieve = joined_sieve s c.args.self.now is x S T (closed_sieve s is.category is.topology x S inS) (closed_sieve s is.category is.topology x T inT) in
    let u : arrows_in c.union-both.result ≡ union S T = c.union-both.ensures ∙ ap (λ U. union U (arrows_in c.sieve-2.result)) eS ∙ ap (union S) eT in
    let e : arrows_in c.closed.result ≡ closure s x (union S T) =
    c.closed.ensures ∙ ap (λ U. all_added [] (filter (λ f. contains (mask_at c.args.self.now.covers f) U) (mask_at c.args.self.now.into x))) u ∙ closed_is s c.args.self.now is x (union S T) low sieve in
    let there = closure_in s is.category is.topology x (union S T) sieve in
    number_is s c.args.self.now is x c.number.result _ _ e (c.number.ensures s is (subst (λ U. In (closed_sieves s x) U) (sym e) there))
