use Rattle.std.proofs.Common.{◌≡◌, ◌<◌, sym, ap, subst, ◌∙◌, arith}
use Rattle.finite_lists.specs.Members.{In}
use Rattle.topos_model.specs.topologies.TopologyFaults.{intersection}
use Rattle.fin_category.specs.ArrowSets.{arrows_in}
use Rattle.omega_object.specs.TruthValues.{closed_sieves, sieve_at}
use Rattle.omega_object.proofs.ClosedSieves.{meet_in}
use Rattle.omega_object.proofs.Operations.{sieve_is, sieve_in, number_is}
use Rattle.omega_object.proofs.omega.Omega.meet.Goals as goal

pub returns : goal.returns
returns c = λ s is.
    let x = c.args.c in
    let low : c.args.c < s.category.objects = omega (arith, c.requires.object, is.objects) in
    let S = sieve_at s c.args.c c.args.a in
    let T = sieve_at s c.args.c c.args.b in
    let eS : arrows_in c.sieve.result ≡ S = c.sieve.ensures ∙ sieve_is s c.args.self.now is c.args.c c.args.a low c.requires.first in
    let eT : arrows_in c.sieve-2.result ≡ T = c.sieve-2.ensures ∙ sieve_is s c.args.self.now is c.args.c c.args.b low c.requires.second in
    let inS = sieve_in s c.args.self.now is c.args.c c.args.a low c.requires.first in
    let inT = sieve_in s c.args.self.now is c.args.c c.args.b low c.requires.second in
    let e : arrows_in c.meet.result ≡ intersection S T = c.meet.ensures ∙ ap (λ U. intersection U (arrows_in c.sieve-2.result)) eS ∙ ap (intersection S) eT in
    let there = meet_in s is.category is.topology x S T inS inT in
    number_is s c.args.self.now is x c.number.result _ _ e (c.number.ensures s is (subst (λ U. In (closed_sieves s x) U) (sym e) there))
