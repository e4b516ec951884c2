use Rattle.std.proofs.Common.{◌≡◌, ◌<◌, [], length, get_or, map, sym, ap, subst, ◌∙◌, arith}
use Rattle.std.proofs.lemmas.Option.{get_or_from_slice_get}
use Rattle.std.proofs.lemmas.List.{length-map}
use Rattle.finite_lists.specs.Members.{In}
use Rattle.finite_lists.specs.Rising.{Rising}
use Rattle.fin_category.specs.ArrowSets.{arrows_in}
use Rattle.omega_object.specs.TruthValues.{closed_sieves, Precedes}
use Rattle.omega_object.specs.Tables.{rows_at}
use Rattle.omega_object.proofs.ClosedSieves.{rising_closed}
use Rattle.omega_object.proofs.omega.Omega.number.Goals as goal

pub returns : goal.returns
returns c = λ s is i.
    let low : c.args.c < s.category.objects = omega (arith, c.requires.object, is.objects) in
    let rows : c.as_slice.result.now ≡ rows_at c.args.self.now c.args.c = c.as_slice.ensures ∙ sym (get_or_from_slice_get c.args.self.now.sieves c.args.c _ [] c.get.ensures) in
    let e : map arrows_in c.as_slice.result.now ≡ closed_sieves s c.args.c = ap (map arrows_in) rows ∙ is.sieves c.args.c low in
    let r = c.number_among.ensures.found (subst (λ l. Rising Precedes l) (sym e) (rising_closed s c.args.c)) (subst (λ l. In l (arrows_in c.args.sieve)) (sym e) i) in
    let within = r.0 in
    record {
      within = omega (arith, within, length-map c.as_slice.result.now arrows_in, ap length e);
      is = ap (λ l. get_or l c.number_among.result []) (sym e) ∙ r.1;
    }
