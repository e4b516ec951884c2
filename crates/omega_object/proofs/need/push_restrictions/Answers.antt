use Rattle.std.proofs.Common.{◌≡◌, ◌<◌, ◌+◌, ℕ, [], ◌∷◌, ◌++◌, inl, inr, length, get_or, sym, ap, subst, ◌∙◌, arith}
use Rattle.std.proofs.lemmas.Bool.{cases_lt}
use Rattle.std.proofs.lemmas.List.{length-map, length_push, get_or_append_left, get_or_push}
use Rattle.finite_lists.specs.Members.{In}
use Rattle.finite_lists.proofs.Lists.{In_at}
use Rattle.topos_model.specs.categories.Category.{Category, dom, sieves, pull}
use Rattle.topos_model.specs.Laws.{IsInto}
use Rattle.topos_model.proofs.ArrowsInto.{In-into_from}
use Rattle.fin_category.specs.ArrowSets.{arrows_in}
use Rattle.sieve_table.proofs.SieveMembers.{of_sieve, domain}
use Rattle.omega_object.specs.TruthValues.{closed_sieves, sieve_at, IsNumber}
use Rattle.omega_object.specs.Tables.{rows_at}
use Rattle.omega_object.proofs.ClosedSieves.{closed_sieve, pull_in}
use Rattle.omega_object.proofs.Operations.{sieve_is}
use Rattle.omega_object.proofs.SealedSieves.{few_sieves}
use Rattle.omega_object.proofs.need.push_restrictions.Goals as goal

-- the sieve is the closed one of its number
is_sieve : (s : _) (Ω : _) (is : Rattle.omega_object.specs.Tables.IsOmegaOn s Ω) (c k : ℕ) → c < s.category.objects → k < length (closed_sieves s c) →
    (k < length (rows_at Ω c)) × In (closed_sieves s c) (sieve_at s c k)
is_sieve s Ω is c k low inside =
    let e : length (rows_at Ω c) ≡ length (closed_sieves s c) = sym (length-map (rows_at Ω c) arrows_in) ∙ ap length (is.sieves c low) in
    (omega (arith, inside, e), In_at (closed_sieves s c) k [] inside)

pub pull-pulled-requires-clause-sieve : goal.pull-pulled-requires-clause-sieve
pull-pulled-requires-clause-sieve c =
    let s = c.args.site.now in
    let o = c.requires.values in
    let r = is_sieve s c.args.values.now o c.args.c c.args.k c.requires.object c.requires.number in
    let e : arrows_in c.new-sieve.result.arrows ≡ sieve_at s c.args.c c.args.k = c.new-sieve.ensures.arrows ∙ c.sieve.ensures ∙ sieve_is s c.args.values.now o c.args.c c.args.k c.requires.object r.0 in
    subst (λ (k : Category). In (sieves k c.new-sieve.result.at) (arrows_in c.new-sieve.result.arrows)) (sym c.cat-cat.ensures)
    (subst (λ S. In (sieves s.category c.new-sieve.result.at) S) (sym e)
    (subst (λ x. In (sieves s.category x) (sieve_at s c.args.c c.args.k)) (sym c.new-sieve.ensures.at) (of_sieve s.category c.args.c _ (closed_sieve s o.category o.topology c.args.c _ r.1))))

pub loop-f-preserved : goal.loop-f-preserved
loop-f-preserved c =
    let s = c.args.site.now in
    let o = c.requires.values in
    let i = c.loop-f.invariant in
    let f = get_or c.arrows_into-f-items.result.now c.loop-f.f-index 0 in
    let x = c.args.c in
    let r = is_sieve s c.args.values.now o c.args.c c.args.k c.requires.object c.requires.number in
    let new = c.push.new.self in
    let is : new ≡ c.loop-f.out ++ c.number.result ∷ [] = c.in_ok-push.ensures.ok in
    let e : c.at.result ≡ dom s.category f = c.at.ensures ∙ c.pull-pulled.ensures.at ∙ ap (λ (k : Category). dom k f) c.cat-cat.ensures in
    let here = In-into_from c.cat-cat.result.now c.args.c f (subst (λ l. In l f) c.arrows_into-f-items.ensures.value (In_at c.arrows_into-f-items.result.now c.loop-f.f-index 0 c.loop-f-test.true)) in
    let a : IsInto s.category x f = subst (λ (k : Category). IsInto k c.args.c f) c.cat-cat.ensures here in
    let sieve : arrows_in c.new-sieve.result.arrows ≡ sieve_at s x c.args.k = c.new-sieve.ensures.arrows ∙ c.sieve.ensures ∙ sieve_is s c.args.values.now o x c.args.k c.requires.object r.0 in
    let pulled : arrows_in c.arrows.result ≡ pull s.category f (sieve_at s x c.args.k) =
    c.arrows.ensures ∙ c.pull-pulled.ensures.arrows ∙ ap (pull c.cat-cat.result.now f) sieve ∙ ap (λ (k : Category). pull k f (sieve_at s x c.args.k)) c.cat-cat.ensures in
    let there : In (closed_sieves s c.at.result) (arrows_in c.arrows.result) =
    subst (λ y. In (closed_sieves s y) (arrows_in c.arrows.result)) (sym e) (subst (λ S. In (closed_sieves s (dom s.category f)) S) (sym pulled) (pull_in s o.category o.topology x f (sieve_at s x c.args.k) r.1 a)) in
    let number : IsNumber s (dom s.category f) c.number.result (pull s.category f (sieve_at s x c.args.k)) =
    subst (λ y. IsNumber s y c.number.result (pull s.category f (sieve_at s x c.args.k))) e (subst (λ S. IsNumber s c.at.result c.number.result S) pulled (c.number.ensures s o there)) in
    record {
      length_is = ap length is ∙ omega (arith, length_push c.loop-f.out c.number.result, i.length_is);
      kept = λ j low. ap (λ l. get_or l j 0) is ∙ get_or_append_left c.loop-f.out (c.number.result ∷ []) 0 j (omega (arith, low, i.length_is)) ∙ i.kept j low;
      numbers = λ j low.
          elim (cases_lt j c.loop-f.f-index) [
            | inl b ↦
                subst (λ n. IsNumber s (dom s.category (get_or c.arrows_into-f-items.result.now j 0)) n (pull s.category (get_or c.arrows_into-f-items.result.now j 0) (sieve_at s x c.args.k)))
                (sym (ap (λ l. get_or l (length c.args.out.now + j) 0) is ∙ get_or_append_left c.loop-f.out (c.number.result ∷ []) 0 (length c.args.out.now + j) (omega (arith, b, i.length_is)))) (i.numbers j b)
            | inr h ↦
                let same : j ≡ c.loop-f.f-index = omega (arith, low, h) in
                let last : get_or new (length c.args.out.now + j) 0 ≡ c.number.result = ap (λ l. get_or l (length c.args.out.now + j) 0) is ∙ get_or_push c.loop-f.out c.number.result 0 (length c.args.out.now + j) (omega (arith, same, i.length_is)) in
                subst (λ n. IsNumber s (dom s.category (get_or c.arrows_into-f-items.result.now j 0)) n (pull s.category (get_or c.arrows_into-f-items.result.now j 0) (sieve_at s x c.args.k))) (sym last)
                (subst (λ m. IsNumber s (dom s.category (get_or c.arrows_into-f-items.result.now m 0)) c.number.result (pull s.category (get_or c.arrows_into-f-items.result.now m 0) (sieve_at s x c.args.k))) (sym same) number)
          ];
    }
