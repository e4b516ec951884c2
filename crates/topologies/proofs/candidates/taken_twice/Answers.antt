use Rattle.std.proofs.Common.{◌≡◌, ℕ, ◌<◌, ◌≤◌, ◌⊎◌, inl, inr, List, [], map, get_or, length, sym, ap, subst, ◌∙◌, arith}
use Rattle.std.proofs.lemmas.Bool.{cases_lt}
use Rattle.finite_lists.specs.Members.{In}
use Rattle.topos_model.specs.categories.Category.{compose}
use Rattle.topos_model.specs.Laws.{IsInto}
use Rattle.fin_category.specs.Masks.{all_added}
use Rattle.fin_category.specs.ArrowSets.{arrows_in, left_in}
use Rattle.sieve_table.specs.Composites.{all_composites}
use Rattle.sieve_table.proofs.SieveComposites.{all_composites-step, all_composites-end, all_composites-are}
use Rattle.topologies.proofs.TwiceRows.{mask-at, none-past}
use Rattle.topologies.proofs.candidates.taken_twice.Goals as goal

pub loop-f-init : goal.loop-f-init
loop-f-init c =
    let k = c.args.cat.now in
    let least = c.args.least.now in
    let M : ℕ → List ℕ = λ d. get_or (map arrows_in least) d [] in
    let low : c.args.c < length c.args.least.now = omega (arith, c.requires.covers.0, c.requires.object) in
    let e : left_in c.into_iter-f-iterator.result ≡ get_or (map arrows_in c.args.least.now) c.args.c [] =
    ap left_in c.into_iter-f-iterator.ensures.into_iter_gives ∙ c.iter-f-items.ensures ∙ mask-at c.args.least.now c.args.c _ low in (
      tt,
      tt,
      ap (λ S. all_composites k M S (left_in c.into_iter-f-iterator.result)) c.empty-arrows.ensures ∙ ap (all_composites k M []) e,
      (λ f i. c.requires.covers.1 c.args.c f c.requires.object (subst (λ xs. In xs f) e i)),
    )

here : (xs ys : List ℕ) (x : ℕ) → xs ≡ Rattle.std.proofs.Common.◌∷◌ x ys → In xs x
here xs ys x e = subst (λ xs. In xs x) (sym e) (inl Rattle.std.proofs.Common.refl)

pub dom-requires : goal.dom-requires
dom-requires c = (c.loop-f.invariant.3 c.in-Some.f (here _ _ _ c.in-Some.ensures.steps)).0

pub add_composites-requires-clause-into : goal.add_composites-requires-clause-into
add_composites-requires-clause-into c = λ g i.
    let k = c.args.cat.now in
    let low : c.dom.result < length c.args.least.now = omega (arith, c.requires.covers.0, c.dom.ensures.object) in
    subst (λ d. IsInto c.args.cat.now d g) c.dom.ensures.value
    (c.requires.covers.1 c.dom.result g c.dom.ensures.object (subst (λ xs. In xs g) (mask-at c.args.least.now c.dom.result _ low) i))

pub loop-f-preserved : goal.loop-f-preserved
loop-f-preserved c =
    let k = c.args.cat.now in
    let M : ℕ → List ℕ = λ d. get_or (map arrows_in c.args.least.now) d [] in
    let low : c.dom.result < length c.args.least.now = omega (arith, c.requires.covers.0, c.dom.ensures.object) in
    let S = arrows_in c.loop-f.arrows in (
      tt,
      tt,
      ap (λ T. all_composites k M T (left_in c.next.new.self))
          (c.add_composites.ensures ∙ ap (λ ys. all_added S (map (compose k c.in-Some.f) ys)) (mask-at c.args.least.now c.dom.result _ low ∙ ap M c.dom.ensures.value))
          ∙ sym (all_composites-step k M S c.in-Some.f (left_in c.next.new.self))
          ∙ ap (all_composites k M S) (sym c.in-Some.ensures.steps)
          ∙ c.loop-f.invariant.2,
      (λ f i. c.loop-f.invariant.3 f (subst (λ xs. In xs f) (sym c.in-Some.ensures.steps) (inr i))),
    )

pub returns : goal.returns
returns c =
    let k = c.args.cat.now in
    let M : ℕ → List ℕ = λ d. get_or (map arrows_in c.args.least.now) d [] in
    let into_d : (d g : ℕ) → In (get_or (map arrows_in c.args.least.now) d []) g → IsInto c.args.cat.now d g = λ d g i.
    elim (cases_lt d c.args.cat.now.objects) [
      | inl low ↦ c.requires.covers.1 d g low i
      | inr high ↦ absurd (let n : In [] g = subst (λ xs. In xs g) (none-past c.args.least.now d (omega (arith, c.requires.covers.0, high))) i in n)
    ] in
    sym (ap (all_composites k M (arrows_in c.loop-f.arrows)) c.in-None.ensures.steps.0 ∙ all_composites-end k M (arrows_in c.loop-f.arrows)) ∙ c.loop-f.invariant.2
    ∙ all_composites-are k c.laws.ensures.lawful M (λ d f i. let low = i.0 in omega (arith, low, c.laws.ensures.few)) c.args.c (M c.args.c)
    (λ f i. c.requires.covers.1 c.args.c f c.requires.object i) into_d
