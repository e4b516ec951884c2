use Rattle.std.proofs.Common.{◌≡◌, ℕ, Bool, inl, inr, [], filter, refl, sym, ap, subst, ◌∙◌}
use Rattle.std.proofs.lemmas.Option.{get_or_from_slice_get}
use Rattle.finite_lists.specs.Members.{In}
use Rattle.topos_model.specs.topologies.Cover.{contains}
use Rattle.topos_model.specs.topologies.TopologyFaults.{intersection}
use Rattle.fin_category.specs.Masks.{all_added}
use Rattle.fin_category.specs.ArrowSets.{arrows_in, left_in}
use Rattle.fin_category.proofs.ArrowLists.{In-members_below}
use Rattle.omega_object.specs.Tables.{mask_at}
use Rattle.omega_object.proofs.Operations.{passed, failed, none_left}
use Rattle.omega_object.proofs.omega.Omega.implied.Goals as goal

pub loop-f-init : goal.loop-f-init
loop-f-init c =
    let p : ℕ → Bool = λ f. contains (intersection (mask_at c.args.self.now.below f) (arrows_in c.args.first)) (arrows_in c.args.second) in
    let into = mask_at c.args.self.now.into c.args.c in
    let e : left_in c.into_iter-f-iterator.result ≡ into =
    ap left_in c.into_iter-f-iterator.ensures.into_iter_gives ∙ c.iter-f-items.ensures ∙ ap arrows_in (sym (get_or_from_slice_get c.args.self.now.into c.args.c _ _ c.get.ensures)) in (
      tt,
      tt,
      ap (λ S. all_added S (filter p (left_in c.into_iter-f-iterator.result))) c.empty-implied.ensures ∙ ap (λ l. all_added [] (filter p l)) e,
      (λ f i. subst (λ l. In l f) e i),
    )

pub get-requires-in-loop-f : goal.get-requires-in-loop-f
get-requires-in-loop-f c = c.requires.arrows c.in-Some.f (c.loop-f.invariant.3 c.in-Some.f (subst (λ l. In l c.in-Some.f) (sym c.in-Some.ensures.steps) (inl refl)))

pub insert-requires : goal.insert-requires
insert-requires c =
    In-members_below c.loop-f.f-iterator.words c.in-Some.f (subst (λ l. In l c.in-Some.f) (sym c.in-Some.ensures.steps) (inl refl))

pub loop-f-preserved-then-is_within : goal.loop-f-preserved-then-is_within
loop-f-preserved-then-is_within c =
    let p : ℕ → Bool = λ f. contains (intersection (mask_at c.args.self.now.below f) (arrows_in c.args.first)) (arrows_in c.args.second) in
    let rest = left_in c.next.new.self in
    let test : p c.in-Some.f ≡ _ = ap (λ S. contains S (arrows_in c.args.second)) (ap (λ m. intersection (arrows_in m) (arrows_in c.args.first)) (get_or_from_slice_get c.args.self.now.below c.in-Some.f _ _ c.get-in-loop-f.ensures) ∙ sym c.meet.ensures) in (
      tt,
      tt,
      ap (λ S. all_added S (filter p rest)) c.insert.ensures ∙ passed p (arrows_in c.loop-f.implied) rest c.in-Some.f (test ∙ sym c.is_within.ensures ∙ c.if-is_within.true)
          ∙ ap (λ l. all_added (arrows_in c.loop-f.implied) (filter p l)) (sym c.in-Some.ensures.steps) ∙ c.loop-f.invariant.2,
      (λ f i. c.loop-f.invariant.3 f (subst (λ l. In l f) (sym c.in-Some.ensures.steps) (inr i))),
    )

pub loop-f-preserved : goal.loop-f-preserved
loop-f-preserved c =
    let p : ℕ → Bool = λ f. contains (intersection (mask_at c.args.self.now.below f) (arrows_in c.args.first)) (arrows_in c.args.second) in
    let rest = left_in c.next.new.self in
    let test : p c.in-Some.f ≡ _ = ap (λ S. contains S (arrows_in c.args.second)) (ap (λ m. intersection (arrows_in m) (arrows_in c.args.first)) (get_or_from_slice_get c.args.self.now.below c.in-Some.f _ _ c.get-in-loop-f.ensures) ∙ sym c.meet.ensures) in (
      tt,
      tt,
      failed p (arrows_in c.loop-f.implied) rest c.in-Some.f (test ∙ sym c.is_within.ensures ∙ c.if-is_within.false)
          ∙ ap (λ l. all_added (arrows_in c.loop-f.implied) (filter p l)) (sym c.in-Some.ensures.steps) ∙ c.loop-f.invariant.2,
      (λ f i. c.loop-f.invariant.3 f (subst (λ l. In l f) (sym c.in-Some.ensures.steps) (inr i))),
    )

pub returns : goal.returns
returns c =
    let p : ℕ → Bool = λ f. contains (intersection (mask_at c.args.self.now.below f) (arrows_in c.args.first)) (arrows_in c.args.second) in
    sym (ap (λ l. all_added (arrows_in c.loop-f.implied) (filter p l)) c.in-None.ensures.steps.0 ∙ none_left p (arrows_in c.loop-f.implied)) ∙ c.loop-f.invariant.2
