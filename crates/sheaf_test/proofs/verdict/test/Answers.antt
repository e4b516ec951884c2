use Rattle.std.proofs.Common.{◌≡◌, ◌<◌, ◌≤◌, ◌-◌, ◌↔◌, ℕ, Option, Some, None, List, refl, sym, ap, subst, ◌∙◌, arith}
use Rattle.std.specs.List.{range_with_len}
use Rattle.std.specs.Option.{option_map}
use Rattle.finite_lists.specs.First.{first}
use Rattle.topos_model.specs.categories.Category.{Category}
use Rattle.topos_model.specs.topologies.Cover.{Site}
use Rattle.topos_model.specs.types.Types.{Presheaf}
use Rattle.topos_model.specs.Laws.{IsCategory, IsFunctor, IsTopology}
use Rattle.topos_model.specs.topologies.LeastCovers.{least}
use Rattle.topos_model.specs.topologies.Sheaves.{SheafFault, IsSheaf, sheaf_fault}
use Rattle.presheaf_core.proofs.SearchFrom.{first_from-start, first_from-none, first_from-some}
use Rattle.topologies.specs.declared.topology.Topology.{Topology}
use Rattle.topologies.specs.Topologies.{site_of}
use Rattle.sheaf_test.specs.Amalgamations.{fault_on, fault_with}
use Rattle.sheaf_test.specs.Verdicts.{verdict_of}
use Rattle.sheaf_test.specs.declared.families.Failing.{Failing}
use Rattle.sheaf_test.specs.declared.verdict.SheafVerdict.{SheafVerdict}
use Rattle.sheaf_test.specs.declared.verdict.SheafVerdict.TheVariants.{Sheaf, Fails}
use Rattle.sheaf_test.proofs.LeastCoverFamilies.{faultless_sheaf, sheaf_faultless}
use Rattle.sheaf_test.proofs.verdict.test.Goals as goal

module _ (s : Site) (X : Presheaf) where
  abbrev fault_at : ℕ → Option SheafFault
  fault_at c = fault_on s.category X c (least s c)

  -- what is left from an object on gives the first fault
  abbrev IsLeft : ℕ → Type 0
  IsLeft c = sheaf_fault s X ≡ first fault_at (range_with_len c (s.category.objects - c))

  abbrev with_cover : ℕ → List ℕ → Failing → SheafFault
  with_cover c cover f = fault_with c cover f.family f.found

  -- a family that fails on the cover that was made is the fault at its object
  at_object : (k : Category) (top : Topology) (cover S : List ℕ) (c : ℕ) (failing : Option Failing) → k ≡ s.category → site_of s.category top ≡ s → S ≡ cover → cover ≡ least (site_of k top) c
      → option_map (with_cover c S) failing ≡ fault_on k X c S → option_map (with_cover c cover) failing ≡ fault_at c
  at_object k top cover S c failing d t e m h =
      let whole : S ≡ least s c = e ∙ m ∙ ap (λ k'. least (site_of k' top) c) d ∙ ap (λ site. least site c) t in
      ap (λ l. option_map (with_cover c l) failing) (sym e) ∙ h ∙ ap (λ k'. fault_on k' X c S) d ∙ ap (fault_on s.category X c) whole

  fails : (c : ℕ) (cover : List ℕ) (failing : Option Failing) (f : Failing) → c < s.category.objects → IsLeft c → option_map (with_cover c cover) failing ≡ fault_at c → failing ≡ Some f → Fails c cover f.family f.found ≡ verdict_of (sheaf_fault s X)
  fails c cover failing f low left here is =
      sym (ap verdict_of (left ∙ first_from-some fault_at c s.category.objects (with_cover c cover f) low (sym here ∙ ap (option_map (with_cover c cover)) is)))

  passes : (c : ℕ) → s.category.objects ≤ c → IsLeft c → Sheaf ≡ verdict_of (sheaf_fault s X)
  passes c high left = let none : s.category.objects - c ≡ 0 = omega (arith, high) in sym (ap verdict_of (left ∙ ap (λ n. first fault_at (range_with_len c n)) none))

  no_fault : (fault : Option SheafFault) → verdict_of fault ≡ Sheaf → fault ≡ None
  no_fault None e = refl
  no_fault (Some fault) e = absurd (cc)

  -- the verdict is that it is a sheaf exactly where it is one
  says_sheaf : (verdict : SheafVerdict) → IsCategory s.category → IsTopology s → IsFunctor s.category X → verdict ≡ verdict_of (sheaf_fault s X) → (verdict ≡ Sheaf) ↔ IsSheaf s X
  says_sheaf verdict laws top functor e = (
    λ is. faultless_sheaf s laws top X functor (no_fault (sheaf_fault s X) (sym e ∙ is)),
    λ sheaf. e ∙ ap verdict_of (sheaf_faultless s laws top X functor sheaf),
  )

pub loop-c-init : goal.loop-c-init
unfolding sheaf_fault fault_on
loop-c-init c = first_from-start (fault_at c.args.site.now c.args.x.now) c.args.site.now.category.objects

pub returns-in-Some-clause-verdict : goal.returns-in-Some-clause-verdict
returns-in-Some-clause-verdict c =
    let s = c.args.site.now in
    let X = c.args.x.now in
    let here = at_object s X c.cat-cat.result.now c.top-top.result.now c.in_ok-cover.cover c.as_slice.result.now c.loop-c.c c.in_ok-failing.field-0 c.cat-cat.ensures c.top-top.ensures.site c.as_slice.ensures c.in_ok-cover.ensures.arrows c.in_ok-failing.ensures in
    fails s X c.loop-c.c c.in_ok-cover.cover c.in_ok-failing.field-0 c.in-Some.failing
    (omega (arith, c.loop-c-test.true, c.objects-c-end.ensures.count, ap (λ (k : Category). k.objects) c.cat-cat.ensures)) c.loop-c.invariant here c.in-Some.is

pub returns-in-Some-clause-sheaf : goal.returns-in-Some-clause-sheaf
returns-in-Some-clause-sheaf c =
    says_sheaf c.args.site.now c.args.x.now _ (subst IsCategory c.cat-cat.ensures c.laws.ensures.lawful) (subst IsTopology c.top-top.ensures.site c.top-top.ensures.topology.topology) c.requires
    (returns-in-Some-clause-verdict c)

pub loop-c-preserved : goal.loop-c-preserved
loop-c-preserved c =
    let s = c.args.site.now in
    let X = c.args.x.now in
    let here = at_object s X c.cat-cat.result.now c.top-top.result.now c.in_ok-cover.cover c.as_slice.result.now c.loop-c.c c.in_ok-failing.field-0 c.cat-cat.ensures c.top-top.ensures.site c.as_slice.ensures c.in_ok-cover.ensures.arrows c.in_ok-failing.ensures in
    c.loop-c.invariant
    ∙ first_from-none (fault_at s X) c.loop-c.c s.category.objects (omega (arith, c.loop-c-test.true, c.objects-c-end.ensures.count, ap (λ (k : Category). k.objects) c.cat-cat.ensures))
    (sym here ∙ ap (option_map (with_cover s X c.loop-c.c c.in_ok-cover.cover)) c.in_default.is)

pub returns-clause-sheaf : goal.returns-clause-sheaf
returns-clause-sheaf c =
    let s = c.args.site.now in
    let X = c.args.x.now in
    says_sheaf s X Sheaf (subst IsCategory c.cat-cat.ensures c.laws.ensures.lawful) (subst IsTopology c.top-top.ensures.site c.top-top.ensures.topology.topology) c.requires
    (passes s X c.loop-c.c (omega (arith, c.loop-c-test.false, c.objects-c-end.ensures.count, ap (λ (k : Category). k.objects) c.cat-cat.ensures)) c.loop-c.invariant)
