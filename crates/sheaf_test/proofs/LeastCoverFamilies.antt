-- It is enough to test the least covers.
use Rattle.std.proofs.Common.{◌≡◌, ℕ, ◌<◌, List, map, None, sym, ap, ◌∙◌, arith}
use Rattle.std.specs.List.{range_with_len}
use Rattle.std.proofs.Math.ListN.{length-map}
use Rattle.finite_lists.specs.Members.{In}
use Rattle.finite_lists.proofs.FirstAnswers.{first_none, first_none_each}
use Rattle.finite_lists.proofs.DistinctLists.{In-range, In-range_from}
use Rattle.topos_model.specs.categories.Category.{Category, dom, compose}
use Rattle.topos_model.specs.topologies.Cover.{Site, covers}
use Rattle.topos_model.specs.types.Types.{Presheaf}
use Rattle.topos_model.specs.Laws.{IsCategory, IsFunctor, IsTopology, act, size}
use Rattle.topos_model.specs.presheaves.Maps.{ExactlyOne}
use Rattle.topos_model.specs.topologies.LeastCovers.{least, IsLeast}
use Rattle.topos_model.specs.topologies.Sheaves.{element_at, IsMatching, IsAmalgamation, IsSheaf, matching_families, amalgamations, not_one, sheaf_fault}
use Rattle.sieve_table.proofs.SieveMembers.{IsSieve, sieve_of}
use Rattle.topologies.proofs.LeastCovers.{is_least, least_covers, cover_sieve}
use Rattle.sheaf_test.proofs.FamilyPlaces.{element_at-map}
use Rattle.sheaf_test.proofs.MatchingFamilies.{listed_matching, matching_listed}
use Rattle.sheaf_test.proofs.Amalgamations.{faultless_is_one, one_is_faultless}

module _ (s : Site) (laws : IsCategory s.category) (top : IsTopology s) (X : Presheaf) (functor : IsFunctor s.category X) where
  abbrev k : Category
  k = s.category

  abbrev M : ℕ → List ℕ
  M = least s

  is : IsLeast s M
  is = is_least s laws top

  sieve : (c : ℕ) → c < k.objects → IsSieve k c (M c)
  sieve c low = sieve_of k c (M c) (is.sieve c low)

  -- each matching family on a least cover has exactly one amalgamation
  abbrev Glues : Type 0
  Glues = (c : ℕ) (family : List ℕ) → c < k.objects → IsMatching k X (M c) family → ExactlyOne (IsAmalgamation X c (M c) family)

  faultless_glues : sheaf_fault s X ≡ None → Glues
  unfolding sheaf_fault
  faultless_glues e c family low matching =
      let here = first_none_each _ (range_with_len 0 k.objects) c e (In-range 0 k.objects c (omega arith) (omega arith)) in
      faultless_is_one X c (M c) family
      (first_none_each (λ family. not_one c (M c) family (amalgamations X c (M c) family)) (matching_families k X (M c)) family here (matching_listed k X (M c) family (sieve c low).rises matching))

  glues_faultless : Glues → sheaf_fault s X ≡ None
  unfolding sheaf_fault
  glues_faultless glues =
      first_none _ (range_with_len 0 k.objects) (λ c i.
      let low = In-range_from 0 k.objects c i in
      first_none (λ family. not_one c (M c) family (amalgamations X c (M c) family)) (matching_families k X (M c)) (λ family j.
      one_is_faultless X c (M c) family (glues c family (omega arith) (listed_matching k X (M c) family j))))

  sheaf_glues : IsSheaf s X → Glues
  sheaf_glues sheaf c family low matching = sheaf c (M c) family low (least_covers s laws top c low) matching

  module _ (glues : Glues) where
    -- elements that agree along a least cover are equal
    separated : (c x y : ℕ) → c < k.objects → x < size X c → y < size X c → ((f : ℕ) → In (M c) f → act X f x ≡ act X f y) → x ≡ y
    separated c x y low within within' same =
        let S = sieve c low in
        let family : List ℕ = map (λ f. act X f x) (M c) in
        let at : (f : ℕ) → In (M c) f → element_at (M c) family f ≡ act X f x = λ f i. element_at-map (λ f. act X f x) (M c) f i in
        let one = glues c family low (record {
          count = length-map (M c) (λ f. act X f x);
          within = λ f i. rw (at f i) (functor.within c f x (S.within f i) within);
          agree = λ f g i j. ap (act X g) (at f i) ∙ functor.composite c f g x (S.within f i) j within ∙ sym (at (compose k f g) (S.closed f g i j));
        }) in
        one.2 x (record { within = within; restricts = λ f i. sym (at f i) }) ∙ sym (one.2 y (record { within = within'; restricts = λ f i. sym (same f i) ∙ sym (at f i) }))

    module _ (c : ℕ) (S family : List ℕ) (low : c < k.objects) (cover : In (covers s c) S) (matching : IsMatching k X S family) where
      large : IsSieve k c S
      large = cover_sieve s c S cover

      abbrev part : List ℕ
      part = map (element_at S family) (M c)

      part_at : (f : ℕ) → In (M c) f → element_at (M c) part f ≡ element_at S family f
      part_at f i = element_at-map (element_at S family) (M c) f i

      below : (f : ℕ) → In (M c) f → In S f
      below f i = is.within c f S cover i

      part_matches : IsMatching k X (M c) part
      part_matches = record {
        count = length-map (M c) (element_at S family);
        within = λ f i. rw (part_at f i) (matching.within f (below f i));
        agree = λ f g i j. ap (act X g) (part_at f i) ∙ matching.agree f g (below f i) j ∙ sym (part_at (compose k f g) ((sieve c low).closed f g i j));
      }

      one : ExactlyOne (IsAmalgamation X c (M c) part)
      one = glues c part low part_matches

      -- what amalgamates the family on the least cover does so on the whole cover
      restricts : (f : ℕ) → In S f → act X f one.0 ≡ element_at S family f
      restricts f i =
          let a = large.within f i in
          let source = (laws.ends f a.0).0 in
          separated (dom k f) (act X f one.0) (element_at S family f) source (functor.within c f one.0 a one.1.within) (matching.within f i) (λ g j.
          let b = (sieve (dom k f) source).within g j in
          functor.composite c f g one.0 a b one.1.within
          ∙ one.1.restricts (compose k f g) (is.sink c f g a j)
          ∙ part_at (compose k f g) (is.sink c f g a j)
          ∙ sym (matching.agree f g i b))

      one_on_cover : ExactlyOne (IsAmalgamation X c S family)
      one_on_cover = (
        one.0,
        record { within = one.1.within; restricts = restricts },
        λ y amalgam. one.2 y (record { within = amalgam.within; restricts = λ f i. amalgam.restricts f (below f i) ∙ sym (part_at f i) }),
      )

  pub faultless_sheaf : sheaf_fault s X ≡ None → IsSheaf s X
  faultless_sheaf e c S family low cover matching = one_on_cover (faultless_glues e) c S family low cover matching

  pub sheaf_faultless : IsSheaf s X → sheaf_fault s X ≡ None
  sheaf_faultless sheaf = glues_faultless (sheaf_glues sheaf)
