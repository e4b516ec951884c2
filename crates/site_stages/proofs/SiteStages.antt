-- The stages of a site.
use Rattle.std.proofs.Common.{◌≡◌, ℕ, ◌+◌, ◌<◌, false, eqb, List, [], ◌∷◌, ◌++◌, length, get_or, map, sym, ap, subst, ◌∙◌, arith}
use Rattle.std.specs.List.{range_with_len}
use Rattle.std.proofs.lemmas.List.{length-map, get_or-map}
use Rattle.std.proofs.lemmas.List.FromFn.{length-map-range_with_len, get_or-map-range_with_len, map-range_with_len_more}
use Rattle.finite_lists.specs.Members.{In}
use Rattle.finite_lists.specs.Sublists.{sublists}
use Rattle.finite_lists.proofs.Lists.{whole_sublist, filter_sublist}
use Rattle.topos_model.specs.categories.Category.{dom, into}
use Rattle.topos_model.specs.topologies.Cover.{Site}
use Rattle.topos_model.specs.topologies.LeastCovers.{least}
use Rattle.topos_model.specs.statements.Cells.{objects_of}
use Rattle.sieve_table.proofs.SieveMembers.{Distinct-into}
use Rattle.site_stages.specs.declared.stages.Stages.{Stages}
use Rattle.site_stages.specs.Places.{places_among}
use Rattle.site_stages.specs.Stages.{arrow_at, AreChosen, AreStages}
use Rattle.site_stages.proofs.PlaceLists.{places_are, places_within, places_count, none_is_empty}

-- the entry of one more object is put last
pub one_more : {A : Type 0} (entry : ℕ → A) (n : ℕ) (before after : List A) (x : A) → before ≡ map entry (range_with_len 0 n) → after ≡ before ++ x ∷ [] → x ≡ entry n →
    after ≡ map entry (range_with_len 0 (n + 1))
one_more entry n before after x b a e = a ∙ ap (λ l. l ++ x ∷ []) b ∙ ap (λ y. map entry (range_with_len 0 n) ++ y ∷ []) e ∙ sym (map-range_with_len_more entry 0 n n (omega arith))

-- as they are made
pub record AreMade (s : Site) (stages : Stages) : Type 0 where
  pub sources : stages.sources ≡ map (λ c. map (dom s.category) (into s.category c)) (objects_of s.category)
  pub all : stages.all ≡ map (λ c. places_among (into s.category c) (into s.category c)) (objects_of s.category)
  pub least_places : stages.least ≡ map (λ c. places_among (into s.category c) (least s c)) (objects_of s.category)
  pub empty : stages.empty ≡ map (λ row. eqb (length row) 0) stages.least

module _ {A : Type 0} (n : ℕ) (f : ℕ → A) (xs : List A) (e : xs ≡ map f (range_with_len 0 n)) where
  rows_long : length xs ≡ n
  rows_long = ap length e ∙ length-map-range_with_len f 0 n

  entry_at : (c : ℕ) (d : A) → c < n → get_or xs c d ≡ f c
  entry_at c d low = ap (λ l. get_or l c d) e ∙ get_or-map-range_with_len f 0 n c c d low (omega arith)

module _ (s : Site) where
  abbrev n : ℕ
  n = s.category.objects

  least_within : (c : ℕ) → In (sublists (into s.category c)) (least s c)
  unfolding least
  least_within c = filter_sublist _ (into s.category c)

  chosen : (arrows : ℕ → List ℕ) (rows : List (List ℕ)) → ((c : ℕ) → In (sublists (into s.category c)) (arrows c)) → rows ≡ map (λ c. places_among (into s.category c) (arrows c)) (objects_of s.category) →
      AreChosen s arrows rows
  chosen arrows rows within e = record {
    objects = rows_long n _ rows e;
    within = λ c j low i. places_within (into s.category c) (arrows c) j (subst (λ l. In l j) (entry_at n _ rows e c [] low) i);
    are = λ c low. ap (map (arrow_at s c)) (entry_at n _ rows e c [] low) ∙ places_are (into s.category c) (arrows c) (Distinct-into s.category c) (within c);
  }

  pub stages_are : (stages : Stages) → AreMade s stages → AreStages s stages
  stages_are stages h =
      let long : length stages.least ≡ n = rows_long n _ stages.least h.least_places in
      record {
        objects = rows_long n _ stages.sources h.sources;
        sources = λ c low. entry_at n _ stages.sources h.sources c [] low;
        all_arrows = chosen (into s.category) stages.all (λ c. whole_sublist (into s.category c)) h.all;
        least_cover = chosen (least s) stages.least least_within h.least_places;
        empty_objects = ap length h.empty ∙ length-map stages.least (λ row. eqb (length row) 0) ∙ long;
        empty = λ c low.
            ap (λ l. get_or l c false) h.empty ∙ get_or-map (λ row. eqb (length row) 0) stages.least c [] false (omega (arith, low, long))
            ∙ ap (λ m. eqb m 0) (ap length (entry_at n _ stages.least h.least_places c [] low) ∙ places_count (into s.category c) (least s c) (Distinct-into s.category c) (least_within c))
            ∙ none_is_empty (least s c);
      }
