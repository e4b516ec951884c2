-- A table read along arrows.
use Rattle.std.proofs.Common.{◌≡◌, ℕ, ◌<◌, Bool, List, [], length, get_or, map, ◌∷◌, ◌&&◌, refl, sym, ap, subst, ◌∙◌, arith}
use Rattle.std.specs.List.{list_all}
use Rattle.std.proofs.lemmas.List.{length-map, get_or-map}
use Rattle.finite_lists.proofs.Lists.{In_at, list_all_same}
use Rattle.topos_model.specs.declared.ty.Ty.{Ty}
use Rattle.topos_model.specs.categories.Category.{into}
use Rattle.topos_model.specs.topologies.LeastCovers.{least}
use Rattle.topos_model.specs.formulas.Forcing.{World, Assigned, Property, onto, source, along, locally, always, tuples}
use Rattle.topos_model.proofs.ArrowsInto.{In-into_from}
use Rattle.topologies.proofs.SomeCovers.{some_cover}
use Rattle.functor_store.specs.Store.{Store, Functor, into as arrows_into_count, functor_at, restrictions_at}
use Rattle.functor_store.proofs.Costs.{arrows_into}
use Rattle.forcing_laws.proofs.Tuples.{source_low}
use Rattle.truth_tables.specs.Tables.{table, bit, number, along as truth_along, IsOver}
use Rattle.truth_tables.specs.Arrows.{ArePlaces, AreRestricted}
use Rattle.truth_tables.specs.Standing.{tuple_at, IsTruthTable}
use Rattle.truth_tables.proofs.Standing.{truth_table, counts_long, counts_at}
use Rattle.site_stages.specs.declared.stages.Stages.{Stages}
use Rattle.site_stages.specs.Stages.{arrow_at, AreChosen}
use Rattle.formula_tables.specs.Tuples.{AreTuples}
use Rattle.formula_tables.specs.Formulas.{IsContext}
use Rattle.formula_tables.proofs.ContextFunctors.{context_tuples}

list_all_map : {A B : Type 0} (p : B → Bool) (f : A → B) (xs : List A) → list_all p (map f xs) ≡ list_all (λ x. p (f x)) xs
list_all_map p f [] = refl
list_all_map p f (x ∷ xs) = ap (λ b. p (f x) && b) (list_all_map p f xs)

-- properties that agree at the tuples have one table
pub alike : (w : World) (Γ : List Ty) (φ ψ : Property) (truths : List (List Bool)) → ((c : ℕ) (a : Assigned) → c < w.site.category.objects → φ c a ≡ ψ c a) →
    IsTruthTable w Γ φ truths → IsTruthTable w Γ ψ truths
alike w Γ φ ψ truths same stands = record { over = stands.over; truths = λ c i low inside. stands.truths c i low inside ∙ same c (tuple_at w Γ c i) low }

module _ (w : World) (Γ : List Ty) (stages : Stages) (store : Store) (id : ℕ) (sizes : List ℕ) (known : IsContext w Γ stages store id sizes) where
  abbrev F : Functor
  F = functor_at store.sealed id

  abbrev n : ℕ
  n = w.site.category.objects

  pub tuples_are : AreTuples w Γ (functor_at store.sealed id)
  tuples_are = context_tuples w known.lawful.0 known.lawful.1 Γ store known.faithful id known.sealed known.key

  pub sizes_long : length sizes ≡ w.site.category.objects
  sizes_long = ap length known.counted ∙ counts_long w Γ

  pub size_at_object : (c : ℕ) → c < w.site.category.objects → get_or sizes c 0 ≡ length (tuples w Γ c)
  size_at_object c low = ap (λ l. get_or l c 0) known.counted ∙ counts_at w Γ c low

  pub site_is : length sizes ≡ store.objects
  site_is = sizes_long ∙ sym known.faithful.objects

  pub sources_at : (c : ℕ) → c < w.site.category.objects → length (get_or stages.sources c []) ≡ length (onto w c)
  sources_at c low = ap length (known.stands.sources c low) ∙ length-map (onto w c) (source w)

  pub source_at : (c j : ℕ) → c < w.site.category.objects → j < length (onto w c) → number stages.sources c j ≡ source w (arrow_at w.site c j)
  source_at c j low there = ap (λ l. get_or l j 0) (known.stands.sources c low) ∙ get_or-map (source w) (onto w c) j 0 0 there

  pub domain_low : (c j : ℕ) → c < w.site.category.objects → j < length (onto w c) → source w (arrow_at w.site c j) < w.site.category.objects
  domain_low c j low there = source_low w known.lawful.1 c (arrow_at w.site c j) (In-into_from w.site.category c (arrow_at w.site c j) (In_at (into w.site.category c) j 0 there))

  pub restricted : AreRestricted (functor_at store.sealed id) store.ends sizes stages.sources
  restricted = record {
    objects = known.stands.objects ∙ sym sizes_long;
    counts = λ c low. let l : c < n = omega (arith, low, sizes_long) in tuples_are.sizes c l ∙ sym (size_at_object c l);
    arrows = λ c low. let l : c < n = omega (arith, low, sizes_long) in
        sources_at c l ∙ sym (ap (λ e. arrows_into_count e c) known.faithful.ends ∙ arrows_into w.site.category c);
    domains = λ c j low there.
        let l : c < n = omega (arith, low, sizes_long) in
        let t : j < length (onto w c) = omega (arith, there, sources_at c l) in
        omega (arith, source_at c j l t, domain_low c j l t, sizes_long);
    elements = λ c i j low inside there.
        let l : c < n = omega (arith, low, sizes_long) in
        let t : j < length (onto w c) = omega (arith, there, sources_at c l) in
        let m : i < length (tuples w Γ c) = omega (arith, inside, size_at_object c l) in
        subst (λ d. get_or (restrictions_at F c i) j 0 < get_or sizes d 0) (sym (source_at c j l t))
        (omega (arith, tuples_are.within c i j l m t, size_at_object (source w (arrow_at w.site c j)) (domain_low c j l t)));
  }

  module _ (arrows : ℕ → List ℕ) (chosen : List (List ℕ)) (are : AreChosen w.site arrows chosen) where
    pub places : ArePlaces stages.sources chosen
    places = record {
      objects = are.objects ∙ sym known.stands.objects;
      within = λ c j low there. let l : c < n = omega (arith, low, known.stands.objects) in
          omega (arith, are.within c (number chosen c j) l (In_at (get_or chosen c []) j 0 there), sources_at c l);
    }

    -- the table of what holds along the chosen arrows
    pub along_stands : (φ : Property) (truths out : List (List Bool)) → IsTruthTable w Γ φ truths →
        out ≡ table sizes (λ c i. list_all (truth_along truths (get_or stages.sources c []) (restrictions_at (functor_at store.sealed id) c i)) (get_or chosen c [])) →
        IsTruthTable w Γ (λ c a. list_all (λ f. φ (source w f) (along w f a)) (arrows c)) out
    along_stands φ truths out stands is =
        truth_table w Γ sizes known.counted (λ c a. list_all (λ f. φ (source w f) (along w f a)) (arrows c)) _ out is
        (λ c i low inside.
        let a = tuple_at w Γ c i in
        list_all_same (truth_along truths (get_or stages.sources c []) (restrictions_at F c i)) (λ j. φ (source w (arrow_at w.site c j)) (along w (arrow_at w.site c j) a)) (get_or chosen c [])
        (λ j m.
        let there = are.within c j low m in
        let d = domain_low c j low there in
        ap (λ o. bit truths o (get_or (restrictions_at F c i) j 0)) (source_at c j low there)
        ∙ stands.truths (source w (arrow_at w.site c j)) (get_or (restrictions_at F c i) j 0) d (tuples_are.within c i j low inside there)
        ∙ ap (φ (source w (arrow_at w.site c j))) (tuples_are.restricted c i j low inside there))
        ∙ sym (list_all_map (λ f. φ (source w f) (along w f a)) (arrow_at w.site c) (get_or chosen c []))
        ∙ ap (list_all (λ f. φ (source w f) (along w f a))) (are.are c low))

  -- what is given to a table along arrows
  pub over_sizes : (φ : Property) (truths : List (List Bool)) → IsTruthTable w Γ φ truths → IsOver sizes truths
  over_sizes φ truths stands = subst (λ l. IsOver l truths) (sym known.counted) stands.over

  -- the same of slices of these
  pub restricted_slice : (sources : List (List ℕ)) → sources ≡ stages.sources → AreRestricted (functor_at store.sealed id) store.ends sizes sources
  restricted_slice sources e = subst (AreRestricted (functor_at store.sealed id) store.ends sizes) (sym e) restricted

  pub places_slice : (arrows : ℕ → List ℕ) (sources chosen chosen' : List (List ℕ)) → AreChosen w.site arrows chosen → sources ≡ stages.sources → chosen' ≡ chosen → ArePlaces sources chosen'
  places_slice arrows sources chosen chosen' are e e' = subst (λ l. ArePlaces l chosen') (sym e) (subst (ArePlaces stages.sources) (sym e') (places arrows chosen are))

  along_slice : (arrows : ℕ → List ℕ) (chosen : List (List ℕ)) → AreChosen w.site arrows chosen → (sources chosen' : List (List ℕ)) → sources ≡ stages.sources → chosen' ≡ chosen →
      (φ : Property) (truths out : List (List Bool)) → IsTruthTable w Γ φ truths →
      out ≡ table sizes (λ c i. list_all (truth_along truths (get_or sources c []) (restrictions_at (functor_at store.sealed id) c i)) (get_or chosen' c [])) →
      IsTruthTable w Γ (λ c a. list_all (λ f. φ (source w f) (along w f a)) (arrows c)) out
  along_slice arrows chosen are sources chosen' e e' φ truths out stands is =
      along_stands arrows chosen are φ truths out stands
      (is ∙ ap (λ l. table sizes (λ c i. list_all (truth_along truths (get_or l c []) (restrictions_at F c i)) (get_or chosen' c []))) e
      ∙ ap (λ l. table sizes (λ c i. list_all (truth_along truths (get_or stages.sources c []) (restrictions_at F c i)) (get_or l c []))) e')

  pub always_stands : (sources chosen : List (List ℕ)) → sources ≡ stages.sources → chosen ≡ stages.all →
      (φ : Property) (truths out : List (List Bool)) → IsTruthTable w Γ φ truths →
      out ≡ table sizes (λ c i. list_all (truth_along truths (get_or sources c []) (restrictions_at (functor_at store.sealed id) c i)) (get_or chosen c [])) →
      IsTruthTable w Γ (always w φ) out
  unfolding always
  always_stands sources chosen e e' φ truths out stands is = along_slice (onto w) stages.all known.stands.all_arrows sources chosen e e' φ truths out stands is

  pub locally_stands : (sources chosen : List (List ℕ)) → sources ≡ stages.sources → chosen ≡ stages.least →
      (φ : Property) (truths out : List (List Bool)) → IsTruthTable w Γ φ truths →
      out ≡ table sizes (λ c i. list_all (truth_along truths (get_or sources c []) (restrictions_at (functor_at store.sealed id) c i)) (get_or chosen c [])) →
      IsTruthTable w Γ (locally w φ) out
  unfolding locally
  locally_stands sources chosen e e' φ truths out stands is =
      alike w Γ _ _ out
      (λ c a low. sym (some_cover w.site c (λ f. φ (source w f) (along w f a)) known.lawful.1.category known.lawful.1.topology low))
      (along_slice (least w.site) stages.least known.stands.least_cover sources chosen e e' φ truths out stands is)
