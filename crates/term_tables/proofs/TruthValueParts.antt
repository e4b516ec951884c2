-- Tables of truth values and of formulas.
use Rattle.std.proofs.Common.{◌≡◌, ℕ, ◌<◌, Bool, true, false, cond, List, [], ◌∷◌, length, get_or, map, filter, refl, sym, ap, subst, ◌∙◌, arith}
use Rattle.std.specs.List.{range_with_len}
use Rattle.std.proofs.lemmas.List.{length-map, get_or-map}
use Rattle.std.proofs.lemmas.List.FromFn.{fill_by_all}
use Rattle.finite_lists.specs.Members.{In}
use Rattle.finite_lists.proofs.Lists.{In_at, In-map}
use Rattle.topos_model.specs.declared.ty.Ty.{Ty, Omega as OmegaType}
use Rattle.topos_model.specs.declared.term.Term.{Term}
use Rattle.topos_model.specs.declared.value.Val.{Val, Star, Sv}
use Rattle.topos_model.specs.categories.Category.{Category, has, into}
use Rattle.topos_model.specs.topologies.Cover.{Site}
use Rattle.topos_model.specs.types.Types.{Presheaf}
use Rattle.topos_model.specs.types.Values.{arrows_of}
use Rattle.topos_model.specs.formulas.Forcing.{World, Assigned, onto, source, along, forces, tuples, values, value}
use Rattle.topos_model.proofs.ValueEquations.{arrows_of-Sv}
use Rattle.functor_store.specs.Faithful.{Stands}
use Rattle.omega_object.specs.declared.omega.Omega.{Omega}
use Rattle.omega_object.specs.TruthValues.{closed_sieves, sieve_at, IsNumber}
use Rattle.omega_object.proofs.ChosenArrows.{chosen_all}
use Rattle.closed_sets.specs.Closed.{chosen}
use Rattle.fin_category.proofs.ArrowLists.{Rises-into}
use Rattle.forcing_laws.specs.ForcingLaws.{forcing_sieve}
use Rattle.topos_model.proofs.ArrowsInto.{In-into_from}
use Rattle.functor_store.specs.Store.{Store, Functor, functor_at, restrictions_at}
use Rattle.site_stages.specs.declared.stages.Stages.{Stages}
use Rattle.site_stages.specs.Stages.{arrow_at}
use Rattle.formula_tables.proofs.AlongArrows.{tuples_are, source_at, sources_at, domain_low, restricted, sizes_long}
use Rattle.omega_object.specs.Tables.{rows_at, IsOmegaOn}
use Rattle.omega_object.proofs.Precedence.{mapped_at}
use Rattle.omega_object.proofs.SealedSieves.{elements_are, few_objects}
use Rattle.fin_category.specs.ArrowSets.{arrows_in}
use Rattle.truth_tables.specs.Tables.{number, bit, along as truth_along, IsEntry}
use Rattle.truth_tables.specs.Standing.{tuple_at}
use Rattle.truth_tables.proofs.Standing.{has_entry, object_in, tuple_in}
use Rattle.type_laws.specs.Numbered.{place_of}
use Rattle.type_laws.proofs.Numbering.{at_place_of}
use Rattle.term_tables.proofs.OneNumber.{one_number}
use Rattle.term_tables.specs.TruthValues.{true_arrows, IsTruthValue, IsReadAlong}
use Rattle.term_tables.specs.Parts.{AreTruthValues, AreForced}

module _ (s : Site) (functors : List Presheaf) (c k : ℕ) (v : Val) (h : Stands s functors OmegaType c k v) where
  pub sieve_within : k < length (closed_sieves s c)
  sieve_within = subst (λ n. k < n) (ap length (elements_are s functors c) ∙ length-map (closed_sieves s c) Sv) h.within

  pub sieve_value : arrows_of v ≡ sieve_at s c k
  sieve_value = ap arrows_of (sym (sym (mapped_at Sv (closed_sieves s c) k [] Star sieve_within) ∙ ap (λ l. get_or l k Star) (sym (elements_are s functors c)) ∙ h.is)) ∙ arrows_of-Sv (sieve_at s c k)

-- the truth values are numbered as the closed sieves
sieves_long : (s : Site) (Ω : Omega) (c : ℕ) → IsOmegaOn s Ω → c < s.category.objects → length (rows_at Ω c) ≡ length (closed_sieves s c)
sieves_long s Ω c is low = sym (length-map (rows_at Ω c) arrows_in) ∙ ap length (is.sieves c low)

module _ (w : World) (Γ : List Ty) (t : Term) (Ω : Omega) (sizes : List ℕ) (numbers : List (List ℕ)) (h : AreTruthValues w Γ t Ω sizes numbers) where
  pub held_truths : (c i : ℕ) → c < w.site.category.objects → i < length (tuples w Γ c) → has c (sieve_at w.site c (number numbers c i)) ≡ forces w t c (tuple_at w Γ c i)
  held_truths c i low inside =
      ap (has c) (sym (sieve_value w.site w.functors c (number numbers c i) _ (h.stands.stands c i low inside)))
      ∙ sym (h.identity c (tuple_at w Γ c i) low (In_at (tuples w Γ c) i [] inside))

  pub truth_values_known : (c i : ℕ) → c < length sizes → i < get_or sizes c 0 → IsTruthValue Ω numbers c i
  truth_values_known c i low' inside' =
      let low = object_in w Γ sizes h.counted c low' in
      let inside = tuple_in w Γ sizes h.counted c i low' inside' in
      let few = few_objects w.site.category h.truth_values.category in
      let m = h.truth_values.few in
      record {
        object = (omega (arith, low, h.truth_values.objects), omega (arith, low, few, m));
        entry = has_entry w Γ numbers c i h.stands.over low inside;
        within = omega (arith, sieve_within w.site w.functors c (number numbers c i) _ (h.stands.stands c i low inside), sieves_long w.site Ω c h.truth_values low);
      }

-- the number is that of the sieve of the arrows along which the table is true
abbrev pub IsFound : Category → Omega → Store → ℕ → List (List ℕ) → List (List Bool) → ℕ → ℕ → ℕ → Type 0
IsFound k Ω store context sources truths c i n =
    (s : Site) → IsOmegaOn s Ω → In (closed_sieves s c) (true_arrows truths (get_or sources c []) (restrictions_at (functor_at store.sealed context) c i) (into k c)) →
    IsNumber s c n (true_arrows truths (get_or sources c []) (restrictions_at (functor_at store.sealed context) c i) (into k c))

-- the arrows that pass a test, by their places
chosen_passed : (q : ℕ → Bool) (xs : List ℕ) → chosen xs (map q xs) ≡ filter q xs
unfolding chosen
chosen_passed q [] = refl
chosen_passed q (x ∷ xs) = at (q x) (chosen_passed q xs)
  where
    at : (b : Bool) → chosen xs (map q xs) ≡ filter q xs → chosen (x ∷ xs) (b ∷ map q xs) ≡ cond b (x ∷ filter q xs) (filter q xs)
    at true e = ap (λ l. x ∷ l) e
    at false e = e

by_places : (p q : ℕ → Bool) (xs : List ℕ) → ((j : ℕ) → j < length xs → p j ≡ q (get_or xs j 0)) → map p (range_with_len 0 (length xs)) ≡ map q xs
by_places p q xs h =
    sym (fill_by_all p (map q xs) (length xs) false (length-map xs q) (λ j low. get_or-map q xs j 0 false low ∙ sym (h j low)))

module _ (w : World) (Γ : List Ty) (φ : Term) (k : Category) (Ω : Omega) (stages : Stages) (store : Store) (context : ℕ) (sizes : List ℕ) (truths : List (List Bool)) (h : AreForced w Γ φ k Ω stages store context sizes truths) where
  abbrev R : Functor
  R = functor_at store.sealed context

  module _ (c i : ℕ) (low : c < w.site.category.objects) (inside : i < length (tuples w Γ c)) where
    abbrev a : Assigned
    a = tuple_at w Γ c i

    abbrev sieve : List ℕ
    sieve = forcing_sieve w Γ (forces w φ) c (tuple_at w Γ c i)

    member : In (tuples w Γ c) a
    member = In_at (tuples w Γ c) i [] inside

    read_at : (j : ℕ) → j < length (onto w c) → truth_along truths (get_or stages.sources c []) (restrictions_at R c i) j ≡ forces w φ (source w (arrow_at w.site c j)) (along w (arrow_at w.site c j) a)
    read_at j there =
        let t = tuples_are w Γ stages store context sizes h.known in
        ap (λ d. bit truths d (get_or (restrictions_at R c i) j 0)) (source_at w Γ stages store context sizes h.known c j low there)
        ∙ h.stands.truths (source w (arrow_at w.site c j)) (get_or (restrictions_at R c i) j 0) (domain_low w Γ stages store context sizes h.known c j low there) (t.within c i j low inside there)
        ∙ ap (forces w φ (source w (arrow_at w.site c j))) (t.restricted c i j low inside there)

    few : (f : ℕ) → In (onto w c) f → f < 512
    few f m = let g = (In-into_from w.site.category c f m).0 in let n = h.truth_values.few in omega (arith, g, n)

    -- the arrows along which the table is true are those along which the formula is forced
    pub true_is_forced : true_arrows truths (get_or stages.sources c []) (restrictions_at (functor_at store.sealed context) c i) (into k c) ≡ forcing_sieve w Γ (forces w φ) c (tuple_at w Γ c i)
    true_is_forced =
        let p = truth_along truths (get_or stages.sources c []) (restrictions_at R c i) in
        let q = λ (f : ℕ). forces w φ (source w f) (along w f a) in
        ap (λ l. true_arrows truths (get_or stages.sources c []) (restrictions_at R c i) (into l c)) (sym h.category)
        ∙ chosen_all (onto w c) (map p (range_with_len 0 (length (onto w c)))) (Rises-into w.site.category c) few
        ∙ ap (chosen (onto w c)) (by_places p q (onto w c) read_at) ∙ chosen_passed q (onto w c)

    pub forced_in : In (closed_sieves w.site c) (forcing_sieve w Γ (forces w φ) c (tuple_at w Γ c i))
    forced_in = (h.sieves c a low member).1

    -- the number of that sieve stands for the value of the formula
    pub sieve_stands : (n : ℕ) → IsNumber w.site c n (forcing_sieve w Γ (forces w φ) c (tuple_at w Γ c i)) → Stands w.site w.functors OmegaType c n (value w φ c (tuple_at w Γ c i))
    sieve_stands n is = record {
      within = subst (λ m. n < m) (sym (ap length (elements_are w.site w.functors c) ∙ length-map (closed_sieves w.site c) Sv)) is.within;
      is = ap (λ l. get_or l n Star) (elements_are w.site w.functors c) ∙ mapped_at Sv (closed_sieves w.site c) n [] Star is.within ∙ ap Sv is.is ∙ sym (h.sieves c a low member).0;
    }

    pub read_along : IsReadAlong k Ω store context stages.sources truths c i
    read_along =
        let t = tuples_are w Γ stages store context sizes h.known in
        let e : length (into k c) ≡ length (onto w c) = ap (λ (l : Category). length (into l c)) (sym h.category) in
        let long = sources_at w Γ stages store context sizes h.known c low in
        record {
          object = (subst (λ l. c < l.objects) h.category low, omega (arith, low, h.known.faithful.objects), omega (arith, low, h.known.stands.objects), omega (arith, low, h.truth_values.objects));
          sealed = h.known.sealed;
          element = omega (arith, inside, t.sizes c low);
          arrows = e ∙ sym long ∙ (restricted w Γ stages store context sizes h.known).arrows c (omega (arith, low, sizes_long w Γ stages store context sizes h.known));
          read = record {
            sources_long = long ∙ sym e;
            few = λ f m. few f (subst (λ l. In (into l c) f) (sym h.category) m);
            entries = λ j there'.
                let there : j < length (onto w c) = omega (arith, there', e) in
                subst (λ d. IsEntry truths d (get_or (restrictions_at R c i) j 0)) (sym (source_at w Γ stages store context sizes h.known c j low there))
                (has_entry w Γ truths (source w (arrow_at w.site c j)) (get_or (restrictions_at R c i) j 0) h.stands.over (domain_low w Γ stages store context sizes h.known c j low there) (t.within c i j low inside there));
          };
        }

  -- the number of the value at each tuple
  abbrev pub value_number : ℕ → ℕ → ℕ
  value_number c i = place_of (value w φ c (tuple_at w Γ c i)) (values w OmegaType c)

  pub value_number_stands : (c i : ℕ) → c < w.site.category.objects → i < length (tuples w Γ c) → Stands w.site w.functors OmegaType c (value_number c i) (value w φ c (tuple_at w Γ c i))
  value_number_stands c i low inside =
      let v = value w φ c (tuple_at w Γ c i) in
      let member : In (values w OmegaType c) v =
      subst (In (values w OmegaType c)) (sym (h.sieves c (tuple_at w Γ c i) low (In_at (tuples w Γ c) i [] inside)).0)
      (subst (λ l. In l (Sv (forcing_sieve w Γ (forces w φ) c (tuple_at w Γ c i)))) (sym (elements_are w.site w.functors c)) (In-map Sv (closed_sieves w.site c) (forcing_sieve w Γ (forces w φ) c (tuple_at w Γ c i)) (forced_in c i low inside))) in
      let p = at_place_of (values w OmegaType c) v Star member in
      record { within = p.0; is = p.1 }

  -- the number that is found is that one
  pub found_number : (c i n : ℕ) → c < w.site.category.objects → i < length (tuples w Γ c) → (sources : List (List ℕ)) → sources ≡ stages.sources → IsFound k Ω store context sources truths c i n → n ≡ value_number c i
  found_number c i n low inside sources same found =
      let e = true_is_forced c i low inside in
      let is = (subst (λ (x : List (List ℕ)). IsFound k Ω store context x truths c i n) same found) w.site h.truth_values (subst (In (closed_sieves w.site c)) (sym e) (forced_in c i low inside)) in
      one_number w.site w.functors OmegaType c n (value_number c i) _ _ (sieve_stands c i low inside n (subst (IsNumber w.site c n) e is)) (value_number_stands c i low inside) refl
