-- An equation of truth values: they are equal where they are forced along the same arrows.
use Rattle.std.proofs.Common.{◌≡◌, ℕ, ◌<◌, Bool, true, false, List, filter, refl, sym, ap, subst, ◌∙◌}
use Rattle.std.specs.List.{list_all}
use Rattle.finite_lists.specs.Members.{In}
use Rattle.finite_lists.proofs.Lists.{same_tests, In-filter, In-filter_from, In_at, all_each, each_all, filter_same}
use Rattle.topos_model.specs.declared.ty.Ty.{Ty, Omega}
use Rattle.topos_model.specs.declared.term.Term.{Term, Eq}
use Rattle.topos_model.specs.declared.context.MapTy.{MapTy}
use Rattle.topos_model.specs.declared.value.Val.{Sv}
use Rattle.topos_model.specs.types.Values.{same}
use Rattle.topos_model.specs.certificates.CertificateNodes.{same_truth}
use Rattle.topos_model.specs.formulas.Forcing.{World, Assigned, onto, source, along, always, value, forces, tuples}
use Rattle.topos_model.proofs.MeaningEquations.{forces-Eq}
use Rattle.type_laws.proofs.Same.{same_equal, same_self}
use Rattle.type_laws.proofs.Selectors.{Sv-equal}
use Rattle.forcing_laws.proofs.Tuples.{Tuple}
use Rattle.forcing_laws.proofs.TupleLists.{In_tuples}
use Rattle.truth_tables.specs.Standing.{IsTruthTable}
use Rattle.formula_tables.specs.Formulas.{agreeing_at, equivalent_forced}
use Rattle.internal_interp.specs.declared.context.Context.{Context}
use Rattle.internal_interp.specs.declared.interpreter.Interpreter.{Interpreter}
use Rattle.internal_interp.specs.Known.{IsKnown}
use Rattle.internal_interp.specs.Formulas.{AreEquivalent}
use Rattle.internal_interp.proofs.TermFacts.{means_of}

truths_equal : (a b : Bool) → same_truth a b ≡ true → a ≡ b
truths_equal true b h = sym h
truths_equal false true h = cc
truths_equal false false h = refl

truth_self : (b : Bool) → same_truth b b ≡ true
truth_self true = refl
truth_self false = refl

-- the arrows that pass two tests are the same where the tests agree
same_sieves : (p q : ℕ → Bool) (arrows : List ℕ) → list_all (λ f. same_truth (p f) (q f)) arrows ≡ same (Sv (filter p arrows)) (Sv (filter q arrows))
same_sieves p q arrows = same_tests _ _ to from
  where
    to : list_all (λ f. same_truth (p f) (q f)) arrows ≡ true → same (Sv (filter p arrows)) (Sv (filter q arrows)) ≡ true
    to h =
        subst (λ S. same (Sv (filter p arrows)) (Sv S) ≡ true)
        (filter_same p q arrows (λ f i. truths_equal (p f) (q f) (all_each (λ f. same_truth (p f) (q f)) arrows f h i)))
        (same_self (Sv (filter p arrows)))

    from : same (Sv (filter p arrows)) (Sv (filter q arrows)) ≡ true → list_all (λ f. same_truth (p f) (q f)) arrows ≡ true
    from h =
        let e : filter p arrows ≡ filter q arrows = Sv-equal (filter p arrows) (filter q arrows) (same_equal _ _ h) in
        each_all (λ f. same_truth (p f) (q f)) arrows
        (λ f i.
        let agree : p f ≡ q f = same_tests (p f) (q f)
        (λ x. (In-filter_from q arrows f (subst (λ S. In S f) e (In-filter p arrows f i x))).1)
        (λ x. (In-filter_from p arrows f (subst (λ S. In S f) (sym e) (In-filter q arrows f i x))).1) in
        subst (λ b. same_truth (p f) b ≡ true) agree (truth_self (p f)))

module _ (w : World) (maps : List MapTy) (i : Interpreter) (Γ : List Ty) (context : Context) (t u : Term) where
  -- where both sides are forced along the same arrows, their values are equal
  equation_forced : IsKnown w maps i Γ Omega context t → IsKnown w maps i Γ Omega context u → (c : ℕ) (a : Assigned) → c < w.site.category.objects → In (tuples w Γ c) a →
      equivalent_forced w (forces w t) (forces w u) c a ≡ forces w (Eq t u) c a
  unfolding equivalent_forced agreeing_at always
  equation_forced first second c a low m =
      let there : Tuple w Γ c a = record { low = low; fits = In_tuples w Γ c a m } in
      let left = ((means_of w maps i Γ Omega context t first).truth refl).sieve c a there in
      let right = ((means_of w maps i Γ Omega context u second).truth refl).sieve c a there in
      same_sieves (λ f. forces w t (source w f) (along w f a)) (λ f. forces w u (source w f) (along w f a)) (onto w c)
      ∙ sym (forces-Eq w t u c a ∙ ap (λ v. same v (value w u c a)) left ∙ ap (same (Sv (filter (λ f. forces w t (source w f) (along w f a)) (onto w c)))) right)

  pub equation_stands : (left right truths : List (List Bool)) → AreEquivalent w maps i Γ context t u left right → IsTruthTable w Γ (equivalent_forced w (forces w t) (forces w u)) truths →
      IsTruthTable w Γ (forces w (Eq t u)) truths
  equation_stands left right truths h stands = record {
    over = stands.over;
    truths = λ c j low inside. stands.truths c j low inside ∙ equation_forced h.first h.second c _ low (In_at (tuples w Γ c) j _ inside);
  }
