-- The closed sieves, as values, are a sheaf.
use Rattle.std.proofs.Common.{◌≡◌, ℕ, List, filter, sym, ◌∙◌, ap, subst}
use Rattle.std.specs.List.{list_all}
use Rattle.topos_model.specs.declared.value.Val.{Sv}
use Rattle.finite_lists.specs.Members.{In}
use Rattle.topos_model.specs.categories.Category.{Category, has, into, dom, compose, pull}
use Rattle.topos_model.specs.topologies.Cover.{Site}
use Rattle.topos_model.specs.Laws.{IsCategory, IsInto}
use Rattle.topos_model.specs.types.Types.{omega_elements, omega_along}
use Rattle.topos_model.specs.types.Values.{arrows_of}
use Rattle.topos_model.proofs.ValueEquations.{arrows_of-Sv}
use Rattle.type_laws.proofs.Selectors.{Sv-equal}
use Rattle.finite_lists.proofs.Lists.{In-filter, In-filter_from, all_each, each_all, filter_sublist}
use Rattle.topos_model.proofs.ArrowsInto.{In-into, In-into_from}
use Rattle.sieve_table.proofs.SieveMembers.{In-pull_from}
use Rattle.type_laws.proofs.Arrows.{has_In, In_has, pull_In, pull_sublist, same_arrows, sieve_arrow}
use Rattle.type_laws.proofs.TruthValues.{IsClosedSieve, omega_In, In_omega, omega_along_Sv}
use Rattle.type_laws.proofs.LeastCovers.{IsLeast, IsValueSheaf, arrow, unit, closed_sieve_least, least_closed_sieve}

module _ (s : Site) (laws : IsCategory s.category) (M : ℕ → List ℕ) (least : IsLeast s M) where
  abbrev k : Category
  k = s.category

  -- f in S, by the identity in the pulled sieve
  pub pulled_identity : (c f : ℕ) (S : List ℕ) → IsInto k c f → In (pull k f S) (dom k f) → In S f
  pulled_identity c f S i h = subst (λ x. In S x) (laws.right_neutral c f i) (In-pull_from k f (dom k f) S h).1

  pub identity_pulled : (c f : ℕ) (S : List ℕ) → IsInto k c f → In S f → In (pull k f S) (dom k f)
  identity_pulled c f S i h = pull_In k c f (dom k f) S (unit s laws M least c f i).0 (subst (λ x. In S x) (sym (laws.right_neutral c f i)) h)

  omega_included : (c : ℕ) (S R : List ℕ) → IsClosedSieve s c S → IsClosedSieve s c R → ((f : ℕ) → In (M c) f → pull k f S ≡ pull k f R) → (h : ℕ) → In S h → In R h
  omega_included c S R p q same h m =
      let i = sieve_arrow k c h S p.sieve.member m in
      closed_sieve_least s laws M least c h R q i (λ g n.
      let j = arrow s laws M least (dom k h) g n in
      let i' = (laws.composite c h g i j).0 in
      pulled_identity c (compose k h g) R i'
      (subst (λ x. In x (dom k (compose k h g))) (same (compose k h g) (least.sink c h g i n))
      (identity_pulled c (compose k h g) S i' (p.sieve.downward h g m j))))

  pub omega_separated : (c : ℕ) (S R : List ℕ) → IsClosedSieve s c S → IsClosedSieve s c R → ((f : ℕ) → In (M c) f → pull k f S ≡ pull k f R) → S ≡ R
  omega_separated c S R p q same =
      same_arrows k c S R p.sieve.member q.sieve.member (omega_included c S R p q same) (omega_included c R S q p (λ f m. sym (same f m)))

  module _ (c : ℕ) (σ : ℕ → List ℕ) (each : (f : ℕ) → In (M c) f → IsClosedSieve s (dom k f) (σ f))
      (matching : (f g : ℕ) → In (M c) f → IsInto k (dom k f) g → pull k g (σ f) ≡ σ (compose k f g)) where
    -- the h with the identity in σ (h.g) for each g of the least cover
    abbrev pub glued_sieve : List ℕ
    glued_sieve = filter (λ h. list_all (λ g. has (dom k g) (σ (compose k h g))) (M (dom k h))) (into k c)

    glued_In : (h : ℕ) → IsInto k c h → ((g : ℕ) → In (M (dom k h)) g → In (σ (compose k h g)) (dom k g)) → In glued_sieve h
    glued_In h i m = In-filter _ _ h (In-into k c h i) (each_all _ (M (dom k h)) (λ g n. In_has _ _ (m g n)))

    In_glued : (h : ℕ) → In glued_sieve h → IsInto k c h × ((g : ℕ) → In (M (dom k h)) g → In (σ (compose k h g)) (dom k g))
    In_glued h m =
        let n = In-filter_from (λ h. list_all (λ g. has (dom k g) (σ (compose k h g))) (M (dom k h))) (into k c) h m in
        (In-into_from k c h n.0, λ g j. has_In _ _ (all_each (λ g. has (dom k g) (σ (compose k h g))) (M (dom k h)) g n.1 j))

    glued_downward : (h l : ℕ) → In glued_sieve h → IsInto k (dom k h) l → In glued_sieve (compose k h l)
    glued_downward h l m j =
        let n = In_glued h m in
        let q = laws.composite c h l n.0 j in
        glued_In (compose k h l) q.0 (λ g p.
        let p' : In (M (dom k l)) g = subst (λ d. In (M d) g) q.1 p in
        let g' = arrow s laws M least (dom k l) g p' in
        subst (λ f. In (σ f) (dom k g)) (laws.associative c h l g n.0 j g')
        (subst (λ d. In (σ (compose k h (compose k l g))) d) (laws.composite (dom k h) l g j g').1
        (n.1 (compose k l g) (least.sink (dom k h) l g j p'))))

    glued_closed : (h : ℕ) → IsInto k c h → ((g : ℕ) → In (M (dom k h)) g → In glued_sieve (compose k h g)) → In glued_sieve h
    glued_closed h i m =
        glued_In h i (λ f n.
        let parts = least.split (dom k h) f n in
        let g = parts.0 in
        let l = parts.1 in
        let g' = arrow s laws M least (dom k h) g parts.2 in
        let l' = arrow s laws M least (dom k g) l parts.3 in
        let q = laws.composite c h g i g' in
        subst (λ f. In (σ (compose k h f)) (dom k f)) parts.4
        (subst (λ d. In (σ (compose k h (compose k g l))) d) (sym (laws.composite (dom k h) g l g' l').1)
        (subst (λ f. In (σ f) (dom k l)) (sym (laws.associative c h g l i g' l'))
        ((In_glued (compose k h g) (m g parts.2)).1 l (subst (λ d. In (M d) l) (sym q.1) parts.3)))))

    pub glued_is_closed : IsClosedSieve s c glued_sieve
    glued_is_closed =
        least_closed_sieve s laws M least c glued_sieve (record { member = filter_sublist _ (into k c); downward = glued_downward }) glued_closed

    pub glued_pull : (f : ℕ) → In (M c) f → pull k f glued_sieve ≡ σ f
    glued_pull f n =
        same_arrows k (dom k f) (pull k f glued_sieve) (σ f) (pull_sublist k f glued_sieve) (each f n).sieve.member
        (λ h m.
        let p = In-pull_from k f h glued_sieve m in
        let q = laws.composite c f h i p.0 in
        closed_sieve_least s laws M least (dom k f) h (σ f) (each f n) p.0 (λ g j. (read h g p.0 j).0 ((In_glued (compose k f h) p.1).1 g (subst (λ d. In (M d) g) (sym q.1) j))))
        (λ h m.
        let p = sieve_arrow k (dom k f) h (σ f) (each f n).sieve.member m in
        let q = laws.composite c f h i p in
        pull_In k c f h glued_sieve p
        (glued_In (compose k f h) q.0 (λ g j.
        let j' : In (M (dom k h)) g = subst (λ d. In (M d) g) q.1 j in
        (read h g p j').1 ((each f n).sieve.downward h g m (arrow s laws M least (dom k h) g j')))))
      where
        i : IsInto k c f
        i = arrow s laws M least c f n

        -- the identity in σ ((f.h).g), against h.g in σ f
        read : (h g : ℕ) → IsInto k (dom k f) h → In (M (dom k h)) g →
            (In (σ (compose k (compose k f h) g)) (dom k g) → In (σ f) (compose k h g)) × (In (σ f) (compose k h g) → In (σ (compose k (compose k f h) g)) (dom k g))
        read h g p j =
            let g' = arrow s laws M least (dom k h) g j in
            let q = laws.composite (dom k f) h g p g' in
            let e : pull k (compose k h g) (σ f) ≡ σ (compose k (compose k f h) g) = matching f (compose k h g) n q.0 ∙ ap σ (laws.associative c f h g i p g') in (
              λ m. pulled_identity (dom k f) (compose k h g) (σ f) q.0 (subst (λ x. In x (dom k (compose k h g))) (sym e) (subst (λ d. In (σ (compose k (compose k f h) g)) d) (sym q.1) m)),
              λ m. subst (λ d. In (σ (compose k (compose k f h) g)) d) q.1 (subst (λ x. In x (dom k (compose k h g))) e (identity_pulled (dom k f) (compose k h g) (σ f) q.0 m)),
            )

  pub omega_sheaf : IsValueSheaf k M (omega_elements s) (omega_along s)
  omega_sheaf = record {
    separated = λ c u v low h j same.
        let m = In_omega s c u h in
        let n = In_omega s c v j in
        sym m.2
        ∙ ap Sv (omega_separated c m.0 n.0 m.1 n.1 (λ f i.
        Sv-equal _ _ (sym (omega_along_Sv s f m.0) ∙ ap (omega_along s f) m.2 ∙ same f i ∙ ap (omega_along s f) (sym n.2) ∙ omega_along_Sv s f n.0)))
        ∙ n.2;
    amalgam = λ c t low h matching.
        let known : (f : ℕ) → In (M c) f → IsClosedSieve s (dom k f) (arrows_of (t f)) × (Sv (arrows_of (t f)) ≡ t f) =
        λ f i.
        let m = In_omega s (dom k f) (t f) (h f i) in
        let e : m.0 ≡ arrows_of (t f) = sym (arrows_of-Sv m.0) ∙ ap arrows_of m.2 in
        (subst (λ S. IsClosedSieve s (dom k f) S) e m.1, subst (λ S. Sv S ≡ t f) e m.2) in
        let σ : ℕ → List ℕ = λ f. arrows_of (t f) in
        let each : (f : ℕ) → In (M c) f → IsClosedSieve s (dom k f) (σ f) = λ f i. (known f i).0 in
        let agree : (f g : ℕ) → In (M c) f → IsInto k (dom k f) g → pull k g (σ f) ≡ σ (compose k f g) =
        λ f g i j. sym (arrows_of-Sv _) ∙ ap arrows_of (sym (omega_along_Sv s g (σ f)) ∙ ap (omega_along s g) (known f i).1 ∙ matching f g i j) in (
          Sv (glued_sieve c σ each agree),
          omega_In s c _ (glued_is_closed c σ each agree),
          λ f i. omega_along_Sv s f _ ∙ ap Sv (glued_pull c σ each agree f i) ∙ (known f i).1,
        );
  }
