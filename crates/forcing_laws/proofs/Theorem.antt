-- The theorem, from the induction: premises by listed tuples, locality at each cover.
use Rattle.std.proofs.Common.{◌≡◌, ℕ, ◌<◌, List, filter, refl, subst}
use Rattle.std.specs.Prelude.{Ok}
use Rattle.finite_lists.specs.Members.{In}
use Rattle.finite_lists.proofs.Lists.{In-map_from}
use Rattle.topos_model.specs.declared.ty.Ty.{Ty, Omega}
use Rattle.topos_model.specs.declared.term.Term.{Term}
use Rattle.topos_model.specs.declared.value.Val.{Sv}
use Rattle.topos_model.specs.declared.context.MapTy.{MapTy}
use Rattle.topos_model.specs.categories.Category.{sieves}
use Rattle.topos_model.specs.types.Types.{omega_elements, is_closed_sieve, elements}
use Rattle.topos_model.specs.statements.Needs.{term_needs}
use Rattle.topos_model.specs.formulas.Typing.{typed}
use Rattle.topos_model.specs.formulas.Forcing.{World, Assigned, meaning, tuples}
use Rattle.topos_model.specs.formulas.TermLaws.{IsWorld, NameSheaves}
use Rattle.topos_model.proofs.TypeEquations.{elements-Omega}
use Rattle.term_typing.proofs.TypingRules.{typed_by_rules}
use Rattle.type_laws.proofs.Selectors.{Sv-equal}
use Rattle.forcing_laws.specs.ForcingLaws.{ValuesAreElements, ValuesRestrict, ForcingIsMonotone, ForcingIsLocal, ValuesAreForcingSieves, ForcedAtIdentity}
use Rattle.forcing_laws.proofs.TupleLists.{In_tuples}
use Rattle.forcing_laws.proofs.Tuples.{Tuple, least_cover}
use Rattle.forcing_laws.proofs.Properties.{Means, IsTruth}
use Rattle.forcing_laws.proofs.NamedSheaves.{named_sheaves}
use Rattle.forcing_laws.proofs.Meanings.{meanings}

tuple : (w : World) (Γ : List Ty) (c : ℕ) (a : Assigned) → c < w.site.category.objects → In (tuples w Γ c) a → Tuple w Γ c a
tuple w Γ c a low i = record { low = low; fits = In_tuples w Γ c a i }

means : (w : World) (maps : List MapTy) (Γ : List Ty) (t : Term) (U : Ty) → IsWorld w maps → typed maps Γ t ≡ Ok U → NameSheaves w (term_needs maps Γ t) → Means w Γ U (meaning w t)
means w maps Γ t U world h named = meanings w maps world Γ t U (typed_by_rules maps Γ t U h) (named_sheaves w maps Γ t named)

truth : (w : World) (maps : List MapTy) (Γ : List Ty) (φ : Term) → IsWorld w maps → typed maps Γ φ ≡ Ok Omega → NameSheaves w (term_needs maps Γ φ) → IsTruth w Γ (meaning w φ)
truth w maps Γ φ world h named = (means w maps Γ φ Omega world h named).truth refl

-- an element of Omega is a closed sieve
closed_sieve : (w : World) (c : ℕ) (S : List ℕ) → In (elements w.site w.functors Omega c) (Sv S) → In (filter (is_closed_sieve w.site c) (sieves w.site.category c)) S
unfolding omega_elements
closed_sieve w c S h =
    let m = In-map_from Sv (filter (is_closed_sieve w.site c) (sieves w.site.category c)) (Sv S) (subst (λ l. In l (Sv S)) (elements-Omega w.site w.functors c) h) in
    subst (λ R. In (filter (is_closed_sieve w.site c) (sieves w.site.category c)) R) (Sv-equal m.0 S m.2) m.1

pub values_are_elements : ValuesAreElements
values_are_elements w maps Γ t U world h named c a low i = (means w maps Γ t U world h named).value.within c a (tuple w Γ c a low i)

pub values_restrict : ValuesRestrict
values_restrict w maps Γ t U world h named c a low i f j = (means w maps Γ t U world h named).value.natural c f a (tuple w Γ c a low i) j

pub forcing_is_monotone : ForcingIsMonotone
forcing_is_monotone w maps Γ φ world h named c a low i f j = (truth w maps Γ φ world h named).property.monotone c f a (tuple w Γ c a low i) j

pub forcing_is_local : ForcingIsLocal
forcing_is_local w maps Γ φ world h named c a low i S cover each =
    (truth w maps Γ φ world h named).property.local c a (tuple w Γ c a low i) (λ f m. each f ((least_cover w world).within c f S cover m))

pub values_are_forcing_sieves : ValuesAreForcingSieves
values_are_forcing_sieves w maps Γ φ world h named c a low i =
    let e = (truth w maps Γ φ world h named).sieve c a (tuple w Γ c a low i) in
    (e, closed_sieve w c _ (subst (λ v. In (elements w.site w.functors Omega c) v) e (values_are_elements w maps Γ φ Omega world h named c a low i)))

pub forced_at_identity : ForcedAtIdentity
forced_at_identity w maps Γ φ world h named c a low i = (means w maps Γ φ Omega world h named).identity c a (tuple w Γ c a low i)
