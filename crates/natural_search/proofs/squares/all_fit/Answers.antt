use Rattle.std.proofs.Common.{◌≡◌, ℕ, ◌-◌, ◌<◌, inl, inr, length, get_or, refl, sym, subst, arith}
use Rattle.std.proofs.lemmas.List.{get_or_default}
use Rattle.std.proofs.lemmas.Bool.{cases_lt}
use Rattle.std.proofs.lemmas.Option.{get_or_from_slice_get}
use Rattle.natural_search.specs.declared.squares.Square.{Square}
use Rattle.natural_search.specs.Squares.{Fits, later_place}
use Rattle.natural_search.proofs.SquareChains.{chain_first, chain_next, links_within}
use Rattle.natural_search.proofs.squares.all_fit.Goals as goal

pub chain-init : goal.chain-init
chain-init c =
    let is = chain_first later_place c.args.squares.now (length c.args.values.now) c.args.chains.now.heads.items c.args.chains.now.links c.requires.chains c.args.place c.index-next.result.now c.index-next.result.now c.requires.place c.index-next.ensures in
    record { low = is.low; key = is.key_of; fit = λ s d a b e. absurd (is.none s d a b e) }

pub fits-requires-clause-arrow : goal.fits-requires-clause-arrow
fits-requires-clause-arrow c = c.requires.squares.arrow (c.chain.next - 1) _ (omega (arith, c.chain.invariant.low))

pub fits-requires-clause-within : goal.fits-requires-clause-within
fits-requires-clause-within c =
    let key = c.chain.invariant.key (c.chain.next - 1) (record { arrow = 0; element = 0; restricted = 0 }) (omega arith) in
    c.requires.within (c.chain.next - 1) _ (omega (arith, c.chain.invariant.low)) (omega (arith, key))

pub returns-then-not-fits-clause-broken : goal.returns-then-not-fits-clause-broken
returns-then-not-fits-clause-broken c _ =
    let i = c.chain.next - 1 in
    let low : i < length c.args.squares.now = omega (arith, c.chain.invariant.low) in
    (i, low, λ d. (c.chain.invariant.key i d (omega arith), λ fit. c.if-not-fits.ensures.broken refl (subst (Fits c.args.along.now c.args.values.now) (get_or_default c.args.squares.now i d _ low) fit)))

pub get-next-requires : goal.get-next-requires
get-next-requires c =
    links_within later_place c.args.squares.now (length c.args.values.now) c.args.chains.now.heads.items c.args.chains.now.links c.requires.chains (c.chain.next - 1) (omega (arith, c.chain.invariant.low))

pub chain-smaller : goal.chain-smaller
chain-smaller c =
    let i = c.chain.next - 1 in
    let low : i < length c.args.squares.now = omega (arith, c.chain.invariant.low) in
    let key = c.chain.invariant.key i (record { arrow = 0; element = 0; restricted = 0 }) (omega arith) in
    let read : c.get-next.result.now ≡ get_or c.args.chains.now.links i 0 = sym (get_or_from_slice_get c.args.chains.now.links i c.get-next.result.now 0 c.get-next.ensures) in
    let is = chain_next later_place c.args.squares.now (length c.args.values.now) c.args.chains.now.heads.items c.args.chains.now.links c.requires.chains c.args.place i c.get-next.result.now 0 (record { arrow = 0; element = 0; restricted = 0 }) low key read in
    omega (arith, is.low)

pub chain-preserved : goal.chain-preserved
chain-preserved c =
    let i = c.chain.next - 1 in
    let low : i < length c.args.squares.now = omega (arith, c.chain.invariant.low) in
    let key = c.chain.invariant.key i (record { arrow = 0; element = 0; restricted = 0 }) (omega arith) in
    let read : c.get-next.result.now ≡ get_or c.args.chains.now.links i 0 = sym (get_or_from_slice_get c.args.chains.now.links i c.get-next.result.now 0 c.get-next.ensures) in
    let is = chain_next later_place c.args.squares.now (length c.args.values.now) c.args.chains.now.heads.items c.args.chains.now.links c.requires.chains c.args.place i c.get-next.result.now 0 (record { arrow = 0; element = 0; restricted = 0 }) low key read in
    record {
      low = omega (arith, is.low);
      key = is.key_of;
      fit = λ s d a b e. elim (cases_lt s c.chain.next) [
        | inl before ↦ elim (cases_lt s i) [ inl less ↦ absurd (is.none s d a less e) | inr same ↦ fit_here s d (omega (arith, same, before)) low ]
        | inr after ↦ c.chain.invariant.fit s d after b e
      ];
    }
  where
    fit_here : (s : ℕ) (d : Square) → s ≡ c.chain.next - 1 → c.chain.next - 1 < length c.args.squares.now → Fits c.args.along.now c.args.values.now (get_or c.args.squares.now s d)
    fit_here s d e low =
        subst (λ j. Fits c.args.along.now c.args.values.now (get_or c.args.squares.now j d)) (sym e)
        (subst (Fits c.args.along.now c.args.values.now) (get_or_default c.args.squares.now (c.chain.next - 1) _ d low) (c.if-not-fits.ensures.fit refl))

pub returns-clause-fit : goal.returns-clause-fit
returns-clause-fit c _ s d low e = c.chain.invariant.fit s d (omega arith) low e
