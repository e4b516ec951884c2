use Rattle.std.proofs.Common.{List, ℕ, ◌%◌, ◌≡◌, ◌-◌, ◌<◌, sym, subst, true, false, length, get_or, arith}
use Rattle.std.proofs.lemmas.Option.{get_or_from_slice_get}
use Rattle.natural_search.specs.declared.squares.Square.{Square}
use Rattle.natural_search.specs.Squares.{restricted_of}
use Rattle.natural_search.specs.Domains.{allows, AllFit, Narrows}
use Rattle.natural_search.proofs.SquareChains.{chain_first, chain_next, links_within}
use Rattle.natural_search.proofs.Narrowing.{narrows_refl, narrows_then, preimage_allowed}
use Rattle.natural_search.proofs.domains.Domains.narrow_above.Goals as goal
use Rattle.natural_search.proofs.domains.Domains.narrow_above.Goals.{then-is_none+in_ok-narrow_below+else-not-branch-2, else-is_none}

abbrev none : Square
none = record { arrow = 0; element = 0; restricted = 0 }

pub chain-init : goal.chain-init
chain-init c =
    let both : List ℕ → Type 0 = λ values. AllFit c.args.along.now c.args.squares.now values × (get_or values c.args.place 0 % 64 ≡ c.args.residue) in
    let is = chain_first restricted_of c.args.squares.now (length c.args.self.now.masks.items) c.args.links.now.above.heads.items c.args.links.now.above.links c.requires.links.above c.args.place c.index-next.result.now c.index-next.result.now c.requires.place c.index-next.ensures in
    record { low = is.low; key = is.key_of; narrows = narrows_refl both c.args.self.now c.requires.whole }

pub returns-then-not-branch : goal.returns-then-not-branch
returns-then-not-branch c =
    let squares = c.args.squares.now in
    let both : List ℕ → Type 0 = λ values. AllFit c.args.along.now squares values × (get_or values c.args.place 0 % 64 ≡ c.args.residue) in
    let i = c.chain.next - 1 in
    narrows_then both (λ values. allows c.at-allowed.result (get_or values (get_or squares i none).element 0) ≡ true) c.args.self.now c.chain.self c.narrow.new.self c.in_ok-narrow.field-0 false c.chain.invariant.narrows c.in_ok-narrow.ensures
    (λ values good all. preimage_allowed c.args.along.now squares i none (omega (arith, c.chain.invariant.low)) c.args.place c.args.residue c.at-allowed.result (c.chain.invariant.key i none (omega arith)) c.at-allowed.ensures values good.0 good.1)
    c.if-not-branch.true

pub returns-then-not-branch-2 : goal.returns-then-not-branch-2
returns-then-not-branch-2 c =
    let squares = c.args.squares.now in
    let both : List ℕ → Type 0 = λ values. AllFit c.args.along.now squares values × (get_or values c.args.place 0 % 64 ≡ c.args.residue) in
    let i = c.chain.next - 1 in
    narrows_then both (AllFit c.args.along.now squares) c.args.self.now c.narrow.new.self c.narrow_below.new.self c.in_ok-narrow_below.field-0 false
    (narrows_then both (λ values. allows c.at-allowed.result (get_or values (get_or squares i none).element 0) ≡ true) c.args.self.now c.chain.self c.narrow.new.self c.in_ok-narrow.field-0 true c.chain.invariant.narrows c.in_ok-narrow.ensures
    (λ values good all. preimage_allowed c.args.along.now squares i none (omega (arith, c.chain.invariant.low)) c.args.place c.args.residue c.at-allowed.result (c.chain.invariant.key i none (omega arith)) c.at-allowed.ensures values good.0 good.1)
    c.if-not-branch.false)
    c.in_ok-narrow_below.ensures (λ values good all. good.0) c.if-not-branch-2.true

pub get-next-requires : goal.get-next-requires
get-next-requires c =
    links_within restricted_of c.args.squares.now (length c.args.self.now.masks.items) c.args.links.now.above.heads.items c.args.links.now.above.links c.requires.links.above (c.chain.next - 1) (omega (arith, c.chain.invariant.low))

pub chain-smaller : goal.chain-smaller
chain-smaller c =
    let i = c.chain.next - 1 in
    let low : i < length c.args.squares.now = omega (arith, c.chain.invariant.low) in
    let read : c.get-next.result.now ≡ get_or c.args.links.now.above.links i 0 = sym (get_or_from_slice_get c.args.links.now.above.links i c.get-next.result.now 0 c.get-next.ensures) in
    let is = chain_next restricted_of c.args.squares.now (length c.args.self.now.masks.items) c.args.links.now.above.heads.items c.args.links.now.above.links c.requires.links.above c.args.place i c.get-next.result.now 0 none low (c.chain.invariant.key i none (omega arith)) read in
    omega (arith, is.low)

pub chain-preserved : goal.chain-preserved
chain-preserved c =
    let squares = c.args.squares.now in
    let both : List ℕ → Type 0 = λ values. AllFit c.args.along.now squares values × (get_or values c.args.place 0 % 64 ≡ c.args.residue) in
    let i = c.chain.next - 1 in
    let low : i < length squares = omega (arith, c.chain.invariant.low) in
    let read : c.get-next.result.now ≡ get_or c.args.links.now.above.links i 0 = sym (get_or_from_slice_get c.args.links.now.above.links i c.get-next.result.now 0 c.get-next.ensures) in
    let is = chain_next restricted_of squares (length c.args.self.now.masks.items) c.args.links.now.above.heads.items c.args.links.now.above.links c.requires.links.above c.args.place i c.get-next.result.now 0 none low (c.chain.invariant.key i none (omega arith)) read in
    let narrowed : Narrows both c.args.self.now c.narrow.new.self true =
    narrows_then both (λ values. allows c.at-allowed.result (get_or values (get_or squares i none).element 0) ≡ true) c.args.self.now c.chain.self c.narrow.new.self c.in_ok-narrow.field-0 true c.chain.invariant.narrows c.in_ok-narrow.ensures
    (λ values good all. preimage_allowed c.args.along.now squares i none (omega (arith, c.chain.invariant.low)) c.args.place c.args.residue c.at-allowed.result (c.chain.invariant.key i none (omega arith)) c.at-allowed.ensures values good.0 good.1)
    c.if-not-branch.false in
    record {
      low = omega (arith, is.low);
      key = is.key_of;
      narrows =
          elim c.if-is_none.branch [
            | then-is_none+in_ok-narrow_below+else-not-branch-2 w ↦
                subst (λ d. Narrows both c.args.self.now d true) (sym w.self-is)
                (narrows_then both (AllFit c.args.along.now squares) c.args.self.now c.narrow.new.self w.narrow_below.new.self w.in_ok-narrow_below.field-0 true narrowed w.in_ok-narrow_below.ensures (λ values good all. good.0) w.if-not-branch-2.false)
            | else-is_none w ↦ subst (λ d. Narrows both c.args.self.now d true) (sym w.self-is) narrowed
          ];
    }
