use Rattle.std.proofs.Common.{◌≡◌, ◌-◌, ◌<◌, sym, subst, true, false, length, get_or, arith}
use Rattle.std.proofs.lemmas.Option.{get_or_from_slice_get}
use Rattle.natural_search.specs.declared.squares.Square.{Square}
use Rattle.natural_search.specs.Squares.{element_of}
use Rattle.natural_search.specs.Domains.{allows, AllFit, Narrows}
use Rattle.natural_search.proofs.SquareChains.{chain_first, chain_next, links_within}
use Rattle.natural_search.proofs.Narrowing.{narrows_refl, narrows_then, image_allowed}
use Rattle.natural_search.proofs.domains.Domains.narrow_below.Goals as goal
use Rattle.natural_search.proofs.domains.Domains.narrow_below.Goals.{then-is_none+in_ok-narrow+else-not-branch, else-is_none}

abbrev none : Square
none = record { arrow = 0; element = 0; restricted = 0 }

pub chain-init : goal.chain-init
chain-init c =
    let is = chain_first element_of c.args.squares.now (length c.args.self.now.masks.items) c.args.links.now.below.heads.items c.args.links.now.below.links c.requires.links.below c.args.place c.index-next.result.now c.index-next.result.now c.requires.place c.index-next.ensures in
    record { low = is.low; key = is.key_of; narrows = narrows_refl (AllFit c.args.along.now c.args.squares.now) c.args.self.now c.requires.whole }

pub returns-then-not-branch : goal.returns-then-not-branch
returns-then-not-branch c =
    let squares = c.args.squares.now in
    let i = c.chain.next - 1 in
    narrows_then (AllFit c.args.along.now squares) (λ values. allows c.image-allowed.result (get_or values (get_or squares i none).restricted 0) ≡ true) c.args.self.now c.chain.self c.narrow.new.self c.in_ok-narrow.field-0 false c.chain.invariant.narrows c.in_ok-narrow.ensures
    (image_allowed c.args.along.now squares i none (omega (arith, c.chain.invariant.low)) c.chain.self.masks.items c.row.result.now c.args.place c.index-then-is_none.result.now c.image-allowed.result (c.chain.invariant.key i none (omega arith))
    (omega (arith, c.requires.place, c.chain.invariant.narrows.extends.places)) c.index-then-is_none.ensures c.row.ensures c.image-allowed.ensures)
    c.if-not-branch.true

pub get-next-requires : goal.get-next-requires
get-next-requires c =
    links_within element_of c.args.squares.now (length c.args.self.now.masks.items) c.args.links.now.below.heads.items c.args.links.now.below.links c.requires.links.below (c.chain.next - 1) (omega (arith, c.chain.invariant.low))

pub chain-smaller : goal.chain-smaller
chain-smaller c =
    let i = c.chain.next - 1 in
    let low : i < length c.args.squares.now = omega (arith, c.chain.invariant.low) in
    let read : c.get-next.result.now ≡ get_or c.args.links.now.below.links i 0 = sym (get_or_from_slice_get c.args.links.now.below.links i c.get-next.result.now 0 c.get-next.ensures) in
    let is = chain_next element_of c.args.squares.now (length c.args.self.now.masks.items) c.args.links.now.below.heads.items c.args.links.now.below.links c.requires.links.below c.args.place i c.get-next.result.now 0 none low (c.chain.invariant.key i none (omega arith)) read in
    omega (arith, is.low)

pub chain-preserved : goal.chain-preserved
chain-preserved c =
    let squares = c.args.squares.now in
    let fit = AllFit c.args.along.now squares in
    let i = c.chain.next - 1 in
    let low : i < length squares = omega (arith, c.chain.invariant.low) in
    let key = c.chain.invariant.key i none (omega arith) in
    let read : c.get-next.result.now ≡ get_or c.args.links.now.below.links i 0 = sym (get_or_from_slice_get c.args.links.now.below.links i c.get-next.result.now 0 c.get-next.ensures) in
    let is = chain_next element_of squares (length c.args.self.now.masks.items) c.args.links.now.below.heads.items c.args.links.now.below.links c.requires.links.below c.args.place i c.get-next.result.now 0 none low key read in
    record {
      low = omega (arith, is.low);
      key = is.key_of;
      narrows =
          elim c.if-is_none.branch [
            | then-is_none+in_ok-narrow+else-not-branch w ↦
                subst (λ d. Narrows fit c.args.self.now d true) (sym w.self-is)
                (narrows_then fit (λ values. allows w.image-allowed.result (get_or values (get_or squares i none).restricted 0) ≡ true) c.args.self.now c.chain.self w.narrow.new.self w.in_ok-narrow.field-0 true c.chain.invariant.narrows w.in_ok-narrow.ensures
                (image_allowed c.args.along.now squares i none low c.chain.self.masks.items w.row.result.now c.args.place w.index-then-is_none.result.now w.image-allowed.result key (omega (arith, c.requires.place, c.chain.invariant.narrows.extends.places)) w.index-then-is_none.ensures w.row.ensures w.image-allowed.ensures)
                w.if-not-branch.false)
            | else-is_none w ↦ subst (λ d. Narrows fit c.args.self.now d true) (sym w.self-is) c.chain.invariant.narrows
          ];
    }
