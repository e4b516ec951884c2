use Rattle.std.proofs.Common.{◌<◌, length, get_or, ◌∙◌, arith, length-set}
use Rattle.finite_lists.proofs.Lists.{In_at}
use Rattle.sieve_table.proofs.SieveMembers.{sieve_of}
use Rattle.sheaf_test.proofs.FamilyPlaces.{one_more}
use Rattle.sheaf_test.proofs.squares.place_table.Goals as goal

pub index_mut-requires : goal.index_mut-requires
index_mut-requires c =
    let k = c.args.cat.now in
    let S = c.args.arrows.now in
    let low : get_or S c.loop-i.i 0 < length k.ends = ((sieve_of k c.args.c S c.requires).within _ (In_at S c.loop-i.i 0 c.loop-i-test.true)).0 in
    omega (arith, low, c.loop-i.invariant.long)

pub loop-i-preserved : goal.loop-i-preserved
loop-i-preserved c =
    let k = c.args.cat.now in
    let S = c.args.arrows.now in
    let sieve = sieve_of k c.args.c S c.requires in
    let low : get_or S c.loop-i.i 0 < length k.ends = (sieve.within _ (In_at S c.loop-i.i 0 c.loop-i-test.true)).0 in
    record {
      long = length-set c.loop-i.table.items (get_or S c.loop-i.i 0) c.loop-i.i ∙ c.loop-i.invariant.long;
      places = one_more S c.loop-i.table.items c.loop-i.i sieve.rises c.loop-i-test.true (omega (arith, low, c.loop-i.invariant.long)) c.loop-i.invariant.places;
    }
