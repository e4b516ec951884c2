use Rattle.std.proofs.Common.{◌≡◌, get_or, [], ap, ◌∙◌, arith}
use Rattle.functor_store.specs.Store.{functor_at}
use Rattle.natural_search.proofs.RisingRows.{stands, is_placed}
use Rattle.truth_tables.proofs.abstraction.element_number.Goals as goal

pub returns : goal.returns
returns c = record {
  found = λ rise i.
      let all = get_or (functor_at c.args.store.now.sealed c.args.id).rows c.args.c [] in
      let (n, low, is) = stands all c.args.row.now i in
      let e : c.place_by.result ≡ n = c.place_by.ensures.place n (omega (arith, low, c.from.ensures, c.count.ensures.elements)) (λ m answer inside p.
      is_placed all rise c.args.row.now n m low is (omega (arith, inside, c.from.ensures, c.count.ensures.elements)) answer p) in
      record { element = omega (arith, e, low); has_row = ap (λ m. get_or all m []) e ∙ is };
}
