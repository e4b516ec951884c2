use Rattle.std.proofs.Common.{◌≡◌, ◌<◌, ◌≤◌, ◌+◌, ◌*◌, ℕ, suc, ap, ◌∙◌, subst, arith, length, get_or, take, drop, List, []}
use Rattle.std.proofs.Math.Nat.{mul-le-mul_right}
use Rattle.natural_search.specs.Rows.{AreRows, AreLong, IsCompared}
use Rattle.natural_search.specs.declared.rows.FoundRows.{FoundRows}
use Rattle.natural_search.proofs.JoinedRows.{row_at}
use Rattle.natural_search.proofs.RisingRows.{stands, is_placed}
use Rattle.natural_search.proofs.rows.FoundRows.number_of.Goals as goal

within : (count w m n : ℕ) → m < count → count * w ≤ n → m * w + w ≤ n
within count w m n low long =
    let l : suc m * w ≤ count * w = mul-le-mul_right w (omega (arith, low)) in
    let e : suc m * w ≡ m * w + w = omega arith in
    omega (arith, l, e, long)

-- the row that is read
read : (all : List (List ℕ)) (found : FoundRows) (w m : ℕ) → AreRows all found → AreLong w all → m < found.count → take w (drop (m * w) found.numbers) ≡ get_or all m []
read all found w m are long low = ap (λ (l : List ℕ). take w (drop (m * w) l)) are.numbers ∙ row_at all w m long (omega (arith, low, are.count))

pub place_by-requires : goal.place_by-requires
place_by-requires c = λ m low. within c.args.self.now.count (length c.args.row.now) m (length c.args.self.now.numbers) low c.requires.long

pub returns : goal.returns
returns c = record {
  found = λ all are long rise i.
      let (n, low, is) = stands all c.args.row.now i in
      let e : c.place_by.result ≡ n = c.place_by.ensures.place n (omega (arith, low, are.count)) (λ m answer inside p.
      is_placed all rise c.args.row.now n m low is (omega (arith, inside, are.count)) answer
      (subst (λ (r : List ℕ). IsCompared r c.args.row.now answer) (read all c.args.self.now (length c.args.row.now) m are long inside) p)) in
      (omega (arith, e, low), ap (λ m. get_or all m []) e ∙ is);
}
