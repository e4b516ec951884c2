use Rattle.std.proofs.Common.{◌≡◌, ◌≤◌, ◌-◌, ◌+◌, ◌++◌, ◌∷◌, [], ℕ, Bool, List, length, get_or, replicate, append_assoc, eqb, sym, ap, ◌∙◌, subst, arith}
use Rattle.std.proofs.lemmas.List.{append-nil, length_push, replicate-append-replicate}
use Rattle.finite_limits.specs.Kept.{passing}
use Rattle.finite_limits.specs.Pairs.{firsts, seconds, starts}
use Rattle.finite_limits.specs.Matches.{matching, IsNextWithValue}
use Rattle.finite_limits.proofs.PairNumbers.{firsts_more, seconds_more, starts_more, firsts_long, seconds_rise}
use Rattle.finite_limits.proofs.Threads.{walk_on, walk_begins}
use Rattle.finite_limits.proofs.matches.matched.Goals as goal

pub overflow_cast-len : goal.overflow_cast-len
overflow_cast-len c =
    let fibre : ℕ → List ℕ = matching c.args.m.now c.args.n.now in
    let up : length (seconds fibre c.loop-x.x) ≤ length (seconds fibre c.args.size) = seconds_rise fibre (c.args.size - c.loop-x.x) c.loop-x.x c.args.size (omega (arith, c.loop-x-test.true)) in
    let long : c.len.result ≡ length (seconds fibre c.loop-x.x) = c.len.ensures ∙ ap length c.loop-x.invariant.first ∙ firsts_long fibre c.loop-x.x in
    omega (arith, up, long, c.requires.few)

pub walk-init : goal.walk-init
walk-init c =
    let x : ℕ = c.loop-x.x in
    let n : List ℕ = c.args.n.now in
    let v : ℕ = get_or c.args.m.now x 0 in
    let fibre : ℕ → List ℕ = matching c.args.m.now c.args.n.now in
    let is : IsNextWithValue n v 0 (get_or c.args.heads.now v 0) = c.requires.threads.head v (c.requires.within x (omega (arith, c.requires.long, c.loop-x-test.true))) in
    let none : passing (λ w. eqb (get_or n w 0) v) (get_or c.args.heads.now v 0) ≡ [] = walk_begins n v (get_or c.args.heads.now v 0) is in
    record {
      first = c.loop-x.invariant.first ∙ sym (append-nil (firsts fibre x)) ∙ ap (λ (s : List ℕ). firsts fibre x ++ replicate (length s) x) (sym none);
      second = c.loop-x.invariant.second ∙ sym (append-nil (seconds fibre x)) ∙ ap (λ (s : List ℕ). seconds fibre x ++ s) (sym none);
      within = is.within;
      value = is.value;
    }

pub walk-preserved : goal.walk-preserved
walk-preserved c =
    let x : ℕ = c.loop-x.x in
    let y : ℕ = c.walk.y in
    let n : List ℕ = c.args.n.now in
    let v : ℕ = get_or c.args.m.now x 0 in
    let fibre : ℕ → List ℕ = matching c.args.m.now c.args.n.now in
    let test : ℕ → Bool = λ w. eqb (get_or n w 0) v in
    let e : get_or n y 0 ≡ v = c.walk.invariant.value c.walk-test.true in
    let z : ℕ = get_or c.args.next.now y 0 in
    let is : IsNextWithValue n v (y + 1) z = subst (λ (u : ℕ). IsNextWithValue n u (y + 1) z) e (c.requires.threads.follow y (omega arith) c.walk-test.true) in
    let on : passing test z ≡ passing test y ++ y ∷ [] = walk_on n v y z e is in
    let long : length (passing test y) + 1 ≡ length (passing test z) = sym (ap length on ∙ length_push (passing test y) y ∙ (omega arith)) in
    record {
      first =
          c.in_ok-push-2.ensures.ok ∙ ap (λ (row : List ℕ). row ++ x ∷ []) c.walk.invariant.first ∙ append_assoc (firsts fibre x) (replicate (length (passing test y)) x) (x ∷ [])
          ∙ ap (λ (row : List ℕ). firsts fibre x ++ row) (replicate-append-replicate (length (passing test y)) 1 x)
          ∙ ap (λ (k : ℕ). firsts fibre x ++ replicate k x) long;
      second =
          c.in_ok-push-3.ensures.ok ∙ ap (λ (row : List ℕ). row ++ y ∷ []) c.walk.invariant.second ∙ append_assoc (seconds fibre x) (passing test y) (y ∷ [])
          ∙ ap (λ (row : List ℕ). seconds fibre x ++ row) (sym on);
      within = is.within;
      value = is.value;
    }

pub loop-x-preserved : goal.loop-x-preserved
loop-x-preserved c =
    let x : ℕ = c.loop-x.x in
    let n : List ℕ = c.args.n.now in
    let v : ℕ = get_or c.args.m.now x 0 in
    let fibre : ℕ → List ℕ = matching c.args.m.now c.args.n.now in
    let test : ℕ → Bool = λ w. eqb (get_or n w 0) v in
    let all : c.walk.y ≡ length c.args.n.now = omega (arith, c.walk-test.false, c.walk.invariant.within) in
    record {
      first = c.walk.invariant.first ∙ ap (λ (y : ℕ). firsts fibre x ++ replicate (length (passing test y)) x) all ∙ sym (firsts_more fibre x);
      second = c.walk.invariant.second ∙ ap (λ (y : ℕ). seconds fibre x ++ passing test y) all ∙ sym (seconds_more fibre x);
      starts =
          c.in_ok-push.ensures.ok ∙ ap (λ (row : List ℕ). row ++ c.len.result ∷ []) c.loop-x.invariant.starts
          ∙ ap (λ (k : ℕ). starts fibre x ++ k ∷ []) (c.len.ensures ∙ ap length c.loop-x.invariant.first ∙ firsts_long fibre x)
          ∙ sym (starts_more fibre x);
    }
