use Rattle.std.proofs.Common.{◌≡◌, ◌+◌, ℕ, length, get_or, List, [], ◌∷◌, ap, ◌∙◌, arith}
use Rattle.std.proofs.lemmas.List.{length-replicate, get_or-replicate, length-set, length-append, get_or_default}
use Rattle.natural_search.specs.Squares.{last_before}
use Rattle.natural_search.proofs.ChainLinks.{heads_more, links_more}
use Rattle.natural_search.proofs.chains.Chains.of.Goals as goal

pub loop-i-init : goal.loop-i-init
unfolding last_before
loop-i-init c = record {
  first_places = ap length c.in_ok-heads.ensures ∙ length-replicate c.args.count 0;
  first = λ p low. ap (λ (l : List ℕ). get_or l p 0) c.in_ok-heads.ensures ∙ get_or-replicate c.args.count p 0 0 low;
  next_places = ap length c.new-links.ensures;
  next = λ j low. absurd (omega arith);
}

pub loop-i-preserved : goal.loop-i-preserved
loop-i-preserved c =
    let keys = c.args.keys.now in
    let heads = c.loop-i.heads.items in
    let within = c.requires c.loop-i.i c.loop-i-test.true in
    let read : c.index.result.now ≡ last_before keys (get_or keys c.loop-i.i 0) c.loop-i.i =
    c.index.ensures ∙ get_or_default heads (get_or keys c.loop-i.i 0) c.index.result.now 0 (omega (arith, within, c.loop-i.invariant.first_places)) ∙ c.loop-i.invariant.first (get_or keys c.loop-i.i 0) within in
    record {
      first_places = length-set heads (get_or keys c.loop-i.i 0) (c.loop-i.i + 1) ∙ c.loop-i.invariant.first_places;
      first = heads_more keys heads c.args.count c.loop-i.i c.loop-i.invariant.first_places c.loop-i.invariant.first within;
      next_places = ap length c.in_ok-push.ensures.ok ∙ length-append c.loop-i.links (c.index.result.now ∷ []) ∙ ap (λ n. n + 1) c.loop-i.invariant.next_places;
      next = λ j low. ap (λ (l : List ℕ). get_or l j 0) c.in_ok-push.ensures.ok ∙ links_more keys c.loop-i.links c.loop-i.i c.index.result.now c.loop-i.invariant.next_places c.loop-i.invariant.next read j low;
    }
