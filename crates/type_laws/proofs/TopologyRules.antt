-- The intersection of all covers is the least cover, by the rules that the laws of types use.
use Rattle.topos_model.specs.topologies.Cover.{Site}
use Rattle.topos_model.specs.Laws.{IsCategory, IsTopology}
use Rattle.topos_model.specs.topologies.LeastCovers.{least}
use Rattle.sieve_table.proofs.SieveMembers.{sieve_of, of_sieve}
use Rattle.topologies.proofs.LeastCovers.{least-sieve, least-below, covers_above, sink, split}
use Rattle.type_laws.proofs.Arrows.{sieves_In, In_sieves}
use Rattle.type_laws.proofs.LeastCovers.{IsLeast}

pub least_is_least : (s : Site) → IsCategory s.category → IsTopology s → IsLeast s (least s)
least_is_least s laws top = record {
  sieve = λ c. In_sieves s.category c (least s c) (of_sieve s.category c (least s c) (least-sieve s laws c));
  sink = λ c f g i m. sink s laws top c f g i m;
  split = λ c h m. let (f, g, a, b, e) = split s laws top c m in (f, g, a, b, e);
  within = λ c f R h m. least-below s c f R h m;
  above = λ c R low sieve h. covers_above s laws top c R low (sieve_of s.category c R (sieves_In s.category c R sieve)) h;
}
