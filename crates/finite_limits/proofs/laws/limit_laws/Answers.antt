use Rattle.finite_limits.proofs.OneLimit.{one_product, one_equalizer, one_pullback, one_image}
use Rattle.finite_limits.proofs.laws.limit_laws.Goals as goal

pub returns : goal.returns
returns c = record {
  products = one_product;
  equalizers = one_equalizer;
  pullbacks = one_pullback;
  images = one_image;
}
