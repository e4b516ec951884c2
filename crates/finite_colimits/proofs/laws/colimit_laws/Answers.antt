use Rattle.finite_colimits.proofs.OneColimit.{one_initial, one_coproduct, one_coequalizer, one_pushout}
use Rattle.finite_colimits.proofs.laws.colimit_laws.Goals as goal

pub returns : goal.returns
returns c = record {
  initial = one_initial;
  coproducts = one_coproduct;
  coequalizers = one_coequalizer;
  pushouts = one_pushout;
}
