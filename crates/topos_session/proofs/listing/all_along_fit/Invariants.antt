use Rattle.std.proofs.Common.{◌≡◌, drop}
use Rattle.std.specs.List.{list_all}
use Rattle.topos_model.specs.statements.Form.{along_fits}
use Rattle.topos_session.proofs.listing.all_along_fit.Given as goal

abbrev pub invariant-loop-listed : goal.invariant-loop-listed
invariant-loop-listed l = list_all (along_fits l.objects l.ends l.sizes) l.along ≡ list_all (along_fits l.objects l.ends l.sizes) (drop l.listed-index l.along)
