-- What the test of a sheaf answers.
use Rattle.std.specs.Prelude.{Option, Some, None}
use Rattle.topos_model.specs.topologies.Sheaves.{SheafFault}
use Rattle.sheaf_test.specs.declared.verdict.SheafVerdict.{SheafVerdict}
use Rattle.sheaf_test.specs.declared.verdict.SheafVerdict.TheVariants.{Sheaf, Fails}

-- that it is a sheaf where there is no fault
abbrev pub verdict_of : Option SheafFault → SheafVerdict
verdict_of None = Sheaf
verdict_of (Some fault) = Fails fault.at fault.cover fault.family fault.found
