-- Versions, without where they lie in memory.
use Rattle.topos_grammar.specs.Kinds as kind
use Rattle.topos_statements.specs.declared.version.Version.{Version}
use Rattle.topos_statements.specs.declared.version.Version.TheVariants as variant

abbrev pub version_of : Version → kind.Version
version_of variant.First = kind.First
version_of variant.Second = kind.Second
