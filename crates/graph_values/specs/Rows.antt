-- Small values, on which the definitions are computed.
use Rattle.std.specs.Prelude.{pos}
use Rattle.value_core.specs.Datum.{Datum}
use Rattle.value_core.specs.Datum as datum

abbrev pub one : Datum
one = datum.int (pos 1)

abbrev pub seven : Datum
seven = datum.int (pos 7)
