-- Small values, on which the definitions are computed.
use Rattle.std.specs.Prelude.{List, pos}
use Rattle.value_core.specs.Datum.{Datum, data_of}
use Rattle.value_core.specs.Datum as datum

abbrev pub one : Datum
one = datum.int (pos 1)

abbrev pub two : Datum
two = datum.int (pos 2)

abbrev pub three : Datum
three = datum.int (pos 3)

abbrev pub set_of : List Datum → Datum
set_of xs = datum.set (data_of xs)

abbrev pub bag_of : List Datum → Datum
bag_of xs = datum.bag (data_of xs)
