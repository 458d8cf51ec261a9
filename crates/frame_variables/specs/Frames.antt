-- A code of lists of values, by which proofs tell frames apart.
use Rattle.std.specs.Prelude.{List}
use Rattle.std.specs.Coded.{Coded, code_by}
use Rattle.value_core.specs.Code.{data_code}
use Rattle.value_core.specs.Datum.{Data, Datum, data_of, list_of, list_of-data_of}

abbrev pub frame_code : Coded (List Datum)
frame_code = code_by Data data_code data_of list_of list_of-data_of
