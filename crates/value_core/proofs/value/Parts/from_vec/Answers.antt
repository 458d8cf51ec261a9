use Rattle.std.proofs.Common.{map}
use Rattle.value_core.specs.Datum.{list_of-data_of}
use Rattle.value_core.specs.View.{datum_of}
use Rattle.value_core.proofs.value.Parts.from_vec.Goals as goal

pub returns : goal.returns
returns c = list_of-data_of (map datum_of c.args.values.items)
