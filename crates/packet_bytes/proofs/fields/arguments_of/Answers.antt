use Rattle.std.proofs.Common.{map}
use Rattle.value_core.specs.View.{datum_of}
use Rattle.packet_bytes.proofs.Readers.{arguments_read}
use Rattle.packet_bytes.proofs.fields.arguments_of.Goals as goal

pub returns : goal.returns
returns c =
    arguments_read c.args.end c.args.bytes.now c.in_ok-count.count c.in_ok-count.rest.now (map datum_of c.in_ok-values.values.items) c.in_ok-values.rest.now c.from_vec.result
    c.in_ok-count.ensures c.in_ok-values.ensures c.from_vec.ensures
