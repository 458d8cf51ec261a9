use Rattle.packet_bytes.proofs.Readers.{reads_make}
use Rattle.packet_bytes.proofs.messages.make_of.Goals as goal

pub returns : goal.returns
returns c = reads_make c.args.end c.args.process c.args.call c.args.bytes.now c.in_ok-kind.kind c.in_ok-kind.rest.now c.in_ok-object.object c.in_ok-object.rest.now _ c.in_ok-kind.ensures c.in_ok-object.ensures
