use Rattle.packet_bytes.proofs.Readers.{reads_call}
use Rattle.packet_bytes.proofs.messages.call_of.Goals as goal

pub returns : goal.returns
returns c =
    reads_call c.args.end c.args.process c.args.call c.args.bytes.now c.in_ok-kind.kind c.in_ok-kind.rest.now c.in_ok-op.op c.in_ok-op.rest.now c.in_ok-object.object c.in_ok-object.rest.now c.in_ok-args.args c.in_ok-args.rest.now _
    c.in_ok-kind.ensures c.in_ok-op.ensures c.in_ok-object.ensures c.in_ok-args.ensures
