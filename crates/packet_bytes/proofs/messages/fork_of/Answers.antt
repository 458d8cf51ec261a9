use Rattle.packet_bytes.proofs.Readers.{reads_fork}
use Rattle.packet_bytes.proofs.messages.fork_of.Goals as goal

pub returns : goal.returns
returns c =
    reads_fork c.args.end c.args.process c.args.call c.args.bytes.now c.in_ok-text.text c.in_ok-text.rest.now c.in_ok-place_on.place_on c.in_ok-place_on.rest.now c.in_ok-args.args c.in_ok-args.rest.now _
    c.in_ok-text.ensures c.in_ok-place_on.ensures c.in_ok-args.ensures
