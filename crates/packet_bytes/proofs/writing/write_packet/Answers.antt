use Rattle.packet_bytes.proofs.Lengths.{packet_long, packet_told}
use Rattle.packet_bytes.proofs.writing.write_packet.Goals as goal

pub returns-clause-length : goal.returns-clause-length
returns-clause-length c = rw (c.in_ok-put_packet.ensures.spelled, c.new-out.ensures.items) (packet_long c.args.packet.now)

pub returns-clause-told : goal.returns-clause-told
returns-clause-told c = rw (c.in_ok-put_packet.ensures.spelled, c.new-out.ensures.items) (packet_told c.args.packet.now)
