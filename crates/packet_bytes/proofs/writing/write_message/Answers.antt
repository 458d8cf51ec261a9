use Rattle.packet_bytes.proofs.Lengths.{message_long}
use Rattle.packet_bytes.proofs.writing.write_message.Goals as goal

pub returns-clause-length : goal.returns-clause-length
returns-clause-length c = rw (c.in_ok-put_message.ensures.spelled, c.new-out.ensures.items) (message_long c.args.message.now)
