use Rattle.std.proofs.Common.{length, subst}
use Rattle.std.proofs.lemmas.List.Elements.{All-more}
use Rattle.packet_bytes.specs.Sound.{IsMessage}
use Rattle.packet_bytes.specs.Spelling.{four, message_spelling}
use Rattle.packet_bytes.proofs.Readers.{written_more}
use Rattle.packet_bytes.proofs.writing.put_messages.Goals as goal

pub loop-message-preserved : goal.loop-message-preserved
loop-message-preserved c =
    let xs = c.args.messages.now in
    let i = c.loop-message.message-index in
    let m = c.message-item.result in (
      written_more message_spelling xs i m c.args.out.now.items (four (length xs)) c.loop-message.out.items c.put_message.new.out.items c.loop-message-test.true c.message-item.is c.loop-message.invariant.0 c.in_ok-put_message.ensures.spelled,
      All-more IsMessage xs i m c.loop-message-test.true c.loop-message.invariant.1 (subst IsMessage c.message-item.is c.in_ok-put_message.ensures.is),
    )
