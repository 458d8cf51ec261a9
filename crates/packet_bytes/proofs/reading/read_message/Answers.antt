use Rattle.std.proofs.Common.{arith}
use Rattle.packet_bytes.proofs.Found.{message_found, message_only, message_refused, message_not_trailing}
use Rattle.packet_bytes.proofs.reading.read_message.Goals as goal

pub returns-clause-found : goal.returns-clause-found
returns-clause-found c = message_found c.args.bytes.now c.args.at c.find.result (λ i. omega (arith, c.type_inv.bytes i)) c.find.ensures

pub returns-clause-only : goal.returns-clause-only
returns-clause-only c = λ m end is stands. message_only c.args.bytes.now c.args.at c.find.result c.find.ensures m end is stands

pub returns-clause-refused : goal.returns-clause-refused
returns-clause-refused c = message_refused c.args.bytes.now c.args.at c.find.result c.find.ensures

pub returns-clause-never_trailing : goal.returns-clause-never_trailing
returns-clause-never_trailing c = message_not_trailing c.args.bytes.now c.args.at c.find.result c.find.ensures
