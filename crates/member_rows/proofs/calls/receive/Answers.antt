use Rattle.group_rules.specs.OnWire.{receive_packet}
use Rattle.member_rows.proofs.Testing.{after_call}
use Rattle.member_rows.proofs.calls.receive.Goals as goal

pub returns : goal.returns
returns c = after_call c.args.member.now c.receive.new.self (λ sends. sends.items) c.receive.result (λ g which. receive_packet g which c.args.from c.args.packet) c.requires c.receive.ensures.row
