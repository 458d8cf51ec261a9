use Rattle.group_rules.specs.Reset.{listens}
use Rattle.member_rows.proofs.Testing.{after_change}
use Rattle.member_rows.proofs.calls.listen.Goals as goal

pub returns : goal.returns
returns c = after_change c.args.member.now c.listen.new.self (λ g which. listens g c.args.from c.args.incarnation) c.requires c.listen.ensures.row
