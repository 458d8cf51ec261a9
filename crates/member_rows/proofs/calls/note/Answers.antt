use Rattle.group_rules.specs.Steps.{note}
use Rattle.member_rows.proofs.Testing.{after_row}
use Rattle.member_rows.proofs.calls.note.Goals as goal

pub returns : goal.returns
returns c = after_row c.args.member.now c.note_applied.new.self _ (λ g which. note g which c.args.number) c.requires c.in_ok-note_applied.ensures.row
