use Rattle.group_rules.specs.Reset.{coordinate}
use Rattle.member_rows.proofs.Testing.{after_row}
use Rattle.member_rows.proofs.calls.begin.Goals as goal

pub returns : goal.returns
returns c = after_row c.args.member.now c.coordinate.new.member _ (coordinate) c.requires c.in_ok-coordinate.ensures.row
