use Rattle.member_rows.proofs.Testing.{after_tick}
use Rattle.member_rows.proofs.calls.tick_alone.Goals as goal

pub returns-in-Due : goal.returns-in-Due
returns-in-Due c = after_tick c.args.member.now c.timer.new.self _ c.requires c.in_ok-timer.ensures.row

pub returns-in-Sent : goal.returns-in-Sent
returns-in-Sent c = after_tick c.args.member.now c.timer.new.self _ c.requires c.in_ok-timer.ensures.row
