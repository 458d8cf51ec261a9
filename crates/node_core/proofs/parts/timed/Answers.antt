use Rattle.std.proofs.Common.{arith, subst}
use Rattle.std.proofs.lemmas.Result.{IfOk-weaker}
use Rattle.group_member.specs.Ticks.{TicksAs}
use Rattle.world_rules.specs.Frame.{bytes_of, name_of}
use Rattle.node_core.proofs.Starting.{due_does, due_some, some_is_member}
use Rattle.node_core.proofs.parts.timed.Goals as goal

pub timer-requires : goal.timer-requires
timer-requires c = some_is_member c.args.member.now c.requires.stands

pub coordinate-requires-clause-stands : goal.coordinate-requires-clause-stands
coordinate-requires-clause-stands c =
    due_some c.args.member.now c.timer.new.self (subst (TicksAs name_of bytes_of c.args.member.now c.timer.new.self) c.in-Due.is (c.in_ok-timer.ensures {u = tt}).row) c.requires.stands

pub coordinate-requires-clause-small : goal.coordinate-requires-clause-small
coordinate-requires-clause-small c =
    let same = (c.in_ok-timer.ensures {u = tt}).numbers.promised in
    let small = c.requires.small in
    omega (arith, same, small)

pub returns-in-Due : goal.returns-in-Due
returns-in-Due c =
    IfOk-weaker c.coordinate.result _ _
    (λ sends does. due_does c.args.member.now c.timer.new.self c.coordinate.new.member sends.items
    (subst (TicksAs name_of bytes_of c.args.member.now c.timer.new.self) c.in-Due.is (c.in_ok-timer.ensures {u = tt}).row) does)
    c.coordinate.ensures.row

pub returns-in-Sent : goal.returns-in-Sent
returns-in-Sent c = subst (TicksAs name_of bytes_of c.args.member.now c.timer.new.self) c.in-Sent.is (c.in_ok-timer.ensures {u = tt}).row
