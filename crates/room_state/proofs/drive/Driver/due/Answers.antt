use Rattle.std.proofs.Common.{◌≡◌, rules}
use Rattle.world_parts.specs.Seen.{Of, tasks_out}
use Rattle.run_loop.proofs.Stepping.{act_due, packet_due, packet_first}
use Rattle.room_state.specs.Stated.{NoneReady}
use Rattle.room_state.proofs.Ordering.{act_first, idle_now, none_chosen, nothing_due, packet_next, tick_now}
use Rattle.room_state.proofs.drive.Driver.due.Goals as goal

pub step-requires-clause-possible : goal.step-requires-clause-possible
step-requires-clause-possible g c = act_due g.P.OneRun.run.frame c.args.self.now.world c.due_act.result c.in-Some.process c.in-Some.is c.requires.going c.due_act.ensures

pub step-requires-clause-first : goal.step-requires-clause-first
step-requires-clause-first g c = λ w led. tt

pub step-requires-clause-order : goal.step-requires-clause-order
step-requires-clause-order g c = act_first g.P.OneRun.run.frame c.args.self.now.world c.due_act.result c.in-Some.process c.in-Some.is c.due_act.ensures

pub step-requires-in-Some-due_packet-clause-possible : goal.step-requires-in-Some-due_packet-clause-possible
step-requires-in-Some-due_packet-clause-possible g c =
    packet_due g.P.OneRun.run.frame c.args.self.now.world c.due_packet.result c.in-Some-due_packet.packet c.in-Some-due_packet.copy c.in-Some-due_packet.is c.requires.going c.due_packet.ensures

pub step-requires-in-Some-due_packet-clause-first : goal.step-requires-in-Some-due_packet-clause-first
step-requires-in-Some-due_packet-clause-first g c =
    packet_first g.P.OneRun.run.frame c.args.self.now.world c.due_packet.result c.in-Some-due_packet.packet c.in-Some-due_packet.copy c.in-Some-due_packet.is c.due_packet.ensures

pub step-requires-in-Some-due_packet-clause-order : goal.step-requires-in-Some-due_packet-clause-order
step-requires-in-Some-due_packet-clause-order g c =
    packet_next g.P.OneRun.run.frame c.args.self.now.world c.due_act.result c.due_packet.result c.in-Some-due_packet.packet c.in-Some-due_packet.copy c.in_default.is c.in-Some-due_packet.is
    c.due_act.ensures c.due_packet.ensures

pub step-requires-2-clause-possible : goal.step-requires-2-clause-possible
step-requires-2-clause-possible g c =
    let f = g.P.OneRun.run.frame in
    let s = c.args.self.now.world in
    let none_out : tasks_out s ≡ 0 = search rules in
    tick_now f s c.requires.going
    (idle_now f s (nothing_due f s c.due_act.result c.due_packet.result c.in_default.is c.in_default-due_packet.is c.due_act.ensures c.due_packet.ensures)
    (none_chosen f s c.chosen.result (Of f s (NoneReady f s)) c.in_default-chosen.is c.chosen.ensures.none) none_out)

pub step-requires-2-clause-first : goal.step-requires-2-clause-first
step-requires-2-clause-first g c = λ w led. tt

pub step-requires-2-clause-order : goal.step-requires-2-clause-order
step-requires-2-clause-order g c =
    let f = g.P.OneRun.run.frame in
    let s = c.args.self.now.world in
    let none_out : tasks_out s ≡ 0 = search rules in
    idle_now f s (nothing_due f s c.due_act.result c.due_packet.result c.in_default.is c.in_default-due_packet.is c.due_act.ensures c.due_packet.ensures)
    (none_chosen f s c.chosen.result (Of f s (NoneReady f s)) c.in_default-chosen.is c.chosen.ensures.none) none_out
