use Rattle.std.proofs.Common.{length, map, refl, suc}
use Rattle.run_loop.proofs.Driving.{burst_done}
use Rattle.run_loop.proofs.Stepping.{act_due, on_err, packet_due, packet_first, stopped_as, tick_due}
use Rattle.run_loop.proofs.drive.Driver.due.Goals as goal

pub step-requires-clause-possible : goal.step-requires-clause-possible
step-requires-clause-possible g c = act_due g.P.OneRun.run.frame c.args.self.now.world c.due_act.result c.in-Some.process c.in-Some.is c.requires.going c.due_act.ensures

pub step-requires-clause-first : goal.step-requires-clause-first
step-requires-clause-first g c = λ w led. tt

pub step-requires-in-Some-due_packet-clause-first : goal.step-requires-in-Some-due_packet-clause-first
step-requires-in-Some-due_packet-clause-first g c =
    packet_first g.P.OneRun.run.frame c.args.self.now.world c.due_packet.result c.in-Some-due_packet.packet c.in-Some-due_packet.copy c.in-Some-due_packet.is c.due_packet.ensures

pub step-requires-in-None-clause-first : goal.step-requires-in-None-clause-first
step-requires-in-None-clause-first g c = λ w led. tt

pub step-requires-in-Some-due_packet-clause-possible : goal.step-requires-in-Some-due_packet-clause-possible
step-requires-in-Some-due_packet-clause-possible g c =
    packet_due g.P.OneRun.run.frame c.args.self.now.world c.due_packet.result c.in-Some-due_packet.packet c.in-Some-due_packet.copy c.in-Some-due_packet.is c.requires.going c.due_packet.ensures

pub step-requires-in-None-clause-possible : goal.step-requires-in-None-clause-possible
step-requires-in-None-clause-possible g c =
    tick_due g.P.OneRun.run.frame c.args.self.now.world c.due_act.result c.due_packet.result c.chosen.result c.in_default.is c.in_default-due_packet.is c.in-None.is c.requires.going
    c.requires.on.driven.idle c.due_act.ensures c.due_packet.ensures c.chosen.ensures.none

pub returns-in_ok-compute-in-Some-chosen-clause-went : goal.returns-in_ok-compute-in-Some-chosen-clause-went
returns-in_ok-compute-in-Some-chosen-clause-went g c =
    burst_done g.P.OneRun.run.frame c.args.self.now.world c.compute.new.self c.args.self.now.in_use g.P.OneRun.run.told (map g.W.Wire.told c.args.wires.now) c.in-Some-chosen.process
    c.worlds_count.ensures.counted c.requires.on c.in_ok-compute-in-Some-chosen.ensures.done c.compute.ensures.tasks

pub returns-in_err-compute-in-Some-chosen-clause-stopped : goal.returns-in_err-compute-in-Some-chosen-clause-stopped
returns-in_err-compute-in-Some-chosen-clause-stopped g c =
    on_err c.from_residual.result _
    (stopped_as g.P.OneRun.run.frame c.args.self.now.world c.compute.new.self (suc (suc (length c.args.self.now.world.steps))) c.args.self.now.in_use g.P.OneRun.run.told (map g.W.Wire.told c.args.wires.now) (map g.W.Wire.told c.args.wires.now)
    c.requires.on.driven c.requires.going c.in_err-compute-in-Some-chosen.ensures.err refl)
