use Rattle.std.proofs.Common.{length, map, refl, suc}
use Rattle.run_loop.proofs.Stepping.{on_err, stopped_as}
use Rattle.room_state.specs.Driven.{without_tasks}
use Rattle.room_state.proofs.drive.Driver.asks.Goals as goal

pub returns-in_err-act-clause-stopped : goal.returns-in_err-act-clause-stopped
returns-in_err-act-clause-stopped g c =
    let now = without_tasks c.args.self.now.world in
    on_err c.from_residual.result _
    (stopped_as g.P.OneRun.run.frame now now (suc (length now.steps)) c.args.self.now.in_use g.P.OneRun.run.told (map g.W.Wire.told c.args.wires.now) (map g.W.Wire.told c.ask.new.wires)
    c.requires.driven c.requires.going refl c.in_err-act.ensures.err)
