use Rattle.std.proofs.Common.{length, map, refl, suc}
use Rattle.run_loop.proofs.Stepping.{on_err, stopped_as}
use Rattle.run_loop.proofs.Telling.{tells_further}
use Rattle.run_loop.proofs.drive.Driver.next.Goals as goal

pub returns-in_err-act-clause-stopped : goal.returns-in_err-act-clause-stopped
returns-in_err-act-clause-stopped g c =
    on_err c.from_residual.result _
    (stopped_as g.P.OneRun.run.frame c.args.self.now.world c.args.self.now.world (suc (length c.args.self.now.world.steps)) c.args.self.now.in_use g.P.OneRun.run.told (map g.W.Wire.told c.args.wires.now) (map g.W.Wire.told c.ask.new.wires)
    c.requires.driven c.requires.going refl c.in_err-act.ensures.err)

pub returns-in_err-does-clause-told : goal.returns-in_err-does-clause-told
returns-in_err-does-clause-told g c =
    tells_further (map g.W.Wire.told c.args.wires.now) (map g.W.Wire.told c.ask.new.wires) (map g.W.Wire.told c.does.new.wires) c.ask.ensures.on c.does.ensures.told

pub returns-then-branch-clause-told : goal.returns-then-branch-clause-told
returns-then-branch-clause-told g c =
    tells_further (map g.W.Wire.told c.args.wires.now) (map g.W.Wire.told c.ask.new.wires) (map g.W.Wire.told c.does.new.wires) c.ask.ensures.on c.does.ensures.told

pub returns-clause-told : goal.returns-clause-told
returns-clause-told g c =
    tells_further (map g.W.Wire.told c.args.wires.now) (map g.W.Wire.told c.does.new.wires) (map g.W.Wire.told c.due.new.wires)
    (tells_further (map g.W.Wire.told c.args.wires.now) (map g.W.Wire.told c.ask.new.wires) (map g.W.Wire.told c.does.new.wires) c.ask.ensures.on c.does.ensures.told)
    c.due.ensures.told
