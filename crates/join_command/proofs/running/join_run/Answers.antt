use Rattle.std.proofs.Common.{[]}
use Rattle.join_command.specs.Asked.{joined_run}
use Rattle.join_command.specs.Wired.{wire_of, wires_of}
use Rattle.join_command.proofs.Joining.{begun_failed, begun_run, kept_loaded, own_loaded}
use Rattle.join_command.proofs.Wiring.{on_err, on_ok}
use Rattle.join_command.proofs.running.join_run.Goals as goal

pub returns-in_err-load_both-clause-begun : goal.returns-in_err-load_both-clause-begun
returns-in_err-load_both-clause-begun g c =
    let m = c.args.machine.now in
    on_err c.from_residual.result _ (begun_failed (joined_run (g.M.Performer.performs m) (g.M.Processor.computes m) c.args.options) c.args.options.at c.args.script.now
    (wires_of g.W.Wire.told g.W.Wire.rule g.W.Wire.loaded c.args.group.now) (wires_of g.W.Wire.told g.W.Wire.rule g.W.Wire.loaded c.load_both.new.group)
    (wire_of g.W.Wire.told g.W.Wire.rule g.W.Wire.loaded c.args.own.now) (wire_of g.W.Wire.told g.W.Wire.rule g.W.Wire.loaded c.load_both.new.own)
    c.in_err-load_both.ensures.as_before c.load_both.ensures.own_told c.in_err-load_both.ensures.maybe)

pub returns-clause-run : goal.returns-clause-run
returns-clause-run g c = rw (c.load_both.ensures.told, c.load_both.ensures.own_told) at c.join_loaded.ensures.run

pub returns-clause-group : goal.returns-clause-group
returns-clause-group g c =
    on_ok c.join_loaded.result _ (kept_loaded [] (wires_of g.W.Wire.told g.W.Wire.rule g.W.Wire.loaded c.args.group.now) (wires_of g.W.Wire.told g.W.Wire.rule g.W.Wire.loaded c.load_both.new.group)
    (wires_of g.W.Wire.told g.W.Wire.rule g.W.Wire.loaded c.join_loaded.new.group) c.load_both.ensures.told c.join_loaded.ensures.scripts c.join_loaded.ensures.loaded c.in_ok-load_both.ensures.group)

pub returns-clause-own : goal.returns-clause-own
returns-clause-own g c =
    on_ok c.join_loaded.result _ (own_loaded c.args.script.now (wire_of g.W.Wire.told g.W.Wire.rule g.W.Wire.loaded c.args.own.now) (wire_of g.W.Wire.told g.W.Wire.rule g.W.Wire.loaded c.load_both.new.own)
    (wire_of g.W.Wire.told g.W.Wire.rule g.W.Wire.loaded c.join_loaded.new.own) c.join_loaded.ensures.script c.join_loaded.ensures.since c.in_ok-load_both.ensures.own)

pub returns-clause-begun : goal.returns-clause-begun
returns-clause-begun g c =
    let m = c.args.machine.now in
    on_err c.join_loaded.result _ (begun_run (joined_run (g.M.Performer.performs m) (g.M.Processor.computes m) c.args.options) c.args.options.at c.args.script.now
    (wires_of g.W.Wire.told g.W.Wire.rule g.W.Wire.loaded c.args.group.now) (wires_of g.W.Wire.told g.W.Wire.rule g.W.Wire.loaded c.load_both.new.group) (wires_of g.W.Wire.told g.W.Wire.rule g.W.Wire.loaded c.join_loaded.new.group)
    (wire_of g.W.Wire.told g.W.Wire.rule g.W.Wire.loaded c.args.own.now) (wire_of g.W.Wire.told g.W.Wire.rule g.W.Wire.loaded c.load_both.new.own) (wire_of g.W.Wire.told g.W.Wire.rule g.W.Wire.loaded c.join_loaded.new.own)
    c.load_both.ensures.told c.load_both.ensures.own_told c.join_loaded.ensures.scripts c.join_loaded.ensures.loaded c.join_loaded.ensures.script c.join_loaded.ensures.since
    c.in_ok-load_both.ensures.group c.in_ok-load_both.ensures.own c.join_loaded.ensures.told c.join_loaded.ensures.asked c.join_loaded.ensures.followed)
