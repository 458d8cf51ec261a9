use Rattle.std.proofs.Common.{Err, ap, map}
use Rattle.run_loop.proofs.Stepping.{act_by, none_given, passed_by, some_given, stopped_asked_by}
use Rattle.run_loop.proofs.Telling.{kept_at}
use Rattle.room_state.specs.Driven.{without_tasks}
use Rattle.room_state.proofs.Stepped.{none_out, same_driver, same_run, stepped_so}
use Rattle.room_state.proofs.Ordering.{stepped_by}
use Rattle.room_state.proofs.drive.Driver.does.Goals as goal

pub returns-in_default-clause-passed : goal.returns-in_default-clause-passed
returns-in_default-clause-passed g c = λ _.
    none_given g.P.OneRun.run.frame (without_tasks c.args.self.now.world) c.args.self.now.in_use g.P.OneRun.run.told (map g.W.Wire.told c.args.wires.now) c.args.act c.worlds_count.ensures.counted c.in_default.is c.requires.answered c.requires.going

pub returns-in-Ok-clause-done : goal.returns-in-Ok-clause-done
returns-in-Ok-clause-done g c = λ _.
    act_by g.W.Wire.told c.args.wires.now c.index-wires-self.result c.step.new.wire g.P.OneRun.run.frame (without_tasks c.args.self.now.world) (without_tasks c.step.new.self) c.args.self.now.in_use g.P.OneRun.run.told
    c.in-Some.act c.event_of.result c.swaps_of.result c.worlds_count.ensures.counted
    (some_given g.P.OneRun.run.frame (without_tasks c.args.self.now.world) c.args.self.now.in_use g.P.OneRun.run.told (map g.W.Wire.told c.args.wires.now) c.args.act c.in-Some.act c.in-Some.is c.requires.answered)
    c.requires.going c.event_of.ensures c.swaps_of.ensures (stepped_so g.P.OneRun.run.frame c.event_of.result c.args.self.now.world c.step.new.self _ _ c.in-Ok.ensures.done) (none_out c.args.self.now.world c.step.new.self)

pub returns-in-Ok-clause-scripts : goal.returns-in-Ok-clause-scripts
returns-in-Ok-clause-scripts g c =
    kept_at g.W.Wire.rule c.args.wires.now c.args.self.now.in_use c.index-wires-self.result c.step.new.wire c.step.ensures.script

pub returns-in-Ok-clause-loaded : goal.returns-in-Ok-clause-loaded
returns-in-Ok-clause-loaded g c =
    kept_at g.W.Wire.loaded c.args.wires.now c.args.self.now.in_use c.index-wires-self.result c.step.new.wire c.step.ensures.since

pub returns-in-Err-NotEnabled-clause-passed : goal.returns-in-Err-NotEnabled-clause-passed
returns-in-Err-NotEnabled-clause-passed g c = λ _.
    passed_by g.W.Wire.told c.args.wires.now c.index-wires-self.result c.step.new.wire g.P.OneRun.run.frame (without_tasks c.args.self.now.world) (without_tasks c.step.new.self) c.args.self.now.in_use g.P.OneRun.run.told
    c.in-Some.act c.event_of.result c.worlds_count.ensures.counted
    (some_given g.P.OneRun.run.frame (without_tasks c.args.self.now.world) c.args.self.now.in_use g.P.OneRun.run.told (map g.W.Wire.told c.args.wires.now) c.args.act c.in-Some.act c.in-Some.is c.requires.answered)
    c.requires.going c.event_of.ensures (c.in-Err-NotEnabled.ensures.refused (ap Err c.in-Err-NotEnabled.field-0-is)) (same_run c.args.self.now.world c.step.new.self c.in-Err-NotEnabled.ensures.err) c.in-Err-NotEnabled.ensures.unasked

pub returns-in-Err-NotEnabled-clause-scripts : goal.returns-in-Err-NotEnabled-clause-scripts
returns-in-Err-NotEnabled-clause-scripts g c =
    kept_at g.W.Wire.rule c.args.wires.now c.args.self.now.in_use c.index-wires-self.result c.step.new.wire c.step.ensures.script

pub returns-in-Err-NotEnabled-clause-loaded : goal.returns-in-Err-NotEnabled-clause-loaded
returns-in-Err-NotEnabled-clause-loaded g c =
    kept_at g.W.Wire.loaded c.args.wires.now c.args.self.now.in_use c.index-wires-self.result c.step.new.wire c.step.ensures.since

pub returns-in-Err-NoMemory-clause-stopped : goal.returns-in-Err-NoMemory-clause-stopped
returns-in-Err-NoMemory-clause-stopped g c =
    stopped_asked_by g.W.Wire.told c.args.wires.now c.index-wires-self.result c.step.new.wire g.P.OneRun.run.frame (without_tasks c.args.self.now.world) (without_tasks c.step.new.self) c.args.self.now.in_use g.P.OneRun.run.told
    c.args.act c.worlds_count.ensures.counted c.requires.answered c.requires.going (same_run c.args.self.now.world c.step.new.self c.in-Err-NoMemory.ensures.err) c.in-Err-NoMemory.ensures.unasked

pub returns-in-Err-NoMemory-clause-scripts : goal.returns-in-Err-NoMemory-clause-scripts
returns-in-Err-NoMemory-clause-scripts g c =
    kept_at g.W.Wire.rule c.args.wires.now c.args.self.now.in_use c.index-wires-self.result c.step.new.wire c.step.ensures.script

pub returns-in-Err-NoMemory-clause-loaded : goal.returns-in-Err-NoMemory-clause-loaded
returns-in-Err-NoMemory-clause-loaded g c =
    kept_at g.W.Wire.loaded c.args.wires.now c.args.self.now.in_use c.index-wires-self.result c.step.new.wire c.step.ensures.since

pub returns-in-Ok-clause-order : goal.returns-in-Ok-clause-order
returns-in-Ok-clause-order g c = λ _. stepped_by g.P.OneRun.run.frame c.args.self.now.world c.in-Some.act c.event_of.result c.step.new.self _ _ c.event_of.ensures c.in-Ok.ensures.done c.in-Ok.ensures.out

pub returns-in-Err-NotEnabled-clause-same : goal.returns-in-Err-NotEnabled-clause-same
returns-in-Err-NotEnabled-clause-same g c = λ _. (
  same_driver c.args.self.now c.step.new.self c.in-Err-NotEnabled.ensures.err,
  kept_at g.W.Wire.told c.args.wires.now c.args.self.now.in_use c.index-wires-self.result c.step.new.wire c.in-Err-NotEnabled.ensures.unasked,
)

pub returns-in-Err-NoMemory-clause-err : goal.returns-in-Err-NoMemory-clause-err
returns-in-Err-NoMemory-clause-err g c = (
  same_driver c.args.self.now c.step.new.self c.in-Err-NoMemory.ensures.err,
  kept_at g.W.Wire.told c.args.wires.now c.args.self.now.in_use c.index-wires-self.result c.step.new.wire c.in-Err-NoMemory.ensures.unasked,
)
