use Rattle.run_loop.proofs.Stepping.{due_by, stopped_by}
use Rattle.run_loop.proofs.Telling.{kept_at}
use Rattle.room_state.specs.Driven.{without_tasks}
use Rattle.room_state.proofs.Stepped.{none_out, same_driver, same_run, stepped_so}
use Rattle.room_state.proofs.Ordering.{has_stepped}
use Rattle.room_state.proofs.drive.Driver.step.Goals as goal

pub returns-in-Ok-clause-went : goal.returns-in-Ok-clause-went
returns-in-Ok-clause-went g c =
    due_by g.W.Wire.told c.args.wires.now c.index-wires-self.result c.step.new.wire g.P.OneRun.run.frame (without_tasks c.args.self.now.world) (without_tasks c.step.new.self) c.args.self.now.in_use g.P.OneRun.run.told
    c.args.event c.worlds_count.ensures.counted c.requires.on c.requires.plain c.requires.first (stepped_so g.P.OneRun.run.frame c.args.event c.args.self.now.world c.step.new.self _ _ c.in-Ok.ensures.done) (none_out c.args.self.now.world c.step.new.self)

pub returns-in-Ok-clause-scripts : goal.returns-in-Ok-clause-scripts
returns-in-Ok-clause-scripts g c =
    kept_at g.W.Wire.rule c.args.wires.now c.args.self.now.in_use c.index-wires-self.result c.step.new.wire c.step.ensures.script

pub returns-in-Ok-clause-loaded : goal.returns-in-Ok-clause-loaded
returns-in-Ok-clause-loaded g c =
    kept_at g.W.Wire.loaded c.args.wires.now c.args.self.now.in_use c.index-wires-self.result c.step.new.wire c.step.ensures.since

pub returns-in-Err-NoMemory-clause-stopped : goal.returns-in-Err-NoMemory-clause-stopped
returns-in-Err-NoMemory-clause-stopped g c =
    stopped_by g.W.Wire.told c.args.wires.now c.index-wires-self.result c.step.new.wire g.P.OneRun.run.frame (without_tasks c.args.self.now.world) (without_tasks c.step.new.self) c.args.self.now.in_use g.P.OneRun.run.told
    c.requires.on (λ w led. (c.requires.possible w led).0) (same_run c.args.self.now.world c.step.new.self c.in-Err-NoMemory.ensures.err) c.in-Err-NoMemory.ensures.unasked

pub returns-in-Err-NoMemory-clause-scripts : goal.returns-in-Err-NoMemory-clause-scripts
returns-in-Err-NoMemory-clause-scripts g c =
    kept_at g.W.Wire.rule c.args.wires.now c.args.self.now.in_use c.index-wires-self.result c.step.new.wire c.step.ensures.script

pub returns-in-Err-NoMemory-clause-loaded : goal.returns-in-Err-NoMemory-clause-loaded
returns-in-Err-NoMemory-clause-loaded g c =
    kept_at g.W.Wire.loaded c.args.wires.now c.args.self.now.in_use c.index-wires-self.result c.step.new.wire c.step.ensures.since

pub returns-in-Ok-clause-order : goal.returns-in-Ok-clause-order
returns-in-Ok-clause-order g c = has_stepped g.P.OneRun.run.frame c.args.self.now.world c.args.event c.step.new.self _ _ c.requires.order c.in-Ok.ensures.done c.in-Ok.ensures.out

pub returns-in-Err-NoMemory-clause-err : goal.returns-in-Err-NoMemory-clause-err
returns-in-Err-NoMemory-clause-err g c = (
  same_driver c.args.self.now c.step.new.self c.in-Err-NoMemory.ensures.err,
  kept_at g.W.Wire.told c.args.wires.now c.args.self.now.in_use c.index-wires-self.result c.step.new.wire c.in-Err-NoMemory.ensures.unasked,
)
