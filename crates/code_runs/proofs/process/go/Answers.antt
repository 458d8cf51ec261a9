use Rattle.std.proofs.Common.{◌≡◌, ap, arith}
use Rattle.std.proofs.lemmas.Result.{IfOk-weaker}
use Rattle.emitted_code.specs.Views.{program_seen}
use Rattle.code_steps.specs.Bodies.{config_of}
use Rattle.code_runs.specs.Processes.{phase_of, process_of, with_reply}
use Rattle.code_runs.proofs.Ending.{gone_on, left_asking, left_over, stays_asking, stays_over}
use Rattle.code_runs.proofs.process.go.Goals as goal

pub returns-in_ok-push_reply-in-Running-clause-came : goal.returns-in_ok-push_reply-in-Running-clause-came
returns-in_ok-push_reply-in-Running-clause-came c = λ room some fits.
    let p = c.args.process in
    let old = with_reply c.in-Running.reply (config_of c.in-Running.config) in
    let new = config_of c.push_reply.new.config in
    let budget = c.from.result in
    let same : budget ≡ c.args.budget = c.from.ensures in
    IfOk-weaker c.run_on.result _ _
    (λ r g. gone_on (program_seen c.args.code.now) (phase_of p.phase) old new p.turns c.args.budget budget (process_of r.0, r.1) (ap phase_of c.in-Running.is) (c.in_ok-push_reply-in-Running.ensures {u = tt}) same g)
    (c.run_on.ensures.came room (omega (arith, some, same)) (omega (arith, fits, same)))

pub returns-in-Asking-clause-came : goal.returns-in-Asking-clause-came
returns-in-Asking-clause-came c = λ room some fits.
    let p = c.args.process in
    IfOk-weaker c.asking.result _ _
    (λ r e. stays_asking (program_seen c.args.code.now) (phase_of p.phase) c.in-Asking.action (config_of c.in-Asking.config) p.turns c.args.budget (process_of r.0) r.1 (ap phase_of c.in-Asking.is) e.0 e.1)
    c.asking.ensures

pub returns-in-Asking-clause-left : goal.returns-in-Asking-clause-left
returns-in-Asking-clause-left c =
    IfOk-weaker c.asking.result _ _ (λ r e. left_asking (process_of r.0) r.1 c.in-Asking.action (config_of c.in-Asking.config) c.args.process.turns e.0 e.1) c.asking.ensures

pub returns-in-Finished-clause-came : goal.returns-in-Finished-clause-came
returns-in-Finished-clause-came c = λ room some fits.
    let p = c.args.process in
    IfOk-weaker c.over.result _ _
    (λ r e. stays_over (program_seen c.args.code.now) (phase_of p.phase) c.in-Finished.action p.turns c.args.budget (process_of r.0) r.1 (ap phase_of c.in-Finished.is) e.0 e.1)
    c.over.ensures

pub returns-in-Finished-clause-left : goal.returns-in-Finished-clause-left
returns-in-Finished-clause-left c =
    IfOk-weaker c.over.result _ _ (λ r e. left_over (process_of r.0) r.1 c.in-Finished.action c.args.process.turns e.0 e.1) c.over.ensures
