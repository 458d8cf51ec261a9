use Rattle.std.proofs.Common.{ℕ, sym, subst}
use Rattle.emitted_code.specs.Views.{program_seen}
use Rattle.code_steps.specs.Bodies.{config_of, effect_in}
use Rattle.code_runs.specs.Runs.{HaltsSo, halts}
use Rattle.code_runs.proofs.runs.run.Goals as goal

pub steps-preserved : goal.steps-preserved
steps-preserved c = λ room e left' rest.
    let code = program_seen c.args.code.now in
    let here = config_of c.steps.config in
    c.steps.invariant room e left' (c.halts.ensures.goes c.if-halts.false code here (config_of c.step.new.config) e left' (c.in_ok-effect.ensures (room here)) rest)

pub returns-then-halts : goal.returns-then-halts
returns-then-halts c = λ room.
    let code = program_seen c.args.code.now in
    let here = config_of c.steps.config in
    let halted = c.halts.ensures.halts c.if-halts.true in
    let e = effect_in c.in_ok-effect.effect (config_of c.step.new.config) in
    c.steps.invariant room e c.halts.new.left
    (subst (λ (k : ℕ). HaltsSo code here c.steps.left e k) (sym halted.0)
    (halts (c.in_ok-effect.ensures (room here)) (halted.1 (config_of c.step.new.config))))
